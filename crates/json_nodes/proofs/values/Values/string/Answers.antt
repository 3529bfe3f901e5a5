use Rattle.json_nodes.specs.Values.{doc_of}
use Rattle.json_nodes.proofs.Spelled.{string_between, string_inside, quotes_spelled}
use Rattle.json_nodes.proofs.values.Values.string.Goals as goal

pub returns-clause-place : goal.returns-clause-place
returns-clause-place c = λ s cs a. string_between (doc_of c.args.self) _ c.inside_quotes.result.now c.args.node s cs a c.inside_quotes.ensures

pub returns-clause-spelled : goal.returns-clause-spelled
returns-clause-spelled c = λ s cs a. quotes_spelled c.args.self.bytes.now _ cs c.inside_quotes.result.now (string_inside (doc_of c.args.self) c.args.node s cs _ a) c.inside_quotes.ensures
