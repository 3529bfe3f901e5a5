use Rattle.json_nodes.specs.Values.{doc_of}
use Rattle.json_nodes.proofs.Spelled.{name_between, name_inside, quotes_spelled}
use Rattle.json_nodes.proofs.values.Values.name.Goals as goal

pub returns-clause-place : goal.returns-clause-place
returns-clause-place c = λ k n t u s a h. name_between (doc_of c.args.self) _ c.inside_quotes.result.now k n c.args.node t u s a h c.inside_quotes.ensures

pub returns-clause-spelled : goal.returns-clause-spelled
returns-clause-spelled c = λ k n t u cs a h. quotes_spelled c.args.self.bytes.now _ cs c.inside_quotes.result.now (name_inside (doc_of c.args.self) k n c.args.node t u cs _ a h) c.inside_quotes.ensures
