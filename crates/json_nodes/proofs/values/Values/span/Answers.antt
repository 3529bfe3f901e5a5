use Rattle.json_nodes.specs.Values.{doc_of}
use Rattle.json_nodes.proofs.Looks.{span_law}
use Rattle.json_nodes.proofs.Spelled.{span_text}
use Rattle.json_nodes.proofs.values.Values.span.Goals as goal

pub returns-clause-span : goal.returns-clause-span
returns-clause-span c = λ t a. span_law (doc_of c.args.self) c.args.node t _ a

pub returns-clause-text : goal.returns-clause-text
returns-clause-text c = λ t a. span_text (doc_of c.args.self) c.args.node t a
