use Rattle.json_nodes.specs.Values.{doc_of}
use Rattle.json_nodes.proofs.Looks.{kind_law}
use Rattle.json_nodes.proofs.values.Values.kind.Goals as goal

pub returns : goal.returns
returns c = λ t a. kind_law (doc_of c.args.self) c.args.node t _ a
