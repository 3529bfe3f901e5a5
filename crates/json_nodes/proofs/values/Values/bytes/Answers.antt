use Rattle.json_nodes.specs.Values.{doc_of}
use Rattle.json_nodes.proofs.Spelled.{value_between, value_inside}
use Rattle.json_nodes.proofs.values.Values.bytes.Goals as goal

pub returns-clause-place : goal.returns-clause-place
returns-clause-place c = λ t a. value_between (doc_of c.args.self) c.args.node t _ c.part.result.now a c.part.ensures

pub returns-clause-spelled : goal.returns-clause-spelled
returns-clause-spelled c = λ t a. value_inside (doc_of c.args.self) c.args.node t c.part.result.now a
    (value_between (doc_of c.args.self) c.args.node t _ c.part.result.now a c.part.ensures)
