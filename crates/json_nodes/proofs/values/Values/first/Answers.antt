use Rattle.json_nodes.specs.Values.{doc_of}
use Rattle.json_nodes.proofs.Looks.{first_law, first_later}
use Rattle.json_nodes.proofs.values.Values.first.Goals as goal

pub returns-clause-first : goal.returns-clause-first
returns-clause-first c = λ t a. rw c.first_number.ensures (first_law (doc_of c.args.self) c.args.node t a)

pub returns-clause-inside : goal.returns-clause-inside
returns-clause-inside c = rw c.first_number.ensures (first_later c.args.self.nodes.now c.args.node)
