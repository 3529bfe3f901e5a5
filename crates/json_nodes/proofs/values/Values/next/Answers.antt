use Rattle.std.proofs.Common.{◌∙◌, ap}
use Rattle.json_nodes.specs.Values.{doc_of}
use Rattle.json_nodes.specs.Steps.{next_number}
use Rattle.json_nodes.proofs.Looks.{next_law, next_later, next_root}
use Rattle.json_nodes.proofs.values.Values.next.Goals as goal

pub returns-clause-next : goal.returns-clause-next
returns-clause-next c = λ k n t u a. rw c.next_number.ensures (next_law (doc_of c.args.self) k n c.args.node t u a)

pub returns-clause-root : goal.returns-clause-root
returns-clause-root c = λ t h root. c.next_number.ensures ∙ (ap (λ k. next_number c.args.self.nodes.now k) root ∙ next_root c.args.self.nodes.now t h.nodes)

pub returns-clause-inside : goal.returns-clause-inside
returns-clause-inside c = rw c.next_number.ensures (next_later c.args.self.nodes.now c.args.node)
