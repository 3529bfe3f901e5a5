use Rattle.std.proofs.Common.{sym, ◌∙◌}
use Rattle.std.specs.List.{slice_get}
use Rattle.json_text.specs.Named.{children}
use Rattle.json_nodes.specs.Values.{doc_of}
use Rattle.json_nodes.proofs.Absent.{after_none, after_some, child_found}
use Rattle.json_nodes.proofs.values.Values.maybe_next.Goals as goal

pub returns-in_err-node-clause-next : goal.returns-in_err-node-clause-next
returns-in_err-node-clause-next c = λ k n t h.
    after_none (doc_of c.args.self) k n t c.args.node c.from_residual.result (sym (c.within.ensures.same (slice_get (children t) n) (child_found (doc_of c.args.self) k n t c.args.node h)) ∙ c.in_err-node.was) c.from_residual.ensures h

pub returns-clause-next : goal.returns-clause-next
returns-clause-next c = λ k n t h.
    after_some (doc_of c.args.self) k n c.in_ok-node.node t c.args.node c.next.result (c.in_ok-node.ensures.same (slice_get (children t) n) (child_found (doc_of c.args.self) k n t c.args.node h)) (λ k n t u a. c.next.ensures.next k n t u a) h
