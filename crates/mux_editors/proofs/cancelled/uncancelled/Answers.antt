-- An open request of an editor under an id, where it wasn't cancelled.
use Rattle.std.proofs.Common.{ap, sym, ◌∙◌, if◌then◌else◌}
use Rattle.std.specs.Prelude.{None, Some}
use Rattle.mux_editors.proofs.Cancelling.{none_called, one_called}
use Rattle.mux_editors.proofs.cancelled.uncancelled.Goals as goal

pub returns-in_err-number : goal.returns-in_err-number
returns-in_err-number c = λ i text ids. c.from_residual.ensures ∙ none_called c.args.e i c.args.id.now text c.args.ids.now.requests ids c.in_err-number.ensures.exact

pub returns-in_err-pending : goal.returns-in_err-pending
returns-in_err-pending c = λ i text ids. c.from_residual-in_err-pending.ensures
    ∙ one_called c.args.e i c.args.id.now text c.args.ids.now.requests ids c.args.ids.now.next c.in_ok-number.number None c.in_err-pending.ensures.order.rising c.in_ok-number.ensures.exact c.in_err-pending.ensures.value

pub returns-then-pending : goal.returns-then-pending
returns-then-pending c = λ i text ids. ap (λ b. if b then None else Some c.in_ok-number.number) (sym c.if-pending.true)
    ∙ one_called c.args.e i c.args.id.now text c.args.ids.now.requests ids c.args.ids.now.next c.in_ok-number.number (Some c.in_ok-pending.pending.now) c.in_ok-pending.ensures.order.rising c.in_ok-number.ensures.exact c.in_ok-pending.ensures.value

pub returns-else-pending : goal.returns-else-pending
returns-else-pending c = λ i text ids. ap (λ b. if b then None else Some c.in_ok-number.number) (sym c.if-pending.false)
    ∙ one_called c.args.e i c.args.id.now text c.args.ids.now.requests ids c.args.ids.now.next c.in_ok-number.number (Some c.in_ok-pending.pending.now) c.in_ok-pending.ensures.order.rising c.in_ok-number.ensures.exact c.in_ok-pending.ensures.value
