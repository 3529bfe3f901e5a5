use Rattle.std.proofs.Common.{◌∙◌, sym, ap}
use Rattle.id_rewrite.specs.Tables.{Table, number_under}
use Rattle.id_rewrite.proofs.Finding.{is_under_here, not_known, not_open, not_under}
use Rattle.id_rewrite.proofs.Keeping.{keyed}
use Rattle.id_rewrite.proofs.table.IdTable.found.Goals as goal

pub returns-in_err-number-clause-exact : goal.returns-in_err-number-clause-exact
returns-in_err-number-clause-exact c =
    c.from_residual.ensures ∙ (not_known c.self.inside.numbers.entries c.args.editor c.args.id.now c.self.inside.slots.requests (c.self.invariant.known c.if-self.false)
    (keyed c.self.inside.numbers.entries _ _ _ c.fingerprint.ensures c.in_err-number.ensures.value)
    ∙ ap (λ (t : Table). number_under c.args.editor c.args.id.now t.requests) c.self.view_is)

pub returns-in_err-pending-clause-exact : goal.returns-in_err-pending-clause-exact
returns-in_err-pending-clause-exact c =
    c.from_residual-in_err-pending.ensures ∙ (not_open 2 c.self.inside.slots.next c.self.inside.numbers.entries c.args.editor c.args.id.now c.self.inside.slots.requests c.in_ok-number.field-0.now c.self.invariant.order.rising (c.self.invariant.known c.if-self.false)
    (keyed c.self.inside.numbers.entries _ _ _ c.fingerprint.ensures c.in_ok-number.ensures.value) (sym c.in_err-pending.ensures.value)
    ∙ ap (λ (t : Table). number_under c.args.editor c.args.id.now t.requests) c.self.view_is)

pub returns-then-is_under-clause-exact : goal.returns-then-is_under-clause-exact
returns-then-is_under-clause-exact c =
    is_under_here c.self.inside.numbers.entries c.args.editor c.args.id.now c.self.inside.slots.requests c.in_ok-number.field-0.now c.in_ok-pending.pending.now (c.self.invariant.known c.if-self.false)
    (keyed c.self.inside.numbers.entries _ _ _ c.fingerprint.ensures c.in_ok-number.ensures.value) (sym c.in_ok-pending.ensures.value) (sym c.is_under.ensures ∙ c.if-is_under.true)
    ∙ ap (λ (t : Table). number_under c.args.editor c.args.id.now t.requests) c.self.view_is

pub returns-else-is_under-clause-exact : goal.returns-else-is_under-clause-exact
returns-else-is_under-clause-exact c =
    not_under 2 c.self.inside.slots.next c.self.inside.numbers.entries c.args.editor c.args.id.now c.self.inside.slots.requests c.in_ok-number.field-0.now c.in_ok-pending.pending.now c.self.invariant.order.rising (c.self.invariant.known c.if-self.false)
    (keyed c.self.inside.numbers.entries _ _ _ c.fingerprint.ensures c.in_ok-number.ensures.value) (sym c.in_ok-pending.ensures.value) (sym c.is_under.ensures ∙ c.if-is_under.false)
    ∙ ap (λ (t : Table). number_under c.args.editor c.args.id.now t.requests) c.self.view_is
