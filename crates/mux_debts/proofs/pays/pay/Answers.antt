-- Nothing is due, or its editor is asked it.
use Rattle.std.proofs.Common.{◌≡◌, ◌≤◌, ◌<◌, [], ap, arith, length, subst, sym, ◌∙◌}
use Rattle.std.proofs.lemmas.Bool.Decides.{nat_tests}
use Rattle.event_model.specs.declared.phase.Phase.TheVariants.{Absent, Running}
use Rattle.event_model.specs.Does.{Does}
use Rattle.event_model.specs.Row.{each}
use Rattle.event_model.proofs.Turns.{does_knowing, does_nothing}
use Rattle.mux_tables.specs.Documents.{AllStand, nothing_owed}
use Rattle.mux_tables.specs.Stands.{phase_in}
use Rattle.mux_debts.specs.Going.{pays}
use Rattle.mux_debts.proofs.Going.{empty_of, past_none}
use Rattle.mux_debts.proofs.pays.pay.Goals as goal

pub returns-then-is_empty-clause-does : goal.returns-then-is_empty-clause-does
returns-then-is_empty-clause-does c = λ settings base all can.
    subst (λ ds. Does (λ k events. AllStand settings k events) (each (pays c.args.e) ds) base (c.args.tables.now, nothing_owed) c.args.outs.now (c.args.tables.now, nothing_owed) c.args.outs.now)
    (sym (empty_of c.args.due.now (sym c.is_empty.ensures ∙ c.if-is_empty.true))) does_nothing

pub returns-then-e-count-clause-does : goal.returns-then-e-count-clause-does
returns-then-e-count-clause-does c = λ settings base all can.
    let empty = c.is_empty.ensures in
    let full = c.if-is_empty.false in
    let some : 0 < length c.args.due.now = grind (arith, nat_tests) in
    let past : length c.args.tables.now.editors ≤ c.args.e = omega arith in
    does_knowing (λ k. absurd (let clash : Running ≡ Absent = sym (can some).runs ∙ (k.0.house.editors.phase c.args.e ∙ ap phase_in (past_none c.args.tables.now.editors c.args.e past)) in cc))

pub returns-clause-does : goal.returns-clause-does
returns-clause-does c = λ settings base all can.
    let empty = c.is_empty.ensures in
    let full = c.if-is_empty.false in
    let some : 0 < length c.args.due.now = grind (arith, nat_tests) in
    c.pay_all.ensures.does settings base all (can some)
