-- The `initialize` of an editor that waits fails.
use Rattle.std.proofs.Common.{ap, sym, ◌∙◌}
use Rattle.std.specs.Prelude.{Some}
use Rattle.event_model.specs.Event.{behind}
use Rattle.event_model.specs.Phases.{is_waiting}
use Rattle.mux_turns.proofs.Failing.{refuses_none, refuses_waiting, unwaiting_none}
use Rattle.mux_turns.proofs.initials.refuse_initialize.Goals as goal

pub returns-then-not-is_waiting-clause-does : goal.returns-then-not-is_waiting-clause-does
returns-then-not-is_waiting-clause-does c = λ settings base asking housed.
    unwaiting_none settings c.args.tables.now base c.args.outs.now c.args.e (λ st. ap is_waiting (sym (c.phase.ensures settings (behind base c.args.outs.now) st)) ∙ (sym c.is_waiting.ensures ∙ c.if-not-is_waiting.true))

pub returns-in-None-clause-does : goal.returns-in-None-clause-does
returns-in-None-clause-does c = λ settings base asking housed.
    refuses_none settings c.args.tables.now base c.args.outs.now c.args.e housed (sym c.in-None.ensures)
    (λ st. ap is_waiting (sym (c.phase.ensures settings (behind base c.args.outs.now) st)) ∙ (sym c.is_waiting.ensures ∙ c.if-not-is_waiting.false))

pub returns-in_ok-refuse_id-in-Some-clause-does : goal.returns-in_ok-refuse_id-in-Some-clause-does
returns-in_ok-refuse_id-in-Some-clause-does c = λ settings base asking housed.
    refuses_waiting settings c.args.tables.now c.refuse_id.new.tables base c.args.outs.now c.refuse_id.new.outs c.args.e asking housed c.bytes.result.now (sym (ap (λ w. Some w) (c.bytes.ensures ∙ c.in_ok-own-in-Some.ensures) ∙ c.in-Some.ensures))
    (λ st. ap is_waiting (sym (c.phase.ensures settings (behind base c.args.outs.now) st)) ∙ (sym c.is_waiting.ensures ∙ c.if-not-is_waiting.false))
    (λ named. c.in_ok-refuse_id-in-Some.ensures.does settings base named)
