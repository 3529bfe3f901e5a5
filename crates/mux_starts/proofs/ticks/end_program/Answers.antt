-- The program of one start.
use Rattle.std.proofs.Common.{ap, sym, ◌∙◌}
use Rattle.event_model.specs.Event.{behind}
use Rattle.group_rows.specs.Ticks.{is_stopping}
use Rattle.mux_tables.specs.Documents.{nothing_owed}
use Rattle.mux_tables.proofs.DocumentOwed.{all_does}
use Rattle.mux_turns.proofs.Ready.{start_from}
use Rattle.mux_starts.proofs.Ticking.{ends_nowhere, ends_unstopped, stopping_runs}
use Rattle.mux_starts.proofs.ticks.end_program.Goals as goal

pub end-requires-clause-runs : goal.end-requires-clause-runs
end-requires-clause-runs c = λ x at. stopping_runs x.life.stage (ap is_stopping (sym (c.stage_at.ensures x at)) ∙ (sym c.is_stopping.ensures ∙ c.if-is_stopping.true))

pub returns-in-None-clause-does : goal.returns-in-None-clause-does
returns-in-None-clause-does c = λ settings base at. ends_nowhere settings c.args.tables.now base c.args.outs.now c.args.s at (λ st. c.in-None.ensures.none settings (behind base c.args.outs.now) st)

pub returns-in_ok-end-in-Some-clause-does : goal.returns-in_ok-end-in-Some-clause-does
returns-in_ok-end-in-Some-clause-does c = λ settings base at.
    all_does settings c.args.tables.now c.end.new.self nothing_owed nothing_owed base c.args.outs.now c.end.new.outs (c.in_ok-end-in-Some.ensures.does settings base c.args.s c.in-Some.ensures.found)
    (λ _ ds. c.in_ok-end-in-Some.ensures.documents settings nothing_owed base ds)

pub returns-else-is_stopping-clause-does : goal.returns-else-is_stopping-clause-does
returns-else-is_stopping-clause-does c = λ settings base at.
    let x = start_from c.args.tables.now.lasts.items c.in-Some.g c.args.s c.in-Some.ensures.found in
    ends_unstopped settings c.args.tables.now base c.args.outs.now c.args.s at c.in-Some.g x.0 x.1 c.in-Some.ensures.found
    (ap is_stopping (sym (c.stage_at.ensures x.0 x.1)) ∙ (sym c.is_stopping.ensures ∙ c.if-is_stopping.false))
