-- The last start ends, by where it stands.
use Rattle.std.proofs.Common.{ap, sym, ◌∙◌}
use Rattle.event_model.specs.Stages.{is_ready}
use Rattle.group_facts.specs.Why.{is_starting}
use Rattle.event_model.proofs.Turns.{does_knowing}
use Rattle.mux_turns.proofs.Evictions.{ends_never, ends_now, ends_ready, stage_here, starting_runs}
use Rattle.mux_turns.proofs.Ready.{is_that_ready, start_from}
use Rattle.mux_turns.proofs.evicting.end_start.Goals as goal

pub shut_down-requires-clause-ready : goal.shut_down-requires-clause-ready
shut_down-requires-clause-ready c = λ x at. is_that_ready x.life.stage (ap is_ready (sym (c.stage_at-stage.ensures x at)) ∙ (sym c.is_ready.ensures ∙ c.if-is_ready.true))

pub end-requires-clause-runs : goal.end-requires-clause-runs
end-requires-clause-runs c = λ x at. starting_runs x.life.stage (ap is_starting (sym (c.stage_at-stage.ensures x at)) ∙ (sym c.is_starting.ensures ∙ c.if-is_starting.true))

pub returns-then-is_ready-clause-does : goal.returns-then-is_ready-clause-does
returns-then-is_ready-clause-does c = λ settings owed base s at numbered.
    let x = start_from c.args.tables.now.lasts.items c.args.g s at in
    let ready = is_that_ready x.0.life.stage (ap is_ready (sym (c.stage_at-stage.ensures x.0 x.1)) ∙ (sym c.is_ready.ensures ∙ c.if-is_ready.true)) in
    does_knowing (λ k. ends_ready settings c.args.tables.now c.shut_down.new.tables base c.args.outs.now c.shut_down.new.outs c.args.g s x.0 x.1 at owed ready
    (c.in_ok-shut_down.ensures.does settings owed base s at (numbered s (stage_here settings c.args.tables.now c.shut_down.new.tables base c.args.outs.now c.shut_down.new.outs c.args.g s x.0 x.1 at k.0 ∙ ready))))

pub returns-in_ok-end-clause-does : goal.returns-in_ok-end-clause-does
returns-in_ok-end-clause-does c = λ settings owed base s at numbered.
    let x = start_from c.args.tables.now.lasts.items c.args.g s at in
    let starting = ap is_starting (sym (c.stage_at-stage.ensures x.0 x.1)) ∙ (sym c.is_starting.ensures ∙ c.if-is_starting.true) in
    ends_now settings c.args.tables.now c.end.new.self base c.args.outs.now c.end.new.outs c.args.g s x.0 x.1 at owed starting (c.in_ok-end.ensures.does settings base s at) (λ ds. c.in_ok-end.ensures.documents settings owed base ds)

pub returns-else-is_starting-clause-does : goal.returns-else-is_starting-clause-does
returns-else-is_starting-clause-does c = λ settings owed base s at numbered.
    let x = start_from c.args.tables.now.lasts.items c.args.g s at in
    ends_never settings owed c.args.tables.now base c.args.outs.now c.args.g s x.0 x.1 at (ap is_ready (sym (c.stage_at-stage.ensures x.0 x.1)) ∙ (sym c.is_ready.ensures ∙ c.if-is_ready.false))
    (ap is_starting (sym (c.stage_at-stage.ensures x.0 x.1)) ∙ (sym c.is_starting.ensures ∙ c.if-is_starting.false))
