use Rattle.std.proofs.Common.{◌+◌, ◌++◌, [], ◌∷◌, ◌||◌, ℕ, sym, ap, ◌∙◌}
use Rattle.mux_history.specs.declared.entry.Entry.{Entry}
use Rattle.mux_history.specs.Cores.{joins}
use Rattle.lane_echo.specs.Stops.{is_stop}
use Rattle.lane_echo.proofs.Histories.{joined_more, spawned_next, once_only, stop_more, stop_asked, stop_stays}
use Rattle.lane_echo.proofs.echo.EchoSteps.step.Goals as goal

pub returns-clause-ok : goal.returns-clause-ok
returns-clause-ok c = λ history h.
    let entry : Entry = record { cause = c.args.cause; outs = c.in-Ok.outs } in (
      c.in-Some.ensures.some.0 ∙ ap (λ (n : ℕ). n + joins c.args.cause) h.0 ∙ sym (joined_more history entry),
      c.stopped_behind-stopped.ensures ∙ ap (λ b. b || is_stop c.args.cause) h.1 ∙ sym (stop_more history entry),
      spawned_next c.args.self.now.spawned c.in-Some-spawned_behind.spawned history entry c.in-Some-spawned_behind.ensures.some.0 h.2 (λ s. c.in-Ok.ensures s),
    )

pub returns-clause-once : goal.returns-clause-once
returns-clause-once c = λ history s h.
    let entry : Entry = record { cause = c.args.cause; outs = c.in-Ok.outs } in
    once_only c.in-Some-spawned_behind.spawned s (history ++ entry ∷ []) (spawned_next c.args.self.now.spawned c.in-Some-spawned_behind.spawned history entry c.in-Some-spawned_behind.ensures.some.0 h.2 (λ s. c.in-Ok.ensures s))

pub returns-clause-stops : goal.returns-clause-stops
returns-clause-stops c = λ history h asked. stop_asked history (record { cause = c.args.cause; outs = c.in-Ok.outs }) asked

pub returns-clause-stays : goal.returns-clause-stays
returns-clause-stays c = λ history h stopped. stop_stays history (record { cause = c.args.cause; outs = c.in-Ok.outs }) stopped
