-- The outs of the cause's row, and behind them those of the editors that are slow: no other one is.
use Rattle.std.proofs.Common.{◌++◌, ap, ◌∙◌}
use Rattle.event_model.specs.declared.settings.Limits.{Limits}
use Rattle.event_model.specs.Event.{behind, with_cause}
use Rattle.event_model.specs.Row.{outs}
use Rattle.group_sessions.specs.group_facts.specs.SlowRows.{slow_row}
use Rattle.mux_slow.proofs.Quick.{all_told}
use Rattle.mux_hub.proofs.Quick.{carried_slow, joins_clear, quick_behind}
use Rattle.mux_hub.proofs.Spawned.{cause_spawns_none}
use Rattle.mux_hub.proofs.hub.turn.Goals as goal

pub returns-clause-takes : goal.returns-clause-takes
returns-clause-takes c = λ settings before l s d k n f h.
    let base = with_cause before c.args.cause.now in
    let t = c.in_ok-outs.ensures.takes settings before l s d k n f h.carried h.owed h.tables h.documents in
    let w = c.in_ok-leave_slow.ensures.slow settings base (ap (λ (x : Limits). x.backlog) l) (all_told settings before c.args.cause.now _ h.quick (joins_clear _ before c.args.cause.now h.backlogs f)) t.1.0 t.1.1 (c.in_ok-take.ensures before h.backlogs) in (
      w.0 ∙ ap (λ xs. xs ++ outs (slow_row settings) (behind base xs)) t.0,
      record {
        tables = w.1.0.0;
        documents = w.1.0.1;
        carried = carried_slow settings _ base _ _ w.0 (c.in_ok-outs.ensures.carried settings before l s d k n f h.carried h.tables h.documents);
        owed = c.forget_closed.ensures settings base (c.in_ok-outs.ensures.owed settings before k n f h.owed h.tables h.documents);
        backlogs = w.1.1;
        quick = quick_behind settings _ base _ _ t.1.0 w.0;
        servers = c.in_ok-note_spawns.ensures settings base d w.1.0.0 (h.servers ∙ cause_spawns_none settings before c.args.cause.now);
      },
    )
