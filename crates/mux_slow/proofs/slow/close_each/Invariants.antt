-- Those before left, where they were slow.
use Rattle.std.proofs.Common.{◌≡◌, List, take}
use Rattle.event_model.specs.Does.{Does}
use Rattle.event_model.specs.Event.{Event, behind}
use Rattle.event_model.specs.Row.{each}
use Rattle.event_model.specs.Settings.{Settings}
use Rattle.group_facts.specs.SlowRows.{close_slow}
use Rattle.mux_causes.specs.Backlogs.{BacklogsStand}
use Rattle.mux_tables.specs.Documents.{AllStand, nothing_owed}
use Rattle.mux_slow.proofs.slow.close_each.Given as goal

abbrev pub invariant-loop-e : goal.invariant-loop-e
invariant-loop-e l = record {
  requests : l.tables.requests ≡ l.initial.tables.requests;
  versions : l.tables.versions ≡ l.initial.tables.versions;
  does : (settings : Settings) (base : List Event) → settings.limits.backlog ≡ l.limit → BacklogsStand l.backlogs (behind base l.initial.outs) → AllStand settings (l.initial.tables, nothing_owed) (behind base l.initial.outs)
      → Does (λ k events. AllStand settings k events) (each (close_slow settings) (take l.e-index l.editors)) base (l.initial.tables, nothing_owed) l.initial.outs (l.tables, nothing_owed) l.outs;
}
