-- Those before ended.
use Rattle.std.proofs.Common.{◌≡◌, List, take}
use Rattle.event_model.specs.Does.{Does}
use Rattle.event_model.specs.Event.{Event, behind}
use Rattle.event_model.specs.Row.{each}
use Rattle.event_model.specs.Settings.{Settings}
use Rattle.group_facts.specs.Facts.{Numbered}
use Rattle.group_words.specs.Rows.{end_group}
use Rattle.mux_tables.specs.Documents.{AllStand, Owed}
use Rattle.mux_turns.proofs.evicting.end_groups.Given as goal

abbrev pub invariant-loop-g : goal.invariant-loop-g
invariant-loop-g l = record {
  requests : l.tables.requests ≡ l.initial.tables.requests;
  versions : l.tables.versions ≡ l.initial.tables.versions;
  numbered : (settings : Settings) (owed : Owed) (base : List Event) → Numbered settings (behind base l.initial.outs) → AllStand settings (l.initial.tables, owed) (behind base l.initial.outs) → Numbered settings (behind base l.outs);
  does : (settings : Settings) (owed : Owed) (base : List Event) → Numbered settings (behind base l.initial.outs)
      → Does (λ k events. AllStand settings k events) (each end_group (take l.g-index l.groups)) base (l.initial.tables, owed) l.initial.outs (l.tables, owed) l.outs;
}
