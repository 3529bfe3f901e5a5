-- Those before are shown.
use Rattle.std.proofs.Common.{◌≡◌, List, length, take}
use Rattle.std.specs.Prelude.{Some, slice_get}
use Rattle.event_model.specs.declared.stage.Stage.TheVariants.{Ready}
use Rattle.event_model.specs.Does.{Does}
use Rattle.event_model.specs.Event.{Event}
use Rattle.event_model.specs.Row.{each}
use Rattle.event_model.specs.Settings.{Settings}
use Rattle.group_rows.specs.Lists.{lists_of}
use Rattle.mux_tables.specs.declared.tables.Start.{Start}
use Rattle.mux_tables.specs.Documents.{AllStand, Owed}
use Rattle.mux_turns.specs.group_facts.specs.Facts.{Meant}
use Rattle.mux_editors.specs.Shows.{show_at}
use Rattle.mux_editors.proofs.shows.show_each.Given as goal

abbrev pub invariant-loop-n : goal.invariant-loop-n
invariant-loop-n l = record {
  count : length l.tables.editors ≡ length l.initial.tables.editors;
  lasts : l.tables.lasts ≡ l.initial.tables.lasts;
  requests : l.tables.requests ≡ l.initial.tables.requests;
  versions : l.tables.versions ≡ l.initial.tables.versions;
  does : (settings : Settings) (owed : Owed) (base : List Event) (x : Start) → slice_get l.initial.tables.lasts.items l.g ≡ Some x → x.life.stage ≡ Ready → Meant base
      → Does (λ k events. AllStand settings k events) (each (show_at l.e (lists_of x.life.start base)) (take l.n-index l.numbers)) base (l.initial.tables, owed) l.initial.outs (l.tables, owed) l.outs;
}
