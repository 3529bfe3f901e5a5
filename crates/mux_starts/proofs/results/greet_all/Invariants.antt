-- Those before are answered.
use Rattle.std.proofs.Common.{◌≡◌, ℕ, List, length, take}
use Rattle.std.specs.Prelude.{slice_get}
use Rattle.event_model.specs.Does.{Does}
use Rattle.event_model.specs.Event.{Event, behind}
use Rattle.event_model.specs.Row.{each}
use Rattle.event_model.specs.Settings.{Settings}
use Rattle.group_rows.specs.Rows.{welcome}
use Rattle.group_words.specs.Rows.{shown_of}
use Rattle.rpc_message.specs.Message.{result_bytes}
use Rattle.mux_tables.specs.Documents.{AllStand, nothing_owed}
use Rattle.mux_tables.specs.Names.{id_in}
use Rattle.mux_turns.specs.Welcomes.{IsShown, Tells}
use Rattle.mux_turns.proofs.Welcoming.{AllGreeted}
use Rattle.mux_starts.proofs.results.greet_all.Given as goal

abbrev pub invariant-loop-e : goal.invariant-loop-e
invariant-loop-e l = record {
  count : length l.tables.editors ≡ length l.initial.tables.editors;
  ids : (n : ℕ) → id_in (slice_get l.tables.editors n) ≡ id_in (slice_get l.initial.tables.editors n);
  requests : l.tables.requests ≡ l.initial.tables.requests;
  versions : l.tables.versions ≡ l.initial.tables.versions;
  lasts : l.tables.lasts ≡ l.initial.tables.lasts;
  told : Tells l.initial.outs l.outs;
  does : (settings : Settings) (base : List Event) (body : List ℕ) → l.shown ≡ shown_of (result_bytes body) → IsShown body → AllGreeted l.initial.tables.editors (behind base l.initial.outs) l.e-items
      → Does (λ k events. AllStand settings k events) (each (welcome body) (take l.e-index l.e-items)) base (l.initial.tables, nothing_owed) l.initial.outs (l.tables, nothing_owed) l.outs;
}
