-- Those before got the error.
use Rattle.std.proofs.Common.{◌≡◌, ℕ, List, length, take, true}
use Rattle.std.specs.Prelude.{slice_get}
use Rattle.event_model.specs.Does.{Does}
use Rattle.event_model.specs.Event.{Event, behind}
use Rattle.event_model.specs.Row.{each}
use Rattle.event_model.specs.Settings.{Settings}
use Rattle.group_rows.specs.Rows.{refusal}
use Rattle.group_words.specs.Houses.{is_first_error}
use Rattle.rpc_message.specs.Message.{message_of}
use Rattle.rpc_message.specs.Parsed.{IsRead}
use Rattle.mux_tables.specs.Documents.{AllStand, nothing_owed}
use Rattle.mux_tables.specs.Names.{id_in}
use Rattle.mux_starts.specs.Refusing.{Adds, IsUnready}
use Rattle.mux_starts.proofs.PutOut.{AllWait}
use Rattle.mux_starts.proofs.refused.refuse_all.Given as goal

abbrev pub invariant-loop-e : goal.invariant-loop-e
invariant-loop-e l = record {
  count : length l.tables.editors ≡ length l.initial.tables.editors;
  ids : (n : ℕ) → id_in (slice_get l.tables.editors n) ≡ id_in (slice_get l.initial.tables.editors n);
  requests : l.tables.requests ≡ l.initial.tables.requests;
  versions : l.tables.versions ≡ l.initial.tables.versions;
  lasts : l.tables.lasts ≡ l.initial.tables.lasts;
  adds : Adds l.initial.outs l.outs;
  does : (settings : Settings) (base : List Event) (body : List ℕ) → IsRead l.message body → is_first_error (message_of body) ≡ true → IsUnready l.g l.initial.tables.lasts.items → AllWait settings l.initial.tables.editors (behind base l.initial.outs) l.g l.e-items
      → Does (λ k events. AllStand settings k events) (each (refusal body) (take l.e-index l.e-items)) base (l.initial.tables, nothing_owed) l.initial.outs (l.tables, nothing_owed) l.outs;
}
