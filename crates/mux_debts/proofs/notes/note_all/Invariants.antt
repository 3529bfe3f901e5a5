-- It is noted of those before.
use Rattle.std.proofs.Common.{◌≡◌, List, ℕ, take, true}
use Rattle.std.specs.Prelude.{Option, Some, slice_get}
use Rattle.json_text.specs.Json.{Json}
use Rattle.event_model.specs.declared.stage.Stage.TheVariants.{Ready}
use Rattle.event_model.specs.Event.{Event}
use Rattle.event_model.specs.Settings.{Settings}
use Rattle.rpc_message.specs.Message.{Id, message_of, request}
use Rattle.rpc_message.specs.Parsed.{IsRead}
use Rattle.group_rows.specs.Debts.{wants_refresh}
use Rattle.mux_tables.specs.declared.tables.Start.{Start}
use Rattle.mux_tables.specs.Documents.{DocumentsStand, nothing_owed}
use Rattle.mux_tables.specs.Stands.{Stands}
use Rattle.mux_debts.specs.Noted.{all_noted}
use Rattle.mux_debts.proofs.notes.note_all.Given as goal

abbrev pub invariant-loop-e : goal.invariant-loop-e
invariant-loop-e l = (settings : Settings) (before : List Event) (body method : List ℕ) (id : Id) (params : Option Json) (x : Start) → IsRead l.message body → message_of body ≡ request id method params → wants_refresh method ≡ true
    → slice_get l.tables.lasts.items l.g ≡ Some x → x.life.stage ≡ Ready → Stands settings l.tables before → DocumentsStand settings nothing_owed l.tables before
    → l.debts ≡ all_noted settings x.life.start before body method (take l.e-index l.numbers) l.initial.debts
