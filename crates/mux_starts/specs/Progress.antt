-- What an editor is told of an open request of its own, as the row of progress reads it.
use Rattle.std.specs.Prelude.{◌≡◌, ℕ, List}
use Rattle.std.specs.Prelude.{Option, Some, None}
use Rattle.json_text.specs.Json.{Json}
use Rattle.mux_history.specs.declared.out.Out.TheVariants.{ToEditor}
use Rattle.rpc_message.specs.Message.{message_of, notification}
use Rattle.event_model.specs.Does.{Alike}
use Rattle.event_model.specs.Event.{Event}
use Rattle.event_model.specs.Row.{send}
use Rattle.event_model.specs.Settings.{Settings}
use Rattle.group_rows.specs.CreatedRows.{created_row, progress_row}
use Rattle.mux_starts.specs.declared.progress.Telling.{Telling}

-- the row sends the editor this text, a notification of the same method; or it is that of tokens that the start created
abbrev pub Passes : Settings → ℕ → List Event → List ℕ → List ℕ → Option Json → Option Telling → Type 0
Passes settings s before body method params None = Alike (progress_row settings s before body params) (created_row settings s before body params)
Passes settings s before body method params (Some x) = ((new : Option Json) × (message_of x.text ≡ notification method new))
    × Alike (progress_row settings s before body params) (send (ToEditor x.editor x.text))
