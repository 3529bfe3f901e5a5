-- The work that an editor cancels, of an open request or of a token that it accepted, as the row reads it.
use Rattle.std.specs.Prelude.{◌≡◌, ℕ, List, codes}
use Rattle.std.specs.Prelude.{Option, Some, None, slice_get}
use Rattle.json_text.specs.Json.{Json}
use Rattle.mux_history.specs.declared.out.Out.TheVariants.{ToServer}
use Rattle.event_model.specs.Does.{Alike}
use Rattle.event_model.specs.Event.{Event}
use Rattle.event_model.specs.Row.{Row, choose, nothing, on, send}
use Rattle.event_model.specs.Settings.{Settings}
use Rattle.event_model.specs.Spawns.{start_of}
use Rattle.event_model.specs.Stages.{is_ready, life_of}
use Rattle.group_words.specs.Houses.{home_of}
use Rattle.rpc_message.specs.Message.{message_of, notification}
use Rattle.group_rows.specs.CreatedRows.{created_work, work_row}
use Rattle.group_rows.specs.Tokens.{mark_text, marked_text, work_mark}
use Rattle.mux_editors.specs.declared.cancelled.Target.{Target}
use Rattle.mux_editors.specs.declared.worked.Work.{Work}

-- the row of tokens that the start of the editor's group created
abbrev pub created_at : Settings → List Event → ℕ → List ℕ → Option Json → ℕ → Row
created_at settings before e body params s = choose (is_ready (life_of s before).stage) (created_work settings before e body params s) nothing

abbrev pub created_work_row : Settings → List Event → ℕ → List ℕ → Option Json → Row
created_work_row settings before e body params = on (home_of settings e before) nothing (λ g. on (start_of g before) nothing (created_at settings before e body params))

-- the row sends this request's start the daemon's token of its work, or is that of created tokens; `starts` are the last starts of the groups
abbrev pub Works : Settings → List Event → ℕ → List ℕ → Option Json → List ℕ → Option Target → Type 0
Works settings before e body params starts None = Alike (work_row settings before e body params) (created_work_row settings before e body params)
Works settings before e body params starts (Some x) = (s : ℕ) → slice_get starts x.group ≡ Some s
    → Alike (work_row settings before e body params) (send (ToServer s (marked_text (mark_text (work_mark x.number)) body)))

abbrev pub IsCancel : List ℕ → Type 0
IsCancel text = (params : Option Json) × (message_of text ≡ notification (codes "window/workDoneProgress/cancel") params)

-- the row sends this start this text, which is such a notification, or nothing
abbrev pub Goes : Settings → List Event → ℕ → List ℕ → Option Json → List ℕ → Option Work → Type 0
Goes settings before e body params starts None = Alike (work_row settings before e body params) nothing
Goes settings before e body params starts (Some x) = IsCancel x.text × ((s : ℕ) → slice_get starts x.group ≡ Some s → Alike (work_row settings before e body params) (send (ToServer s x.text)))
