-- The open request that a cancel names, as the row of cancels reads it.
use Rattle.std.specs.Prelude.{◌≡◌, ℕ, List}
use Rattle.std.specs.Prelude.{Option, Some, None, slice_get}
use Rattle.std.specs.List.{AllByRecursion}
use Rattle.json_text.specs.Json.{Json}
use Rattle.mux_history.specs.declared.out.Out.TheVariants.{ToServer}
use Rattle.rpc_message.specs.Message.{Id}
use Rattle.rpc_message.specs.ValueTexts.{IsIdText}
use Rattle.event_model.specs.Does.{Alike}
use Rattle.event_model.specs.Event.{Event}
use Rattle.event_model.specs.Row.{nothing, send}
use Rattle.event_model.specs.Settings.{Settings}
use Rattle.group_rows.specs.Cancelling.{cancelling_row, numbered_text}
use Rattle.std.specs.Option.{option_and_then}
use Rattle.group_rows.specs.held_requests.specs.declared.request.Request.{Request}
use Rattle.group_words.specs.Houses.{home_of}
use Rattle.group_rows.specs.Waiting.{named_id, waiting_named, waiting_of}
use Rattle.group_rows.specs.Forwarded.{Forwarded}
use Rattle.mux_editors.specs.declared.cancelled.Target.{Target}

-- the bytes that are kept of each request's id are an id's
abbrev pub HaveIds : List Forwarded → Type 0
HaveIds fs = AllByRecursion (λ (f : Forwarded). (id : Id) × IsIdText id f.id) fs

-- the request that a cancel names, where it waits in its editor's group
abbrev pub waiting_there : Settings → List Event → ℕ → Option Json → Option Request
waiting_there settings before e params = option_and_then (λ g. waiting_named e params (waiting_of settings g before)) (home_of settings e before)

-- the row sends the cancel of this request, or nothing; `starts` are the last starts of the groups
abbrev pub Names : Settings → List Event → ℕ → List ℕ → Option Json → List ℕ → Option Target → Type 0
Names settings before e body params starts None = Alike (cancelling_row settings before e body params) nothing
Names settings before e body params starts (Some x) = ((id : Id) × (named_id params ≡ Some id))
    × ((s : ℕ) → slice_get starts x.group ≡ Some s → Alike (cancelling_row settings before e body params) (send (ToServer s (numbered_text x.number body))))
