-- What is open at an editor, and fails.
use Rattle.std.specs.Prelude.{◌≡◌, ℕ, List, Some}
use Rattle.rpc_message.specs.Message.{Id}
use Rattle.rpc_message.specs.Texts.{error_text, request_failed}
use Rattle.rpc_message.specs.ValueTexts.{IsIdText}
use Rattle.mux_history.specs.declared.out.Out.TheVariants.{ToEditor}
use Rattle.event_model.specs.declared.phase.Phase.TheVariants.{Waiting}
use Rattle.event_model.specs.Event.{Event}
use Rattle.event_model.specs.Phases.{desk_of}
use Rattle.event_model.specs.Row.{Row, send}
use Rattle.event_model.specs.Settings.{Settings}
use Rattle.group_words.specs.Houses.{home_of}

-- the text of an id
abbrev pub IsNamed : List ℕ → Type 0
IsNamed bytes = (id : Id) × IsIdText id bytes

-- each editor that waits is in a group
abbrev pub AllHoused : Settings → List Event → Type 0
AllHoused settings events = (e : ℕ) → (desk_of e events).phase ≡ Waiting → (g : ℕ) × (home_of settings e events ≡ Some g)

-- what is open under this id at an editor fails
abbrev pub refuse_id : ℕ → List ℕ → Row
refuse_id e id = send (ToEditor e (error_text id request_failed))
