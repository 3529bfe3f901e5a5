-- What editors are asked alone for a start (S11, S12 and V3).
use Rattle.std.specs.Prelude.{◌≡◌, ℕ, true, false, List, decimal, nat_eq}
use Rattle.std.specs.Prelude.{Option, Some}
use Rattle.json_text.specs.Json.{Json}
use Rattle.rpc_message.specs.Message.{Id, integer, message_of, request}
use Rattle.rpc_message.specs.ValueTexts.{IsIdText}
use Rattle.event_model.specs.Event.{Event}
use Rattle.event_model.specs.Settings.{Settings}
use Rattle.group_laws.specs.group_rows.specs.Asks.{asking_of, has_number, is_taken, next_ask}
use Rattle.mux_tables.specs.Stands.{IsAtRest}

-- a request of start s under this id is at work, which one editor is to answer; no other open request of s has its id
pub record IsAtWork (settings : Settings) (s : ℕ) (id : Id) (bytes : List ℕ) (events : List Event) : Type 0 where
  pub text : IsIdText id bytes
  pub asker : (asking_of settings s events).asker ≡ Some (record { id = id; bytes = bytes })
  pub others : (n : ℕ) → nat_eq s n ≡ false → IsAtRest settings n events
  pub fresh : is_taken (Some id) (asking_of settings s events) ≡ false

-- a request under the next number of editor e, which is left
pub record IsNextAsk (e : ℕ) (events : List Event) (method : List ℕ) (params : Option Json) (text : List ℕ) : Type 0 where
  pub left : has_number e events ≡ true
  pub says : message_of text ≡ request (integer (decimal (next_ask e events))) method params
