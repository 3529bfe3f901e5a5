-- When the table of waiting requests stands for events (LSP 3.17, Base Protocol, Request Message).
use Rattle.std.specs.Prelude.{◌≡◌, ℕ, Bool, true, false, not, List, [], ◌∷◌}
use Rattle.std.specs.Prelude.{Option, Some}
use Rattle.std.specs.List.{AllByRecursion}
use Rattle.json_text.specs.Json.{Json}
use Rattle.rpc_message.specs.Message.{Id, Message, id_bytes, message_of, request}
use Rattle.rpc_message.specs.ValueTexts.{IsIdText}
use Rattle.event_model.specs.Event.{Event}
use Rattle.event_model.specs.Requests.{answered_id, is_open, is_own, open_of}
use Rattle.event_model.specs.Settings.{Settings}
use Rattle.group_words.specs.Houses.{home_of}
use Rattle.group_rows.specs.Waiting.{waiting_of, waits}
use Rattle.held_requests.specs.declared.request.Request.{Request}
use Rattle.held_requests.specs.Tables.{is_under}
use Rattle.mux_waits.specs.Rows.{Rows, held_of}

-- one that waits in group g: a request as it came, under an id that is open at its editor, which is of the group
pub record IsHeld (settings : Settings) (g : ℕ) (events : List Event) (r : Request) : Type 0 where
  pub name : Id
  pub method : List ℕ
  pub params : Option Json
  pub says : message_of r.body ≡ request name method params
  pub other : is_own method ≡ false
  pub bytes : r.id ≡ id_bytes r.body
  pub home : home_of settings r.editor events ≡ Some g
  pub open_id : is_open name (open_of r.editor events) ≡ true

-- of one editor no two are under one id
abbrev pub HasOwnId : Request → Request → Type 0
HasOwnId r q = is_under r.editor r.id q ≡ false

abbrev pub HaveOwnIds : List Request → Type 0
HaveOwnIds [] = Unit {0}
HaveOwnIds (r ∷ rs) = AllByRecursion (HasOwnId r) rs × HaveOwnIds rs

-- what waits in one group
pub record HeldStand (settings : Settings) (g : ℕ) (events : List Event) (rs : List Request) : Type 0 where
  pub same : rs ≡ waiting_of settings g events
  pub each : AllByRecursion (IsHeld settings g events) rs
  pub own : HaveOwnIds rs

abbrev pub WaitingStand : Settings → Rows → List Event → Type 0
WaitingStand settings rows events = (g : ℕ) → HeldStand settings g events (held_of g rows)

-- E10: a message of an editor waits in no group
abbrev pub Unheld : Settings → ℕ → List ℕ → Message → List Event → Type 0
Unheld settings e body m events = (g : ℕ) → waits settings g events e body m (waiting_of settings g events) ≡ false

-- a body answers a request under the id that this text is of (JSON-RPC 2.0, section 5)
pub record AnswersId (id body : List ℕ) : Type 0 where
  pub name : Id
  pub is : IsIdText name id
  pub says : answered_id (message_of body) ≡ Some name

-- a body that is an editor's request, and no other of the daemon
abbrev pub is_passed : Message → Bool
is_passed (request id method params) = not (is_own method)
is_passed other = false
