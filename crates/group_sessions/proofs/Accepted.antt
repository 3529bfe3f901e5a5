-- What editors are told of tokens that a start created: of those that they accepted, and that haven't ended.
use Rattle.std.proofs.Common.{◌≡◌, ℕ, true, List, codes, Option, is_some}
use Rattle.json_text.specs.Json.{Json}
use Rattle.mux_history.specs.declared.cause.Cause.{Cause}
use Rattle.mux_history.specs.declared.out.Out.{Out}
use Rattle.mux_history.specs.declared.out.Out.TheVariants.{ToEditor}
use Rattle.rpc_message.specs.Message.{message_of, notification, text}
use Rattle.event_model.specs.Event.{Event, with_cause}
use Rattle.event_model.specs.Members.{named_of}
use Rattle.event_model.specs.Parts.{editor_part}
use Rattle.event_model.specs.Requests.{is_open}
use Rattle.event_model.specs.Settings.{Settings}
use Rattle.mux_model.specs.Fits.{fits_behind}
use Rattle.mux_facts.proofs.Reasons.{Reasons}
use Rattle.session_laws.specs.ClientRules.{accepted_of}
use Rattle.session_laws.specs.Progress.{Creates, is_one, token_at}
use Rattle.group_rows.specs.Created.{created_mark}
use Rattle.group_rows.specs.Rows.{outs_of}
use Rattle.group_facts.specs.Why.{Telling, of_held, of_request, of_token, IsLosing}
use Rattle.group_facts.proofs.Reached.{Reached}

abbrev pub accepted : ℕ → List Event → Creates
accepted e events = accepted_of (editor_part e events)

-- token k of start s is one that the editor accepted, and that hasn't ended there
abbrev pub IsAccepted : ℕ → ℕ → ℕ → List Event → Type 0
IsAccepted s k e events = is_open (text (created_mark s k)) (accepted e events).created ≡ true

-- a notification that names something as its token
pub record NamesToken (body : List ℕ) : Type 0 where
  pub method : List ℕ
  pub params : Option Json
  pub says : message_of body ≡ notification method params
  pub names : is_some (named_of (codes "token") params) ≡ true

abbrev pub Hears : (settings : Settings) (before : List Event) (cause : Cause) (events : List Event) (e : ℕ) (body : List ℕ) → Telling settings before cause events e body → Type 0
Hears settings before cause events e body (of_request s asked given request token notified found own editor bytes) = Unit {0}
Hears settings before cause events e body (of_token s asked given token notified called takes bytes) = IsAccepted s token.number e events
Hears settings before cause events e body (of_held s taking earlier held later taken order place bytes) = NamesToken held × IsAccepted s taking.token e events

-- what an editor is told, at its place
pub record IsHeard (settings : Settings) (before : List Event) (cause : Cause) (events : List Event) (e : ℕ) (body : List ℕ) : Type 0 where
  pub told : Telling settings before cause events e body
  pub hears : Hears settings before cause events e body told

-- the end of a token at the exit of its start is of one that the editor accepted, and that hasn't ended
abbrev pub Closes : Settings → List Event → Cause → List Event → Out → Type 0
Closes settings before cause events (ToEditor e body) = IsLosing settings before cause events e body → (params : Option Json) → message_of body ≡ notification (codes "$/progress") params → is_one (token_at (codes "token") params) (accepted e events).created ≡ true
Closes settings before cause events other = Unit {0}

-- where a body is progress
abbrev pub Heard : Settings → List Event → Cause → List Event → Out → Type 0
Heard settings before cause events (ToEditor e body) = (Telling settings before cause events e body → IsHeard settings before cause events e body) × Closes settings before cause events (ToEditor e body)
Heard settings before cause events other = Unit {0}

-- Each out of every entry is so: the part of rule 6 that is about created tokens.
abbrev pub AllHeard : Settings → Type 0
AllHeard settings = (before : List Event) → Reached settings before → (cause : Cause) → fits_behind before cause ≡ true → Reasons (Heard settings before cause) (with_cause before cause) (outs_of settings before cause)
