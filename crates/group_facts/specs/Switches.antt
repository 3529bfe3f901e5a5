-- What a server is told before a message of an editor goes on to it: of just the documents that are open at the editor and on which the server doesn't agree with it, in the order of their opening, the editor's language and text (LSP 3.17, Text Document Synchronization).
use Rattle.std.specs.Prelude.{◌≡◌, ◌⊎◌, ℕ, true, List, [], ◌∷◌, ◌++◌, map}
use Rattle.std.specs.Prelude.{Some}
use Rattle.std.specs.List.{AllByRecursion}
use Rattle.mux_history.specs.declared.cause.Cause.{Cause}
use Rattle.mux_history.specs.declared.cause.Cause.TheVariants.{FromEditor, FromServer}
use Rattle.mux_history.specs.declared.entry.Entry.{Entry}
use Rattle.mux_history.specs.declared.out.Out.{Out}
use Rattle.mux_history.specs.declared.out.Out.TheVariants.{ToServer}
use Rattle.rpc_message.specs.Message.{message_of}
use Rattle.event_model.specs.Event.{Event, behind, events_of, said, with_cause}
use Rattle.event_model.specs.Settings.{Settings}
use Rattle.event_model.specs.Spawns.{group_of, start_of}
use Rattle.group_rows.specs.held_requests.specs.declared.request.Request.{Request}
use Rattle.mux_model.specs.Documents.{held_at}
use Rattle.group_rows.specs.Earlier.{configuration_of}
use Rattle.group_rows.specs.Rows.{sync_bodies}
use Rattle.group_rows.specs.Texts.{is_synced, texts_of}
use Rattle.group_rows.specs.Waiting.{first_waiting}
use Rattle.group_facts.specs.Why.{IsQuestion}

-- s is the last start of an editor's group; in this entry, which is about a message of that editor, it was sent just the switches of the editor's documents, and nothing else went out but requests and notifications to the editor before it
pub record IsSwitched (settings : Settings) (before : List Event) (cause : Cause) (events : List Event) (s : ℕ) : Type 0 where
  pub editor : ℕ
  pub asked : List ℕ
  pub from : cause ≡ FromEditor editor asked
  pub group : ℕ
  pub start : start_of group before ≡ Some s
  pub questions : List Out
  pub asks : AllByRecursion (IsQuestion editor) questions
  pub place : events ≡ behind (with_cause before cause) (questions ++ map (λ text. ToServer s text) (sync_bodies settings.limits.versions (λ u. held_at s u before) editor (texts_of settings group before).opens))

-- or s gave its result in this entry, and is sent the request of an editor of its group that has waited longest: since that began s was sent just the switches of the editor's documents
pub record IsReleased (settings : Settings) (before : List Event) (cause : Cause) (events : List Event) (s : ℕ) : Type 0 where
  pub group : ℕ
  pub answer : List ℕ
  pub request : Request
  pub from : cause ≡ FromServer s answer
  pub home : group_of s before ≡ Some group
  pub first : first_waiting settings s events ≡ Some request
  pub earlier : List Event
  pub place : events ≡ behind earlier (map (λ text. ToServer s text) (sync_bodies settings.limits.versions (λ u. held_at s u earlier) request.editor (texts_of settings group earlier).opens))

-- or s gave its result in this entry, and is told of the configuration that its group keeps
pub record IsConfigured (settings : Settings) (before : List Event) (cause : Cause) (s : ℕ) (body : List ℕ) : Type 0 where
  pub group : ℕ
  pub answer : List ℕ
  pub from : cause ≡ FromServer s answer
  pub home : group_of s before ≡ Some group
  pub kept : configuration_of settings group before ≡ Some body

-- at a body that goes behind a sync, as those of editors do
abbrev pub OnSwitches : Settings → List Event → Cause → List Event → Out → Type 0
OnSwitches settings before cause events (ToServer s body) = is_synced (message_of body) ≡ true → IsSwitched settings before cause events s ⊎ (IsReleased settings before cause events s ⊎ IsConfigured settings before cause s body)
OnSwitches settings before cause events other = Unit {0}

-- at each of these outs, behind these events
abbrev pub AllOnSwitches : Settings → List Event → Cause → List Event → List Out → Type 0
AllOnSwitches settings before cause events [] = Unit {0}
AllOnSwitches settings before cause events (out ∷ outs) = OnSwitches settings before cause events out × AllOnSwitches settings before cause (events ++ said out ∷ []) outs

-- and at each out of these entries, behind those before them
abbrev pub SwitchesFrom : Settings → List Entry → List Entry → Type 0
SwitchesFrom settings before [] = Unit {0}
SwitchesFrom settings before (entry ∷ rest) =
    AllOnSwitches settings (events_of before) entry.cause (with_cause (events_of before) entry.cause) entry.outs × SwitchesFrom settings (before ++ entry ∷ []) rest

abbrev pub Switches : Settings → List Entry → Type 0
Switches settings history = SwitchesFrom settings [] history
