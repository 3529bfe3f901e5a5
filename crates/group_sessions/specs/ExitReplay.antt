-- What the exit of a start leaves, whose group lives (X1 to X3): its requests are answered, nothing of it is left open at editors, and its group goes on with a new start, or ends; and what a start's first result brings it (S2, X4; LSP 3.17, Lifecycle Messages).
use Rattle.std.specs.Prelude.{◌≡◌, ℕ, Bool, true, false, not, ◌&&◌, ◌||◌, List, [], ◌∷◌, ◌++◌, bytes_eq, flat_map, nat_eq, if◌then◌else◌}
use Rattle.std.specs.Prelude.{Option, Some, None}
use Rattle.std.specs.List.{AllByRecursion, list_any}
use Rattle.std.specs.Option.{option_map}
use Rattle.document_model.specs.Helds.{HeldText}
use Rattle.document_model.specs.Opens.{Open, holder}
use Rattle.document_model.specs.Sayings.{saying_of, speaks}
use Rattle.mux_history.specs.declared.cause.Cause.TheVariants.{FromServer}
use Rattle.mux_history.specs.declared.entry.Entry.{Entry}
use Rattle.mux_history.specs.declared.out.Out.{Out}
use Rattle.mux_history.specs.declared.out.Out.TheVariants.{CloseEditor, Spawn, ToEditor, ToServer}
use Rattle.rpc_message.specs.Message.{Id, message_of}
use Rattle.rpc_message.specs.Texts.{error_text, request_failed}
use Rattle.rpc_message.specs.ValueTexts.{IsIdText}
use Rattle.event_model.specs.Event.{Event, behind, events_of, with_cause}
use Rattle.event_model.specs.Parts.{editor_part}
use Rattle.event_model.specs.Phases.{desk_of, is_begun, is_running, is_there}
use Rattle.event_model.specs.Requests.{is_open, open_of}
use Rattle.event_model.specs.Settings.{Settings}
use Rattle.event_model.specs.Spawns.{group_of}
use Rattle.event_model.specs.Stages.{is_first_result, is_initializing, life_of}
use Rattle.mux_model.specs.Documents.{held_at}
use Rattle.group_words.specs.Houses.{groups_of}
use Rattle.session_laws.specs.ClientRules.{registered_of}
use Rattle.group_rows.specs.diagnostics_route.specs.declared.last_list.LastList.{LastList}
use Rattle.group_rows.specs.Asks.{Ask, asks_of, has_number, is_with}
use Rattle.group_rows.specs.Created.{Taking, Token, created_of, created_text}
use Rattle.group_rows.specs.ExitRows.{begins_again, end_text, has_begun, is_full, of_group, unanswered_at}
use Rattle.group_rows.specs.Forwarded.{Forwarded, forwarding_of}
use Rattle.group_rows.specs.Leaves.{cancel_text}
use Rattle.group_rows.specs.Lists.{lists_of}
use Rattle.group_rows.specs.Rows.{outs_of, replay_bodies}
use Rattle.group_rows.specs.Texts.{texts_of}
use Rattle.group_rows.specs.Waiting.{waiting_of}
use Rattle.group_rows.specs.held_requests.specs.declared.request.Request.{Request}
use Rattle.group_facts.specs.Facts.{is_exit, is_in}
use Rattle.group_facts.specs.Lively.{lives_at}
use Rattle.group_sessions.specs.LastLists.{is_hearing}

-- the group of the start lives
abbrev pub is_housed : Settings → List Event → ℕ → Bool
is_housed settings before s = of_group settings before s (λ g x. x.live)

-- the editor is in it, and its link isn't to be ended
abbrev pub is_member : Settings → List Event → ℕ → ℕ → Bool
is_member settings before s e = is_begun (desk_of e before).phase && is_in settings before s e

-- an out sends editor e this body
abbrev pub sends : ℕ → List ℕ → Out → Bool
sends e text (ToEditor n body) = nat_eq n e && bytes_eq body text
sends e text other = false

-- X1: a request that an editor of the group sent on to the start is answered in the entry, by the error RequestFailed under its id (LSP 3.17, Response Message, ErrorCodes)
abbrev pub IsRefused : Settings → List Event → ℕ → List Out → Forwarded → Type 0
IsRefused settings before s outs f = is_member settings before s f.editor ≡ true → list_any (sends f.editor (error_text f.id request_failed)) outs ≡ true

-- and none that was sent on to it is open at an editor that is there behind the entry
abbrev pub IsClosed : List Event → Forwarded → Type 0
IsClosed after f = (id : Id) → IsIdText id f.id → is_there (desk_of f.editor after).phase ≡ true → is_open id (open_of f.editor after) ≡ false

pub record Refuses (settings : Settings) (before : List Event) (s : ℕ) (outs : List Out) (after : List Event) : Type 0 where
  pub refused : AllByRecursion (IsRefused settings before s outs) (forwarding_of settings s before).open_requests
  pub closed : AllByRecursion (IsClosed after) (forwarding_of settings s before).open_requests

-- X2: of an editor that runs in the group of the start, which is ready: each token that lives, that it accepted and of which it was told a `begin`, ends there (LSP 3.17, Work Done Progress)
abbrev pub IsEnded : Settings → List Event → ℕ → List Out → ℕ → Token → Type 0
IsEnded settings before s outs e t = has_begun e t.number (created_of settings s before) ≡ true → list_any (sends e (end_text (created_text s t.number))) outs ≡ true

-- whether it takes a token, and what the start asked it alone, is cancelled where it didn't answer (LSP 3.17, Cancellation Support)
abbrev pub IsTakeBack : ℕ → List Out → Taking → Type 0
IsTakeBack e outs c = unanswered_at e c ≡ true → list_any (sends e (cancel_text c.number)) outs ≡ true

abbrev pub IsAskBack : ℕ → List Out → Ask → Type 0
IsAskBack e outs a = is_with e a ≡ true → list_any (sends e (cancel_text a.number)) outs ≡ true

-- of no document of which the start gave a list isn't the last one that it was sent empty (LSP 3.17, Publish Diagnostics)
abbrev pub IsEmpty : List Event → ℕ → LastList → Type 0
IsEmpty after e l = is_full e l.uri after ≡ false

-- and nothing is registered there, as long as it runs and a number for a request is left (LSP 3.17, Unregister Capability)
pub record Clears (settings : Settings) (before : List Event) (s : ℕ) (outs : List Out) (after : List Event) (e : ℕ) : Type 0 where
  pub ended : AllByRecursion (IsEnded settings before s outs e) (created_of settings s before).tokens
  pub takes : AllByRecursion (IsTakeBack e outs) (created_of settings s before).takings
  pub asks : AllByRecursion (IsAskBack e outs) (asks_of settings s before)
  pub lists : AllByRecursion (IsEmpty after e) (lists_of s before)
  pub registered : is_running (desk_of e after).phase ≡ true → has_number e after ≡ true → registered_of (editor_part e after) ≡ []

abbrev pub ClearsAll : Settings → List Event → ℕ → List Out → List Event → Type 0
ClearsAll settings before s outs after = (e : ℕ) → is_hearing settings s e before ≡ true → Clears settings before s outs after e

-- X3: an out spawns a start for the group, and one orders the link of editor e to be ended
abbrev pub spawns_for : Option ℕ → Out → Bool
spawns_for (Some g) (Spawn s h) = nat_eq h g
spawns_for o other = false

abbrev pub closes : ℕ → Out → Bool
closes e (CloseEditor n) = nat_eq n e
closes e other = false

-- the link of each editor of the group was ordered to be ended, and the group lives no more
pub record IsOver (settings : Settings) (before : List Event) (s : ℕ) (outs : List Out) (after : List Event) : Type 0 where
  pub closed : (e : ℕ) → is_member settings before s e ≡ true → list_any (closes e) outs ≡ true
  pub over : (g : ℕ) → group_of s before ≡ Some g → lives_at g (groups_of settings after) ≡ false

-- there is a new start for the group, where an editor needs it and its starts ended no more often than they may, and else the group is over
abbrev pub Chosen : Settings → List Event → ℕ → List Out → List Event → Bool → Type 0
Chosen settings before s outs after true = list_any (spawns_for (group_of s before)) outs ≡ true
Chosen settings before s outs after false = IsOver settings before s outs after

abbrev pub GoesOn : Settings → List Event → ℕ → List Out → List Event → Type 0
GoesOn settings before s outs after = Chosen settings before s outs after (begins_again settings before s)

-- X3: a request that waited before the entry waits after it, or is answered by the error RequestFailed under its id, or its editor isn't there
abbrev pub is_same : Request → Request → Bool
is_same r q = nat_eq q.editor r.editor && (bytes_eq q.id r.id && bytes_eq q.body r.body)

abbrev pub IsKeptHeld : Settings → List Out → List Event → ℕ → Request → Type 0
IsKeptHeld settings outs after g r = (list_any (is_same r) (waiting_of settings g after) || (list_any (sends r.editor (error_text r.id request_failed)) outs || not (is_there (desk_of r.editor after).phase))) ≡ true

abbrev pub HoldsOn : Settings → List Event → ℕ → List Out → List Event → Type 0
HoldsOn settings before s outs after = (g : ℕ) → AllByRecursion (IsKeptHeld settings outs after g) (waiting_of settings g before)

-- what holds of each entry in which a start exits whose group lives before it, by the events before the entry, its outs, and the events behind these
abbrev pub AtExits : (Settings → List Event → ℕ → List Out → List Event → Type 0) → Settings → List Entry → Type 0
AtExits R settings history = (before later : List Entry) (entry : Entry) → history ≡ before ++ entry ∷ later → (s : ℕ) → is_exit entry.cause s ≡ true → is_housed settings (events_of before) s ≡ true
    → R settings (events_of before) s entry.outs (behind (with_cause (events_of before) entry.cause) entry.outs)

abbrev pub KeepsRefused : Settings → List Entry → Type 0
KeepsRefused settings history = AtExits Refuses settings history

abbrev pub KeepsGroups : Settings → List Entry → Type 0
KeepsGroups settings history = AtExits GoesOn settings history

abbrev pub KeepsHeld : Settings → List Entry → Type 0
KeepsHeld settings history = AtExits HoldsOn settings history

abbrev pub KeepsCleared : Settings → List Entry → Type 0
KeepsCleared settings history = AtExits ClearsAll settings history

-- X1 to X3 of each exit, and what waits
pub record ExitsEnd (settings : Settings) (history : List Entry) : Type 0 where
  pub refused : KeepsRefused settings history
  pub cleared : KeepsCleared settings history
  pub groups : KeepsGroups settings history
  pub held : KeepsHeld settings history

-- S2: the first result of start s
abbrev pub gives_result : ℕ → List Event → List ℕ → Bool
gives_result s before body = is_initializing (life_of s before).stage && is_first_result (message_of body)

-- X4: a document that is open at an editor of the group is held under version 1, in the holder's language and with its text, and no other one is (LSP 3.17, Text Document Synchronization)
abbrev pub opened_first : Open → HeldText
opened_first o = record { version = 1; language = o.language; text = o.text }

abbrev pub is_among : List ℕ → List Open → Bool
is_among u os = list_any (λ (o : Open). bytes_eq u o.uri) os

abbrev pub held_of : List ℕ → List Open → Option HeldText
held_of u os = if is_among u os then option_map opened_first (holder u os) else None

-- what outs say to start s of documents
abbrev pub spoken_to : ℕ → Out → List (List ℕ)
spoken_to s (ToServer n body) = if nat_eq n s && speaks (saying_of (message_of body)) then body ∷ [] else []
spoken_to s other = []

-- each is opened once, in the order of the earliest opening
pub record IsReplayed (s : ℕ) (os : List Open) (outs : List Out) (after : List Event) : Type 0 where
  pub bodies : flat_map (spoken_to s) outs ≡ replay_bodies [] os os
  pub held : (u : List ℕ) → held_at s u after ≡ held_of u os

-- the outs of the entry's row up to the last document that is opened so, and behind these, where editors that are slow didn't leave yet
pub record IsReplayedFirst (settings : Settings) (g s : ℕ) (now : List Event) (outs : List Out) : Type 0 where
  pub first : List Out
  pub rest : List Out
  pub parts : outs ≡ first ++ rest
  pub replayed : IsReplayed s (texts_of settings g (behind now first)).opens first (behind now first)

abbrev pub Replays : Settings → List Entry → Type 0
Replays settings history = (before later : List Entry) (entry : Entry) → history ≡ before ++ entry ∷ later → (s g : ℕ) (body : List ℕ) → entry.cause ≡ FromServer s body → gives_result s (events_of before) body ≡ true → group_of s (events_of before) ≡ Some g
    → IsReplayedFirst settings g s (with_cause (events_of before) entry.cause) (outs_of settings (events_of before) entry.cause)
