-- What else holds of every legal history: of the groups, and of which requests are open.
use Rattle.std.specs.Prelude.{◌≡◌, ◌↔◌, ◌⊎◌, ℕ, ◌^◌, ◌≤◌, Bool, true, false, List, [], ◌∷◌, length, IsUtf8}
use Rattle.std.specs.Prelude.{None, Some, slice_get}
use Rattle.std.specs.List.{AllByRecursion}
use Rattle.rpc_message.specs.Message.{Id, message_of}
use Rattle.rpc_message.specs.ValueTexts.{IsIdText}
use Rattle.event_model.specs.declared.phase.Phase.{Phase}
use Rattle.event_model.specs.declared.phase.Phase.TheVariants.{New, Waiting, Answered, Running, Down}
use Rattle.event_model.specs.Event.{Event}
use Rattle.event_model.specs.Phases.{desk_of, has_id, needs_server}
use Rattle.event_model.specs.Requests.{is_open, open_of}
use Rattle.event_model.specs.Settings.{Settings}
use Rattle.event_model.specs.Spawns.{group_of, start_of, starts_of}
use Rattle.event_model.specs.Stages.{life_of}
use Rattle.event_model.specs.declared.stage.Stage.TheVariants.{Ready}
use Rattle.group_words.specs.declared.kept.Kept.{Kept}
use Rattle.group_words.specs.Houses.{groups_of, home_of}
use Rattle.group_rows.specs.held_requests.specs.declared.request.Request.{Request}
use Rattle.group_rows.specs.Asks.{Ask, asks_of}
use Rattle.group_rows.specs.Created.{Taking, created_of, no_created}
use Rattle.group_rows.specs.Forwarded.{Forwarded, forwarding_of}
use Rattle.group_rows.specs.StopRows.{stopped}
use Rattle.group_rows.specs.Waiting.{waiting_of}
use Rattle.group_facts.specs.Facts.{is_up}
use Rattle.group_facts.specs.Lively.{Lively, lives_at}

-- the uris and names of folders
abbrev pub AreUtf8 : List (List ℕ × List ℕ) → Type 0
AreUtf8 folders = AllByRecursion (λ (f : List ℕ × List ℕ). IsUtf8 f.0 × IsUtf8 f.1) folders

-- the `initialize` of an editor that waits, under this id, is its only open request
pub record IsOnly (events : List Event) (e : ℕ) : Type 0 where
  pub id : Id
  pub asked : has_id id (message_of (desk_of e events).initialize) ≡ true
  pub ids : open_of e events ≡ id ∷ []

-- a request of e under this id is open at the last start of its group
pub record IsSent (settings : Settings) (events : List Event) (e : ℕ) (id : Id) : Type 0 where
  pub group : ℕ
  pub start : ℕ
  pub home : home_of settings e events ≡ Some group
  pub last : start_of group events ≡ Some start
  pub place : ℕ
  pub request : Forwarded
  pub at : slice_get (forwarding_of settings start events).open_requests place ≡ Some request
  pub editor : request.editor ≡ e
  pub text : IsIdText id request.id

-- or it waits until that is ready
pub record IsKeptBack (settings : Settings) (events : List Event) (e : ℕ) (id : Id) : Type 0 where
  pub group : ℕ
  pub home : home_of settings e events ≡ Some group
  pub place : ℕ
  pub request : Request
  pub at : slice_get (waiting_of settings group events) place ≡ Some request
  pub editor : request.editor ≡ e
  pub text : IsIdText id request.id

-- e is in a group that has a start
pub record IsSeated (settings : Settings) (events : List Event) (e : ℕ) : Type 0 where
  pub group : ℕ
  pub start : ℕ
  pub home : home_of settings e events ≡ Some group
  pub last : start_of group events ≡ Some start

-- it got the result of its `initialize`, and its link isn't to be ended
abbrev pub is_answered : Phase → Bool
is_answered Answered = true
is_answered Running = true
is_answered Down = true
is_answered _ = false

-- the editor runs, in the group whose last start s is, and that start is ready
pub record RunsAt (settings : Settings) (events : List Event) (s e : ℕ) : Type 0 where
  pub running : (desk_of e events).phase ≡ Running
  pub home : home_of settings e events ≡ group_of s events
  pub group : ℕ
  pub kept : group_of s events ≡ Some group
  pub last : start_of group events ≡ Some s
  pub ready : (life_of s events).stage ≡ Ready

-- so does one that a start asked, and one that it asked to take a token
abbrev pub HasSeat : Settings → List Event → ℕ → Ask → Type 0
HasSeat settings events s a = RunsAt settings events s a.editor

abbrev pub HasTaken : Settings → List Event → ℕ → Taking → Type 0
HasTaken settings events s c = RunsAt settings events s c.editor

-- a start that is ready is the last one of a group that lives
pub record IsServing (settings : Settings) (events : List Event) (s : ℕ) : Type 0 where
  pub group : ℕ
  pub home : group_of s events ≡ Some group
  pub last : start_of group events ≡ Some s
  pub live : lives_at group (groups_of settings events) ≡ true

-- each group has a start, and the last one of a group that lives no more isn't up; an editor's group lives until the editor leaves it, and
-- behind a stop none lives; each open request of an editor that got its result was sent on or waits, an editor that was asked
-- runs, as long as nothing was stopped, and one that needs a server is in a group that has a start; a start that wasn't spawned created no token,
-- and an editor that was asked to take one runs, as long as numerals tell starts apart
pub record Settled (settings : Settings) (events : List Event) : Type 0 where
  pub spelt : AllByRecursion (λ (x : Kept). AreUtf8 x.key.folders) (groups_of settings events)
  pub begun : (g : ℕ) → (start_of g events ≡ None) ↔ (length (groups_of settings events) ≤ g)
  pub lively : Lively settings events
  pub serving : (s : ℕ) → (life_of s events).stage ≡ Ready → IsServing settings events s
  pub down : (g s : ℕ) → lives_at g (groups_of settings events) ≡ false → start_of g events ≡ Some s → is_up (life_of s events).stage ≡ false
  pub over : stopped events ≡ true → (g : ℕ) → lives_at g (groups_of settings events) ≡ false
  pub unasked : (e : ℕ) → (desk_of e events).phase ≡ New → open_of e events ≡ []
  pub waiting : (e : ℕ) → (desk_of e events).phase ≡ Waiting → IsOnly events e
  pub sent : (e : ℕ) (id : Id) → is_answered (desk_of e events).phase ≡ true → is_open id (open_of e events) ≡ true → IsSent settings events e id ⊎ IsKeptBack settings events e id
  pub asks : stopped events ≡ false → (s : ℕ) → AllByRecursion (HasSeat settings events s) (asks_of settings s events)
  pub seated : (e : ℕ) → needs_server (desk_of e events).phase ≡ true → IsSeated settings events e
  pub uncreated : (s : ℕ) → starts_of events ≤ s → created_of settings s events ≡ no_created
  pub takings : starts_of events ≤ 2 ^ 64 → (s : ℕ) → AllByRecursion (HasTaken settings events s) (created_of settings s events).takings
