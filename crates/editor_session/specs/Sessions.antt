-- Editors by their numbers (LSP 3.17, Lifecycle Messages): the first that joined is number 0, the next is number 1.
use Rattle.std.specs.Prelude.{◌≡◌, ℕ, ◌+◌, ◌^◌, Bool, true, false, ◌&&◌, nat_eq, nat_lt, List, [], ◌∷◌, is_some, length, slice_index_or, slice_set, if◌then◌else◌}
use Rattle.std.specs.Prelude.{Option, Some, None}
use Rattle.std.specs.List.{filter, range_with_len}
use Rattle.event_model.specs.declared.phase.Phase.{Phase}
use Rattle.event_model.specs.declared.phase.Phase.TheVariants.{Absent, Gone, New}
use Rattle.event_model.specs.Phases.{is_begun, is_running, is_there, is_waiting, needs_server}
use Rattle.number_index.specs.Numbers.{Changes, numbers_under, with_number, without_number}
use Rattle.editor_session.specs.declared.session.Session.{Session}
use Rattle.editor_session.specs.declared.session.Wanted.{Wanted}
use Rattle.editor_session.specs.declared.session.Wanted.TheVariants as wanted

-- an editor as it joins
abbrev pub joined : Session
joined = record { phase = New; group = None; id = None; asks = 0; opened = false; server = None; full = [] }

-- one that never joined
abbrev pub absent : Session
absent = record { phase = Absent; group = None; id = None; asks = 0; opened = false; server = None; full = [] }

-- one whose link ended: nothing of it is kept
abbrev pub gone : Session
gone = record { phase = Gone; group = None; id = None; asks = 0; opened = false; server = None; full = [] }

-- the editor of a number; one past the end never joined
abbrev pub session_of : List Session → ℕ → Session
session_of sessions e = slice_index_or sessions e absent

-- the editors, with this one in place of the one of that number
abbrev pub with_session : List Session → ℕ → Session → List Session
with_session sessions e session = slice_set sessions e session

abbrev pub is_gone : Phase → Bool
is_gone Gone = true
is_gone _ = false

-- one that is gone stays as it is
abbrev pub unless_gone : (Session → Session) → Session → Session
unless_gone change session = if is_gone session.phase then session else change session

-- it stands there from now on
abbrev pub in_phase : Phase → Session → Session
in_phase phase session = if is_gone phase then gone else record session { phase = phase }

-- it was placed in this group by an `initialize` of this id
abbrev pub in_group : ℕ → List ℕ → Session → Session
in_group group id session = record session { group = Some group; id = Some id }

-- its first `lspmux/open` came, and named this server
abbrev pub meaning : Option ℕ → Session → Session
meaning server session = record session { opened = true; server = server }

-- the number of the next request that it is asked is below 2^64
abbrev pub has_number : Session → Bool
has_number session = nat_lt (session.asks + 1) (2 ^ 64)

-- it was asked once more, where there is such a number
abbrev pub asked : Session → Session
asked session = if has_number session then record session { asks = session.asks + 1 } else session

abbrev pub number_of : Session → Option ℕ
number_of session = if has_number session then Some (session.asks + 1) else None

-- the number of the next request that it is asked, where there is one
abbrev pub next_ask : Session → Option ℕ
next_ask session = if is_gone session.phase then None else number_of session

-- a list of diagnostics that it was sent is the last one of its document: one that isn't empty is noted under the document's URI (LSP 3.17, Publish Diagnostics)
abbrev pub noted_by : Bool → List ℕ → List ℕ
noted_by true noted = without_number 0 noted
noted_by false noted = with_number 0 noted

abbrev pub first_of : List ℕ → Option ℕ
first_of [] = None
first_of (n ∷ ns) = Some n

-- the last list of the document of this URI that it was sent isn't empty
abbrev pub is_full : List ℕ → Session → Bool
is_full uri session = is_some (first_of (numbers_under uri session.full))

-- the editors behind a list of a document that one of them was sent
pub record IsShown (uri : List ℕ) (empty : Bool) (e : ℕ) (old new : List Session) : Type 0 where
  pub session : Session
  pub set : new ≡ with_session old e session
  pub rest : session ≡ record (session_of old e) { full = session.full }
  pub full : is_gone (session_of old e).phase ≡ false → Changes uri (noted_by empty) (session_of old e).full session.full

-- the numbers, rising, of the editors that meet a test
abbrev pub numbers_of : (Session → Bool) → List Session → List ℕ
numbers_of test sessions = filter (λ e. test (session_of sessions e)) (range_with_len 0 (length sessions))

-- it was placed in this group
abbrev pub is_in : ℕ → Option ℕ → Bool
is_in group None = false
is_in group (Some placed) = nat_eq placed group

abbrev pub runs_in : ℕ → Session → Bool
runs_in group session = is_running session.phase && is_in group session.group

abbrev pub waits_in : ℕ → Session → Bool
waits_in group session = is_waiting session.phase && is_in group session.group

abbrev pub is_of : ℕ → Session → Bool
is_of group session = is_begun session.phase && is_in group session.group

abbrev pub needs_in : ℕ → Session → Bool
needs_in group session = needs_server session.phase && is_in group session.group

abbrev pub is_wanted : Wanted → Session → Bool
is_wanted (wanted.Running group) session = runs_in group session
is_wanted (wanted.Waiting group) session = waits_in group session
is_wanted (wanted.Needing group) session = needs_in group session
is_wanted (wanted.OfGroup group) session = is_of group session
is_wanted wanted.There session = is_there session.phase
