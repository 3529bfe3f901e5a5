-- Of which lanes the causes of a history are, and the last editor that joined.
use Rattle.std.specs.Prelude.{◌≡◌, ◌≢◌, ℕ, ◌<◌, List, [], ◌∷◌, ◌++◌, map, slice_get, Some, ⊤}
use Rattle.mux_history.specs.declared.entry.Entry.{Entry}
use Rattle.mux_history.specs.declared.cause.Cause.{Cause}
use Rattle.mux_history.specs.declared.cause.Cause.TheVariants as cause
use Rattle.mux_history.specs.declared.out.Out.{Out}
use Rattle.mux_history.specs.Cores.{joined}
use Rattle.lane_lists.specs.declared.item.LaneName.{LaneName}
use Rattle.lane_lists.specs.declared.item.LaneName.TheVariants as lane
use Rattle.lane_lists.specs.declared.item.Posted.TheVariants as posted
use Rattle.lane_lists.specs.Deeds.{Deed, Fair, entries, gather, posts, sessions}
use Rattle.lane_lists.specs.History.{gone_of}
use Rattle.lane_lists.specs.StartHistory.{causes_from, tried_by}

-- the lane is one of these
abbrev pub IsIn : ℕ → ℕ → LaneName → Type 0
IsIn n m (lane.Editor i) = i < n
IsIn n m (lane.Server i) = i < m
IsIn n m lane.Ticker = ⊤

-- each deed is of a lane that is there
abbrev pub AllIn : ℕ → ℕ → List Deed → Type 0
AllIn n m [] = ⊤
AllIn n m (d ∷ deeds) = IsIn n m d.lane × AllIn n m deeds

-- the moments of the ticks, in their order
abbrev pub tick_in : Cause → List ℕ
tick_in (cause.Tick t) = t ∷ []
tick_in (cause.Joined e) = []
tick_in (cause.FromEditor e body) = []
tick_in (cause.EditorGone e w) = []
tick_in (cause.Started s) = []
tick_in (cause.StartFailed s) = []
tick_in (cause.FromServer s body) = []
tick_in (cause.ServerGone s) = []
tick_in (cause.Drained e k) = []

abbrev pub ticks_of : List Entry → List ℕ
ticks_of [] = []
ticks_of (entry ∷ history) = tick_in entry.cause ++ ticks_of history

-- the ticks of the history are what was posted in the ticker's lane
abbrev pub TicksPosted : Type 0
TicksPosted = (n m : ℕ) (deeds : List Deed) → Fair n m deeds → posts n m lane.Ticker deeds ≡ map posted.Tick (ticks_of (entries n m deeds))

-- the editor is one of an editors' lane
pub record SitsIn (n m : ℕ) (deeds : List Deed) (editor : ℕ) : Type 0 where
  pub number : ℕ
  pub within : number < n
  pub place : ℕ
  pub at : slice_get (sessions n m (lane.Editor number) deeds) place ≡ Some editor

abbrev pub EditorsSit : Type 0
EditorsSit = (n m : ℕ) (deeds : List Deed) → Fair n m deeds → AllIn n m deeds → (e : ℕ) → e < joined (entries n m deeds) → SitsIn n m deeds e

-- the start was tried in a servers' lane
pub record TriedIn (n m : ℕ) (deeds : List Deed) (start : ℕ) : Type 0 where
  pub number : ℕ
  pub within : number < m
  pub place : ℕ
  pub at : slice_get (gather n m (tried_by (lane.Server number)) deeds) place ≡ Some start

abbrev pub StartsTriedIn : Type 0
StartsTriedIn = (n m : ℕ) (deeds : List Deed) → Fair n m deeds → (s : ℕ) → causes_from s (entries n m deeds) ≢ [] → TriedIn n m deeds s

-- the last editor that joined is of this lane, and each other one went before it joined
pub record JoinedLast (n m i : ℕ) (deeds : List Deed) : Type 0 where
  pub before : List Entry
  pub outs : List Out
  pub after : List Entry
  pub is : entries n m deeds ≡ before ++ record { cause = cause.Joined (joined before); outs = outs } ∷ after
  pub last : joined after ≡ 0
  pub gone : (e : ℕ) → e < joined before → gone_of e before ≢ []
  pub front : List ℕ
  pub own : sessions n m (lane.Editor i) deeds ≡ front ++ joined before ∷ []
