-- What a lane did: session by session, what it accepted and handed back, what it posted, took and said.
use Rattle.std.specs.Prelude.{◌≡◌, ℕ, ◌≤◌, ◌+◌, ◌-◌, ◌^◌, min, List, [], ◌∷◌, ◌++◌, Bool, true, false, All, map, length, Option}
use Rattle.outside_io.specs.Sessions.{Session}
use Rattle.outside_io.specs.Told.{append_to, prepend_to}
use Rattle.lane_lists.specs.Sessions.{chain}
use Rattle.lane_lists.specs.declared.item.Order.{Order}
use Rattle.lane_lists.specs.declared.item.Posted.{Posted}
use Rattle.lane_lists.specs.declared.item.Side.{Side}
use Rattle.mux_lanes.specs.declared.lane_end.LaneEnd.{LaneEnd}
use Rattle.mux_lanes.specs.declared.lane_end.LaneEnd.TheVariants as lane_end
use Rattle.mux_lanes.specs.declared.session.Ends.{Ends}
use Rattle.mux_lanes.specs.Runs.{Run, IsRun, IsWholeRun}

-- the ends are still those of the same queues
pub record IsSameLane (old new : Ends) : Type 0 where
  pub posted : new.inn.queue ≡ old.inn.queue
  pub orders : new.out.orders.queue ≡ old.out.orders.queue
  pub sides : new.out.sides.queue ≡ old.out.sides.queue

-- how a lane stands: what was handed back and what is left where its links or programs come from, the count of faults there, and what went through its ends
pub record Standing : Type 0 where
  pub back : Option (List Session)
  pub left : Option (List Session)
  pub faults : ℕ
  pub posts : List Posted
  pub orders : List Order
  pub sides : List Side

abbrev pub standing : {P : Type 0} → (P → Option (List Session)) → (P → Option (List Session)) → (P → ℕ) → P → Ends → Standing
standing back left faults port ends = record { back = back port; left = left port; faults = faults port; posts = ends.inn.pushed; orders = ends.out.orders.taken; sides = ends.out.sides.pushed }

-- what one thing that a lane did adds: to what is handed back, and to what goes through its ends; what it took off the front of what was left; and how often the count of faults rose in it, at least
pub record Turn : Type 0 where
  pub came : List Session
  pub back : List Session
  pub rises : ℕ
  pub posts : List Posted
  pub orders : List Order
  pub sides : List Side

-- the count rose so often, or stands at its end
abbrev pub RoseBy : ℕ → ℕ → ℕ → Type 0
RoseBy times before now = min (before + times) (2 ^ 64 - 1) ≤ now

pub record Adds (turn : Turn) (before after : Standing) : Type 0 where
  pub left : before.left ≡ prepend_to turn.came after.left
  pub back : after.back ≡ append_to before.back turn.back
  pub later : before.faults ≤ after.faults
  pub rise : RoseBy turn.rises before.faults after.faults
  pub posts : after.posts ≡ before.posts ++ turn.posts
  pub orders : after.orders ≡ before.orders ++ turn.orders
  pub sides : after.sides ≡ before.sides ++ turn.sides

-- one turn, whole or cut off
pub record Takes (Whole Cut : Turn → Type 0) (before after : Standing) (is_whole : Bool) : Type 0 where
  pub turn : Turn
  pub adds : Adds turn before after
  pub whole : is_whole ≡ true → Whole turn
  pub cut : is_whole ≡ false → Cut turn

abbrev pub all_rises : List Turn → ℕ
all_rises [] = 0
all_rises (t ∷ turns) = t.rises + all_rises turns

abbrev pub all_turns : List Turn → Turn
all_turns turns = record {
  came = chain (map (λ t. t.came) turns);
  back = chain (map (λ t. t.back) turns);
  rises = all_rises turns;
  posts = chain (map (λ t. t.posts) turns);
  orders = chain (map (λ t. t.orders) turns);
  sides = chain (map (λ t. t.sides) turns);
}

pub record RanSoFar (Whole : Turn → Type 0) (before after : Standing) : Type 0 where
  pub turns : List Turn
  pub each : All Whole turns
  pub adds : Adds (all_turns turns) before after

-- what the lane did: its turns, and perhaps a last one that was cut off; what it said of its orders are the side items of all of them
pub record RanAs (Whole Cut : Turn → Type 0) (before after : Standing) (end : LaneEnd) : Type 0 where
  pub turns : List Turn
  pub last : List Turn
  pub each : All Whole turns
  pub cut : All Cut last
  pub few : length last ≤ 1
  pub adds : Adds (all_turns (turns ++ last)) before after
  pub whole : (end ≡ lane_end.Cut → ⊥) → last ≡ []
  pub torn : end ≡ lane_end.Cut → length last ≡ 1

-- a session, behind the item that says that it begins
abbrev pub linked : Posted → Run → Turn
linked first run = record { came = run.began ∷ []; back = run.ended ∷ []; rises = 0; posts = first ∷ run.posts; orders = run.orders; sides = run.sides }

-- a session whose first item was refused, which is handed back as it came
abbrev pub unlinked : Session → Turn
unlinked session = record { came = session ∷ []; back = session ∷ []; rises = 0; posts = []; orders = []; sides = [] }

pub record WholeLink (first : Posted) (limit : ℕ) (turn : Turn) : Type 0 where
  pub run : Run
  pub is_run : IsRun limit run
  pub is_whole : IsWholeRun run
  pub is : turn ≡ linked first run

pub data CutLink (first : Posted) (limit : ℕ) (turn : Turn) : Type 0 where
  ran : (run : Run) → IsRun limit run → (IsWholeRun run → ⊥) → turn ≡ linked first run → CutLink first limit turn
  refused : (session : Session) → turn ≡ unlinked session → CutLink first limit turn
