-- What a server's lane did, start by start.
use Rattle.std.specs.Prelude.{◌≡◌, ◌⊎◌, ℕ, ◌≤◌, List, [], ◌∷◌, ◌++◌, Bool, true, false, length}
use Rattle.lane_lists.specs.declared.item.Order.{Order}
use Rattle.lane_lists.specs.declared.item.Order.TheVariants as order
use Rattle.lane_lists.specs.declared.item.Posted.{Posted}
use Rattle.lane_lists.specs.declared.item.Posted.TheVariants as posted
use Rattle.session_io.specs.declared.part.End.{End}
use Rattle.mux_lanes.specs.Runs.{order_of}
use Rattle.mux_lanes.specs.Lanes.{CutLink, Turn, WholeLink}

-- a start whose program couldn't be started, the count of the berth having risen; or nothing but an order that was taken
abbrev pub idle : ℕ → List Posted → List Order → Turn
idle rises posts orders = record { came = []; back = []; rises = rises; posts = posts; orders = orders; sides = [] }

-- what a lane does behind the order to begin: a session behind Up, or NoStart, and then the order that ends it
pub data WholeStart (limit : ℕ) (turn : Turn) : Type 0 where
  went_up : WholeLink posted.Up limit turn → WholeStart limit turn
  failed : (end : End) → turn ≡ idle 1 (posted.NoStart ∷ []) (order_of end ∷ []) → WholeStart limit turn

-- the same, cut off: in the session, behind NoStart, or before anything was posted
pub data CutStart (limit : ℕ) (turn : Turn) : Type 0 where
  cut_up : CutLink posted.Up limit turn → CutStart limit turn
  cut_failed : (orders : List Order) → length orders ≤ 1 → ((end : End) → orders ≡ order_of end ∷ [] → ⊥) → turn ≡ idle 1 (posted.NoStart ∷ []) orders → CutStart limit turn
  wanted : (rises : ℕ) → turn ≡ idle rises [] [] → CutStart limit turn

-- a turn behind the order to begin a start
pub record Begun (Behind : Turn → Type 0) (turn : Turn) : Type 0 where
  pub start : ℕ
  pub rest : Turn
  pub behind : Behind rest
  pub is : turn ≡ record rest { orders = order.Begin start ∷ rest.orders }

-- a start that was cut off, or an order that can't come there
pub data CutBegun (limit : ℕ) (turn : Turn) : Type 0 where
  begun : Begun (CutStart limit) turn → CutBegun limit turn
  misled : (o : Order) → turn ≡ idle 0 [] (o ∷ []) → CutBegun limit turn

-- what is posted of a start whose program couldn't be started, and what is taken: the order that ends it, unless it was cut off
pub record RefusedAs (posts posts' : List Posted) (orders orders' : List Order) (is_whole : Bool) : Type 0 where
  pub more : List Posted
  pub taken : List Order
  pub posts_are : posts' ≡ posts ++ more
  pub orders_are : orders' ≡ orders ++ taken
  pub whole : is_whole ≡ true → (end : End) × (more ≡ posted.NoStart ∷ []) × (taken ≡ order_of end ∷ [])
  pub unended : is_whole ≡ false → (end : End) → taken ≡ order_of end ∷ [] → ⊥
  pub cut : (more ≡ []) × (taken ≡ []) ⊎ (more ≡ posted.NoStart ∷ []) × (length taken ≤ 1)
