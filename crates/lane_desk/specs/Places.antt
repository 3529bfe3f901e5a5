-- Which lanes there are, and at which place each has its ends: the editors' lanes, the servers', and the ticker's.
use Rattle.std.specs.Prelude.{ℕ, ◌+◌, ◌-◌, nat_lt, if◌then◌else◌, length}
use Rattle.lane_lists.specs.declared.item.LaneName.{LaneName}
use Rattle.lane_lists.specs.declared.item.LaneName.TheVariants as lane
use Rattle.lane_lists.specs.Seats.{Seats}
use Rattle.lane_lists.specs.Origins.{IsIn}

abbrev pub IsLane : LaneName → Seats → Type 0
IsLane l seats = IsIn (length seats.editors) (length seats.servers) l

-- the place of its ends, and the lane of a place
abbrev pub place : ℕ → ℕ → LaneName → ℕ
place n m (lane.Editor i) = i
place n m (lane.Server i) = n + i
place n m lane.Ticker = n + m

abbrev pub name : ℕ → ℕ → ℕ → LaneName
name n m i = if nat_lt i n then lane.Editor i else if nat_lt i (n + m) then lane.Server (i - n) else lane.Ticker
