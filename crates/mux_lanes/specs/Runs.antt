-- One session of a lane: how its link or program stood when it came and when it was handed back, what was posted and said, what was ordered, and how its two parts ended.
use Rattle.std.specs.Prelude.{◌≡◌, ℕ, List, [], false, Some}
use Rattle.outside_io.specs.Sessions.{Session}
use Rattle.lane_lists.specs.declared.item.Order.{Order}
use Rattle.lane_lists.specs.declared.item.Order.TheVariants as order
use Rattle.lane_lists.specs.declared.item.Posted.{Posted}
use Rattle.lane_lists.specs.declared.item.Side.{Side}
use Rattle.session_io.specs.declared.part.End.{End}
use Rattle.session_io.specs.declared.part.End.TheVariants as end
use Rattle.session_io.specs.declared.read.Stop.{Stop}
use Rattle.session_io.specs.declared.read.Stop.TheVariants as stop
use Rattle.session_io.specs.declared.write.Wrote.{Wrote}
use Rattle.session_io.specs.Reads.{ReadAs}
use Rattle.session_io.specs.Writes.{WroteAs}

pub record Run : Type 0 where
  pub began : Session
  pub ended : Session
  pub posts : List Posted
  pub orders : List Order
  pub sides : List Side
  pub stop : Stop
  pub wrote : Wrote

-- what was posted are the frames of the bytes read and how they ended; what was written are the frames of the bodies ordered
pub record IsRun (limit : ℕ) (run : Run) : Type 0 where
  pub read : ReadAs limit run.began.read run.ended.read run.ended.left run.began.source_faults run.ended.source_faults [] run.posts run.stop
  pub wrote : WroteAs run.began.written run.ended.written run.began.sink_faults run.ended.sink_faults [] run.orders [] run.sides run.wrote

abbrev pub order_of : End → Order
order_of end.Closed = order.Close
order_of end.Done = order.Done

-- neither part was cut off, and a reading part that was told of an end was told of the one that was ordered
pub record IsWhole (told : Stop) (wrote : Wrote) : Type 0 where
  pub end : End
  pub ordered : wrote.end ≡ Some (order_of end)
  pub written : wrote.cut ≡ false
  pub read : told ≡ stop.Cut → ⊥
  pub agreed : (other : End) → told ≡ stop.Told other → other ≡ end

abbrev pub IsWholeRun : Run → Type 0
IsWholeRun run = IsWhole run.stop run.wrote
