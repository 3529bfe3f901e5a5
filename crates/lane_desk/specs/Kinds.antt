-- What an item and a cause leave at a lane, without their bodies.
use Rattle.std.specs.Prelude.{ℕ, ◌+◌, Bool, true, false, if◌then◌else◌, List, [], ◌∷◌, ◌++◌, Option, Some, None}
use Rattle.mux_history.specs.declared.cause.Cause.{Cause}
use Rattle.mux_history.specs.declared.cause.Cause.TheVariants as cause
use Rattle.lane_lists.specs.declared.item.Item.{Item}
use Rattle.lane_lists.specs.declared.item.Item.TheVariants as item
use Rattle.lane_lists.specs.declared.item.Posted.TheVariants as posted
use Rattle.lane_lists.specs.declared.item.Side.TheVariants as side
use Rattle.lane_lists.specs.declared.item.Order.{Order}
use Rattle.lane_lists.specs.declared.item.Order.TheVariants as order
use Rattle.lane_lists.specs.Seats.{Seat, answered}
use Rattle.lane_desk.specs.declared.kinds.Mark.{Mark}
use Rattle.lane_desk.specs.declared.kinds.Mark.TheVariants as mark
use Rattle.lane_desk.specs.declared.kinds.Kind.{Kind}
use Rattle.lane_desk.specs.declared.kinds.Kind.TheVariants as kind

abbrev pub mark_of : Item → Mark
mark_of (item.Side side.Wrote) = mark.Wrote
mark_of (item.Side side.Broke) = mark.Broke
mark_of (item.Posted (posted.Ended w)) = mark.Ended
mark_of (item.Posted posted.Link) = mark.Nothing
mark_of (item.Posted posted.Up) = mark.Nothing
mark_of (item.Posted posted.NoStart) = mark.Nothing
mark_of (item.Posted (posted.Body body)) = mark.Nothing
mark_of (item.Posted (posted.Tick t)) = mark.Nothing

abbrev pub is_side : Mark → Bool
is_side mark.Wrote = true
is_side mark.Broke = true
is_side mark.Ended = false
is_side mark.Nothing = false

-- a lane with this mark
abbrev pub marked : Mark → Seat → Seat
marked mark.Wrote seat = record seat { owed = answered side.Wrote seat.owed }
marked mark.Broke seat = record seat { owed = answered side.Broke seat.owed }
marked mark.Ended seat = record seat { tail = false }
marked mark.Nothing seat = seat

abbrev pub kind_of : Cause → Kind
kind_of (cause.Joined e) = kind.Joins e
kind_of (cause.FromEditor e body) = kind.Stays
kind_of (cause.EditorGone e w) = kind.Goes
kind_of (cause.Started s) = kind.Starts
kind_of (cause.StartFailed s) = kind.Goes
kind_of (cause.FromServer s body) = kind.Stays
kind_of (cause.ServerGone s) = kind.Goes
kind_of (cause.Drained e k) = kind.Stays
kind_of (cause.Tick t) = kind.Stays

-- a lane behind a cause of this kind; the cause came of a side item or not
abbrev pub moved : Bool → Kind → Seat → Seat
moved s (kind.Joins e) seat = record seat { now = Some e; up = true; closed = false }
moved s kind.Starts seat = record seat { up = true }
moved s kind.Goes seat = record seat { now = None; up = false; closed = false; tail = s }
moved s kind.Stays seat = seat

-- the order that a session gets that is over; `closed`: whether it was closed before
abbrev pub done_if : Kind → Bool → List Order
done_if kind.Goes closed = if closed then [] else order.Done ∷ []
done_if kind.Starts closed = []
done_if kind.Stays closed = []
done_if (kind.Joins e) closed = []

abbrev pub joined_by : Kind → ℕ → ℕ
joined_by (kind.Joins e) n = n + 1
joined_by kind.Starts n = n
joined_by kind.Goes n = n
joined_by kind.Stays n = n

abbrev pub first_of : List (ℕ × ℕ) → Option (ℕ × ℕ)
first_of [] = None
first_of (o ∷ owed) = Some o

-- a lane that is to write so many bytes more
abbrev pub owing : ℕ → ℕ → Seat → Seat
owing session bytes seat = record seat { owed = seat.owed ++ (session, bytes) ∷ [] }
