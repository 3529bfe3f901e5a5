-- What an entry gives, by its cause's kind and its outs.
use Rattle.std.specs.Prelude.{◌≡◌, Bool, List, fold}
use Rattle.mux_history.specs.declared.out.Out.{Out}
use Rattle.lane_lists.specs.declared.item.LaneName.{LaneName}
use Rattle.lane_lists.specs.declared.item.Order.{Order}
use Rattle.lane_lists.specs.Seats.{Given, Seats, give_out, on_seat, seat_of}
use Rattle.lane_lists.specs.Deeds.{begin_all, with_done}
use Rattle.lane_desk.specs.declared.kinds.Kind.{Kind}
use Rattle.lane_desk.specs.Kinds.{done_if, joined_by, moved}

abbrev pub with_orders : List (LaneName × Order) → Seats → Given
with_orders orders seats = record { orders = orders; seats = seats }

-- the lanes behind the cause, and the first order
abbrev pub heard : Seats → LaneName → Bool → Kind → Given
heard seats l side kind = with_done (done_if kind (seat_of l seats).closed) l (record (on_seat l (moved side kind) seats) { joined = joined_by kind seats.joined })

abbrev pub given_by : Seats → LaneName → Bool → Kind → List Out → Given
given_by seats l side kind outs = begin_all (fold give_out (heard seats l side kind) outs)

-- behind these orders and lanes
pub record Gives (g : Given) (orders : List (LaneName × Order)) (seats : Seats) : Type 0 where
  pub orders_are : orders ≡ g.orders
  pub seats_are : seats ≡ g.seats
