use Rattle.std.proofs.Common.{rules, ◌≡◌}
use Rattle.lane_lists.specs.Seats.{on_seat}
use Rattle.lane_desk.specs.Kinds.{joined_by, moved}
use Rattle.lane_desk.proofs.Begins.{gives_all}
use Rattle.lane_desk.proofs.seats.Seats.give.Goals as goal

pub returns : goal.returns
returns c =
    let closed = c.is_closed.ensures in
    let seats : c.count.new.self ≡ record (on_seat c.args.lane (moved c.args.is_side c.args.kind) c.args.self.now) { joined = joined_by c.args.kind c.args.self.now.joined } = search rules in
    gives_all c.args.self.now c.args.lane c.args.is_side c.args.kind c.args.outs c.is_closed.result c.in_ok-orders.orders.items c.count.new.self c.give_outs.new.orders.items c.give_outs.new.seats c.begin_all.new.orders.items c.begin_all.new.seats
    closed (c.in_ok-orders.ensures c.count.new.self) seats c.in_ok-give_outs.ensures c.in_ok-begin_all.ensures
