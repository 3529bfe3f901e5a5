use Rattle.std.proofs.Common.{rules, ◌≡◌, ◌∷◌, ◌∙◌, arith, Some}
use Rattle.lane_lists.specs.Seats.{free_place}
use Rattle.lane_desk.proofs.Begins.{begin_next}
use Rattle.lane_desk.proofs.given.begin_all.Goals as goal

pub loop-preserved : goal.loop-preserved
loop-preserved c =
    let waited : c.loop.seats.waiting ≡ c.in-Some-pop_front.start ∷ c.pop_front.new.self.items = search rules in
    let place : free_place c.loop.seats.servers ≡ Some c.in-Some.i = search rules in
    let one = begin_next c.loop.orders.items c.loop.seats _ c.in-Some-pop_front.start c.pop_front.new.self.items c.in-Some.i c.begin.new.orders.items c.begin.new.seats waited place (search rules) c.in_ok-begin.ensures in
    record { same = one.same ∙ c.loop.invariant.same; left = omega (arith, one.fewer, c.loop.invariant.left) }
