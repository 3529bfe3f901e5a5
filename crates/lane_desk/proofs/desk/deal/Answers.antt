use Rattle.std.proofs.Common.{rules, ◌≡◌, [], ◌∷◌, ◌∙◌, List, true, subst, arith}
use Rattle.lane_lists.specs.declared.item.LaneName.{LaneName}
use Rattle.lane_lists.specs.declared.item.Order.{Order}
use Rattle.lane_desk.specs.Desks.{Dealt, Pairwise}
use Rattle.lane_desk.specs.Places.{name}
use Rattle.lane_desk.proofs.Ends.{deal_one, deal_stop, nothing_there}
use Rattle.lane_desk.proofs.desk.deal.Goals as goal

pub returns-then-not-give : goal.returns-then-not-give
returns-then-not-give g c =
    let left : c.loop-lane.lane-iterator.rest.items ≡ (c.in-Some.lane, c.in-Some.order) ∷ c.next.new.self.rest.items = search rules in
    deal_stop c.args.counts.editors c.args.counts.servers c.args.orders.items c.next.new.self.rest.items c.in-Some.lane c.in-Some.order c.args.ends.now.items c.loop-lane.ends.items c.give.new.ends.items
    (subst (λ (ys : List (LaneName × Order)). Pairwise (λ i. Dealt (name c.args.counts.editors c.args.counts.servers i) c.args.orders.items ys true) c.args.ends.now.items c.loop-lane.ends.items) left c.loop-lane.invariant.dealt)
    c.if-not-give.ensures

pub loop-lane-preserved : goal.loop-lane-preserved
loop-lane-preserved g c =
    let left : c.loop-lane.lane-iterator.rest.items ≡ (c.in-Some.lane, c.in-Some.order) ∷ c.next.new.self.rest.items = search rules in
    let dealt = deal_one c.args.counts.editors c.args.counts.servers c.args.orders.items c.next.new.self.rest.items c.in-Some.lane c.in-Some.order c.args.ends.now.items c.loop-lane.ends.items c.give.new.ends.items c.requires.ends
    (subst (λ (ys : List (LaneName × Order)). Pairwise (λ i. Dealt (name c.args.counts.editors c.args.counts.servers i) c.args.orders.items ys true) c.args.ends.now.items c.loop-lane.ends.items) left c.loop-lane.invariant.dealt)
    c.if-not-give.ensures in
    record { dealt = dealt; size = dealt.len ∙ c.requires.ends }

pub returns : goal.returns
returns g c =
    let left : c.loop-lane.lane-iterator.rest.items ≡ [] = nothing_there c.loop-lane.lane-iterator.rest.items (let e = c.in-None.ensures.steps in omega (arith, e.0, c.loop-lane.lane-iterator.rest.ok)) in
    subst (λ (ys : List (LaneName × Order)). Pairwise (λ i. Dealt (name c.args.counts.editors c.args.counts.servers i) c.args.orders.items ys true) c.args.ends.now.items c.loop-lane.ends.items) left c.loop-lane.invariant.dealt
