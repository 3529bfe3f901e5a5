use Rattle.std.proofs.Common.{List, [], subst}
use Rattle.lane_lists.specs.declared.item.LaneName.{LaneName}
use Rattle.lane_lists.specs.declared.item.Order.{Order}
use Rattle.lane_desk.specs.Desks.{Dealt, Pairwise}
use Rattle.lane_desk.specs.Places.{name}
use Rattle.lane_desk.proofs.Ends.{none_dealt}
use Rattle.lane_desk.proofs.desk.give_entry.Goals as goal

pub returns-in_default-clause-dealt : goal.returns-in_default-clause-dealt
returns-in_default-clause-dealt g c = none_dealt c.args.counts.editors c.args.counts.servers _ c.args.ends.now.items

pub returns-clause-dealt : goal.returns-clause-dealt
returns-clause-dealt g c =
    subst (λ (ys : List (LaneName × Order)). Pairwise (λ i. Dealt (name c.args.counts.editors c.args.counts.servers i) ys [] c.deal.result) c.args.ends.now.items c.deal.new.ends.items) (rw c.is_side.ensures at c.in-Ok.ensures.orders_are) c.deal.ensures
