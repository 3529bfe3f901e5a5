use Rattle.std.proofs.Common.{not, ap, sym, ◌∙◌}
use Rattle.lane_desk.specs.declared.desk.Turned.{Turned}
use Rattle.lane_desk.specs.Desks.{TooMany}
use Rattle.lane_desk.proofs.Turns.{did_give}
use Rattle.lane_desk.proofs.desk.act.Goals as goal

pub returns-then-give_entry-clause-acted : goal.returns-then-give_entry-clause-acted
returns-then-give_entry-clause-acted g c =
    did_give g.K.Steps.stands (TooMany g.K.Steps.stands g.K.Steps.allows g.K.Steps.passes) c.args.counts.editors c.args.counts.servers c.args.taken.lane c.args.taken.mark c.args.cause c.give_entry.result c.on.result.spent c.on.result.why c.args.core.now c.step.new.self c.args.ends.now.items c.give_entry.new.ends.items c.args.seats.now c.mark.new.self c.give_entry.new.seats
    c.kind_of-kind.result c.in-Ok.outs (ap (λ (t : Turned). not t.spent) c.on.ensures ∙ sym c.if-give_entry.true) (ap (λ (t : Turned). t.why) c.on.ensures) c.mark.ensures c.kind_of-kind.ensures c.in-Ok.ensures.ok c.in-Ok.ensures.once c.give_entry.ensures.dealt c.give_entry.ensures.seats

pub returns-else-give_entry-clause-acted : goal.returns-else-give_entry-clause-acted
returns-else-give_entry-clause-acted g c =
    did_give g.K.Steps.stands (TooMany g.K.Steps.stands g.K.Steps.allows g.K.Steps.passes) c.args.counts.editors c.args.counts.servers c.args.taken.lane c.args.taken.mark c.args.cause c.give_entry.result c.over-else-give_entry.result.spent c.over-else-give_entry.result.why c.args.core.now c.step.new.self c.args.ends.now.items c.give_entry.new.ends.items c.args.seats.now c.mark.new.self c.give_entry.new.seats
    c.kind_of-kind.result c.in-Ok.outs (ap (λ (t : Turned). not t.spent) c.over-else-give_entry.ensures ∙ sym c.if-give_entry.false) (ap (λ (t : Turned). t.why) c.over-else-give_entry.ensures) c.mark.ensures c.kind_of-kind.ensures c.in-Ok.ensures.ok c.in-Ok.ensures.once c.give_entry.ensures.dealt c.give_entry.ensures.seats
