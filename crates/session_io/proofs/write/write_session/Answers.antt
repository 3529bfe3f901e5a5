use Rattle.std.proofs.Common.{refl, sym, ◌∙◌, ap, subst}
use Rattle.lane_lists.specs.declared.item.Side.{Side}
use Rattle.lane_queue.specs.Ends.{Pushing}
use Rattle.session_io.specs.Writes.{WroteSoFar}
use Rattle.session_io.proofs.Writing.{nothing_wrote, cut_in, order_more}
use Rattle.session_io.proofs.write.write_session.Goals as goal

pub loop-init : goal.loop-init
loop-init g c = record { orders = refl; sides = refl; wrote = nothing_wrote (g.K.Sink.written c.args.sink.now) (g.K.Sink.faults c.args.sink.now) c.args.out.now.orders.taken c.args.out.now.sides.pushed }

pub returns-in-None-write_order-clause-wrote : goal.returns-in-None-write_order-clause-wrote
returns-in-None-write_order-clause-wrote g c =
    let n = c.in-None-write_order.ensures.none in
    rw c.cut_off-in-None-write_order.ensures (cut_in (g.K.Sink.written c.args.sink.now) (g.K.Sink.written c.loop.sink) (g.K.Sink.written c.write_order.new.sink) (g.K.Sink.faults c.args.sink.now) (g.K.Sink.faults c.loop.sink) (g.K.Sink.faults c.write_order.new.sink)
    c.args.out.now.orders.taken c.loop.out.orders.taken c.write_order.new.out.orders.taken c.args.out.now.sides.pushed c.loop.out.sides.pushed c.write_order.new.out.sides.pushed c.in-Some-Body.body
    (rw n.1 at c.loop.invariant.wrote) (ap (λ o. o.taken) c.write_order.ensures.orders ∙ (rw c.in-Some-Body.field-0-is at c.in-Some-Body.ensures.item)) (rw c.bytes-in-Some-Body.ensures at n.0)
    (n.2 ∙ ap (λ (o : Pushing Side). o.pushed) c.take.ensures.queue.1))

pub loop-preserved : goal.loop-preserved
loop-preserved g c = record {
  orders = ap (λ o. o.queue) c.write_order.ensures.orders ∙ (c.take.ensures.queue.0 ∙ c.loop.invariant.orders);
  sides = c.write_order.ensures.queue ∙ (ap (λ o. o.queue) c.take.ensures.queue.1 ∙ c.loop.invariant.sides);
  wrote = order_more (g.K.Sink.written c.args.sink.now) (g.K.Sink.written c.loop.sink) (g.K.Sink.written c.write_order.new.sink) (g.K.Sink.faults c.args.sink.now) (g.K.Sink.faults c.loop.sink) (g.K.Sink.faults c.write_order.new.sink)
      c.args.out.now.orders.taken c.loop.out.orders.taken c.write_order.new.out.orders.taken c.args.out.now.sides.pushed c.take.new.self.sides.pushed c.write_order.new.out.sides.pushed c.in-Some-Body.body c.loop.broke c.in-Some-write_order.now
      (subst (λ (o : Pushing Side). WroteSoFar (g.K.Sink.written c.args.sink.now) (g.K.Sink.written c.loop.sink) (g.K.Sink.faults c.args.sink.now) (g.K.Sink.faults c.loop.sink) c.args.out.now.orders.taken c.loop.out.orders.taken c.args.out.now.sides.pushed o.pushed c.loop.broke) (sym c.take.ensures.queue.1) c.loop.invariant.wrote)
      (ap (λ o. o.taken) c.write_order.ensures.orders ∙ (rw c.in-Some-Body.field-0-is at c.in-Some-Body.ensures.item)) (rw c.bytes-in-Some-Body.ensures at c.in-Some-write_order.ensures.some);
}
