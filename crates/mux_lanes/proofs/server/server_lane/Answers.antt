use Rattle.std.proofs.Common.{◌≡◌, false, ◌++◌, [], ◌∷◌, refl, ap, ◌∙◌, ⊎_elim, arith}
use Rattle.lane_lists.specs.declared.item.Order.TheVariants as order
use Rattle.mux_lanes.specs.Lanes.{standing}
use Rattle.mux_lanes.specs.Starts.{Begun, WholeStart, CutBegun}
use Rattle.mux_lanes.proofs.Turning.{ran_none, ran_more, ran_cut, ran_ends, still}
use Rattle.mux_lanes.proofs.Starting.{took_begun, took_misled}
use Rattle.mux_lanes.proofs.server.server_lane.Goals as goal

pub loop-init : goal.loop-init
loop-init g c = record {
  lane = record { posted = refl; orders = refl; sides = refl };
  ran = ran_none (Begun (WholeStart c.args.limit)) (standing g.B.Berth.runs g.B.Berth.left g.B.Berth.faults c.args.berth.now c.args.ends);
}

pub returns-in-Err-clause-ran : goal.returns-in-Err-clause-ran
returns-in-Err-clause-ran g c =
    let after = standing g.B.Berth.runs g.B.Berth.left g.B.Berth.faults c.loop.berth (record { inn = c.loop.ends.inn; out = c.next_order.new.out }) in
    ran_ends (Begun (WholeStart c.args.limit)) (CutBegun c.args.limit) (standing g.B.Berth.runs g.B.Berth.left g.B.Berth.faults c.args.berth.now c.args.ends) after c.in-Err.end (λ e. ⊎_elim (λ s. absurd cc) (λ o. absurd cc) c.in-Err.ensures.ends)
    (still (Begun (WholeStart c.args.limit)) (standing g.B.Berth.runs g.B.Berth.left g.B.Berth.faults c.args.berth.now c.args.ends) (standing g.B.Berth.runs g.B.Berth.left g.B.Berth.faults c.loop.berth c.loop.ends) after
    refl refl (omega arith) refl c.in-Err.ensures.none (ap (λ s. s.pushed) c.next_order.ensures.sides) c.loop.invariant.ran)

pub returns-then-not-served-clause-ran : goal.returns-then-not-served-clause-ran
returns-then-not-served-clause-ran g c =
    let first = standing g.B.Berth.runs g.B.Berth.left g.B.Berth.faults c.args.berth.now c.args.ends in
    let before = standing g.B.Berth.runs g.B.Berth.left g.B.Berth.faults c.loop.berth c.loop.ends in
    let taken = standing g.B.Berth.runs g.B.Berth.left g.B.Berth.faults c.loop.berth (record { inn = c.loop.ends.inn; out = c.next_order.new.out }) in
    let after = standing g.B.Berth.runs g.B.Berth.left g.B.Berth.faults c.serve_begun-served.new.berth c.serve_begun-served.result.ends in
    let ordered : taken.orders ≡ before.orders ++ order.Begin c.in-Ok-Begin.start ∷ [] = rw c.in-Ok-Begin.field-0-is at c.in-Ok-Begin.ensures.order in
    ran_cut (Begun (WholeStart c.args.limit)) (CutBegun c.args.limit) first before after c.serve_begun-served.result.is_whole c.if-not-served.true c.loop.invariant.ran
    (took_begun c.args.limit c.in-Ok-Begin.start before taken after c.serve_begun-served.result.is_whole refl refl (omega arith) refl ordered (ap (λ s. s.pushed) c.next_order.ensures.sides) c.serve_begun-served.ensures.turn)

pub returns-in-Ok : goal.returns-in-Ok
returns-in-Ok g c =
    let first = standing g.B.Berth.runs g.B.Berth.left g.B.Berth.faults c.args.berth.now c.args.ends in
    let before = standing g.B.Berth.runs g.B.Berth.left g.B.Berth.faults c.loop.berth c.loop.ends in
    let after = standing g.B.Berth.runs g.B.Berth.left g.B.Berth.faults c.loop.berth (record { inn = c.loop.ends.inn; out = c.next_order.new.out }) in
    let a = c.loop.invariant.lane in record {
      lane = record { posted = a.posted; orders = c.next_order.ensures.queue ∙ a.orders; sides = ap (λ s. s.queue) c.next_order.ensures.sides ∙ a.sides };
      ran = ran_cut (Begun (WholeStart c.args.limit)) (CutBegun c.args.limit) first before after false refl c.loop.invariant.ran
          (took_misled c.args.limit c.in-Ok.field-0 before after refl refl (omega arith) refl c.in-Ok.ensures.order (ap (λ s. s.pushed) c.next_order.ensures.sides));
      goes_on = λ e. absurd cc;
      stopped = λ e. absurd cc;
    }

pub loop-preserved-else-not-served-2 : goal.loop-preserved-else-not-served-2
loop-preserved-else-not-served-2 g c =
    let first = standing g.B.Berth.runs g.B.Berth.left g.B.Berth.faults c.args.berth.now c.args.ends in
    let before = standing g.B.Berth.runs g.B.Berth.left g.B.Berth.faults c.loop.berth c.loop.ends in
    let taken = standing g.B.Berth.runs g.B.Berth.left g.B.Berth.faults c.loop.berth (record { inn = c.loop.ends.inn; out = c.next_order.new.out }) in
    let after = standing g.B.Berth.runs g.B.Berth.left g.B.Berth.faults c.serve_begun-served.new.berth c.serve_begun-served.result.ends in
    let ordered : taken.orders ≡ before.orders ++ order.Begin c.in-Ok-Begin.start ∷ [] = rw c.in-Ok-Begin.field-0-is at c.in-Ok-Begin.ensures.order in
    let a = c.loop.invariant.lane in
    let b = c.serve_begun-served.ensures.lane in record {
      lane = record {
        posted = b.posted ∙ a.posted;
        orders = b.orders ∙ (c.next_order.ensures.queue ∙ a.orders);
        sides = b.sides ∙ (ap (λ s. s.queue) c.next_order.ensures.sides ∙ a.sides);
      };
      ran = ran_more (Begun (WholeStart c.args.limit)) (CutBegun c.args.limit) first before after c.serve_begun-served.result.is_whole c.if-not-served.false c.loop.invariant.ran
          (took_begun c.args.limit c.in-Ok-Begin.start before taken after c.serve_begun-served.result.is_whole refl refl (omega arith) refl ordered (ap (λ s. s.pushed) c.next_order.ensures.sides) c.serve_begun-served.ensures.turn);
    }
