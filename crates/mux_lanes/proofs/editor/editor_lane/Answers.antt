use Rattle.std.proofs.Common.{[], ◌∷◌, refl, sym, ◌∙◌, ⊎_elim}
use Rattle.outside_io.specs.Sessions.{session_of}
use Rattle.outside_io.specs.Told.{prepend_to}
use Rattle.lane_lists.specs.declared.item.Posted.TheVariants as posted
use Rattle.mux_lanes.specs.declared.lane_end.LaneEnd.TheVariants as lane_end
use Rattle.mux_lanes.specs.Lanes.{WholeLink, CutLink, standing}
use Rattle.mux_lanes.proofs.Turning.{ran_none, ran_more, ran_cut, ran_ends, stays, stand}
use Rattle.mux_lanes.proofs.editor.editor_lane.Goals as goal

pub loop-init : goal.loop-init
loop-init g c = record {
  lane = record { posted = refl; orders = refl; sides = refl };
  ran = ran_none (WholeLink posted.Link c.args.limit) (standing g.P.Port.sessions g.P.Port.links g.P.Port.faults c.args.port.now c.args.ends);
}

pub returns-in-Some-look-clause-ran : goal.returns-in-Some-look-clause-ran
returns-in-Some-look-clause-ran g c =
    ran_ends (WholeLink posted.Link c.args.limit) (CutLink posted.Link c.args.limit) (standing g.P.Port.sessions g.P.Port.links g.P.Port.faults c.args.port.now c.args.ends) (standing g.P.Port.sessions g.P.Port.links g.P.Port.faults c.loop.port c.loop.ends) c.in-Some-look.end (λ e. ⊎_elim (λ s. absurd cc) (λ o. absurd cc) c.in-Some-look.ensures.ends) c.loop.invariant.ran

pub returns-then-not-served-clause-ran : goal.returns-then-not-served-clause-ran
returns-then-not-served-clause-ran g c =
    let came = session_of g.P.In.Source.taken g.P.In.Source.left g.P.In.Source.faults g.P.Out.Sink.written g.P.Out.Sink.faults c.in-Ok.link.source c.in-Ok.link.sink in
    let left = prepend_to (came ∷ []) (g.P.Port.links c.next_link.new.port) in
    ran_cut (WholeLink posted.Link c.args.limit) (CutLink posted.Link c.args.limit) (standing g.P.Port.sessions g.P.Port.links g.P.Port.faults c.args.port.now c.args.ends)
    (stand (g.P.Port.sessions c.next_link.new.port) left (g.P.Port.faults c.next_link.new.port) c.loop.ends.inn.pushed c.loop.ends.out.orders.taken c.loop.ends.out.sides.pushed)
    (standing g.P.Port.sessions g.P.Port.links g.P.Port.faults c.serve_link-served.new.port c.serve_link-served.result.ends) c.serve_link-served.result.is_whole c.if-not-served.true
    (stays (WholeLink posted.Link c.args.limit) (standing g.P.Port.sessions g.P.Port.links g.P.Port.faults c.args.port.now c.args.ends) (g.P.Port.sessions c.loop.port) (g.P.Port.sessions c.next_link.new.port) (g.P.Port.links c.loop.port) left (g.P.Port.faults c.loop.port) (g.P.Port.faults c.next_link.new.port)
    c.loop.ends.inn.pushed c.loop.ends.out.orders.taken c.loop.ends.out.sides.pushed c.next_link.ensures.sessions c.in-Ok.ensures.link c.next_link.ensures.later c.loop.invariant.ran)
    c.serve_link-served.ensures.turn

pub loop-preserved-else-not-served : goal.loop-preserved-else-not-served
loop-preserved-else-not-served g c =
    let came = session_of g.P.In.Source.taken g.P.In.Source.left g.P.In.Source.faults g.P.Out.Sink.written g.P.Out.Sink.faults c.in-Ok.link.source c.in-Ok.link.sink in
    let left = prepend_to (came ∷ []) (g.P.Port.links c.next_link.new.port) in
    let a = c.loop.invariant.lane in
    let b = c.serve_link-served.ensures.lane in record {
      lane = record { posted = b.posted ∙ a.posted; orders = b.orders ∙ a.orders; sides = b.sides ∙ a.sides };
      ran = ran_more (WholeLink posted.Link c.args.limit) (CutLink posted.Link c.args.limit) (standing g.P.Port.sessions g.P.Port.links g.P.Port.faults c.args.port.now c.args.ends)
          (stand (g.P.Port.sessions c.next_link.new.port) left (g.P.Port.faults c.next_link.new.port) c.loop.ends.inn.pushed c.loop.ends.out.orders.taken c.loop.ends.out.sides.pushed)
          (standing g.P.Port.sessions g.P.Port.links g.P.Port.faults c.serve_link-served.new.port c.serve_link-served.result.ends) c.serve_link-served.result.is_whole c.if-not-served.false
          (stays (WholeLink posted.Link c.args.limit) (standing g.P.Port.sessions g.P.Port.links g.P.Port.faults c.args.port.now c.args.ends) (g.P.Port.sessions c.loop.port) (g.P.Port.sessions c.next_link.new.port) (g.P.Port.links c.loop.port) left (g.P.Port.faults c.loop.port) (g.P.Port.faults c.next_link.new.port)
          c.loop.ends.inn.pushed c.loop.ends.out.orders.taken c.loop.ends.out.sides.pushed c.next_link.ensures.sessions c.in-Ok.ensures.link c.next_link.ensures.later c.loop.invariant.ran)
          c.serve_link-served.ensures.turn;
    }

pub returns-in-Err-Closed-clause-ran : goal.returns-in-Err-Closed-clause-ran
returns-in-Err-Closed-clause-ran g c =
    ran_ends (WholeLink posted.Link c.args.limit) (CutLink posted.Link c.args.limit) (standing g.P.Port.sessions g.P.Port.links g.P.Port.faults c.args.port.now c.args.ends) (standing g.P.Port.sessions g.P.Port.links g.P.Port.faults c.next_link.new.port c.loop.ends) lane_end.Through (λ e. absurd cc)
    (stays (WholeLink posted.Link c.args.limit) (standing g.P.Port.sessions g.P.Port.links g.P.Port.faults c.args.port.now c.args.ends) (g.P.Port.sessions c.loop.port) (g.P.Port.sessions c.next_link.new.port) (g.P.Port.links c.loop.port) (g.P.Port.links c.next_link.new.port) (g.P.Port.faults c.loop.port) (g.P.Port.faults c.next_link.new.port)
    c.loop.ends.inn.pushed c.loop.ends.out.orders.taken c.loop.ends.out.sides.pushed c.next_link.ensures.sessions (sym c.in-Err-Closed.ensures.none) c.next_link.ensures.later c.loop.invariant.ran)
