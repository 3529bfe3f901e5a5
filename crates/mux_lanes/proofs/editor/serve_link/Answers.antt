use Rattle.std.proofs.Common.{refl}
use Rattle.outside_io.specs.Sessions.{session_of}
use Rattle.lane_lists.specs.declared.item.Posted.TheVariants as posted
use Rattle.mux_lanes.specs.Lanes.{standing}
use Rattle.mux_lanes.proofs.Links.{link_ran, link_refused}
use Rattle.mux_lanes.proofs.editor.serve_link.Goals as goal

pub returns-then-not-post-clause-turn : goal.returns-then-not-post-clause-turn
returns-then-not-post-clause-turn g c =
    link_refused posted.Link c.args.limit (session_of g.P.In.Source.taken g.P.In.Source.left g.P.In.Source.faults g.P.Out.Sink.written g.P.Out.Sink.faults c.args.link.source c.args.link.sink)
    (standing g.P.Port.sessions g.P.Port.links g.P.Port.faults c.args.port.now c.args.ends) (standing g.P.Port.sessions g.P.Port.links g.P.Port.faults c.hang_up.new.port record { inn = c.post.new.inn; out = c.args.ends.out })
    c.if-not-post.ensures.posts refl refl c.hang_up.ensures.session c.hang_up.ensures.links c.hang_up.ensures.later

pub returns-clause-turn : goal.returns-clause-turn
returns-clause-turn g c =
    link_ran posted.Link c.args.limit
    (session_of g.P.In.Source.taken g.P.In.Source.left g.P.In.Source.faults g.P.Out.Sink.written g.P.Out.Sink.faults c.args.link.source c.args.link.sink)
    (session_of g.P.In.Source.taken g.P.In.Source.left g.P.In.Source.faults g.P.Out.Sink.written g.P.Out.Sink.faults c.run_session-ran.result.link.source c.run_session-ran.result.link.sink)
    c.post.new.inn.pushed c.run_session-ran.result.ends.inn.pushed c.args.ends.out.orders.taken c.run_session-ran.result.ends.out.orders.taken c.args.ends.out.sides.pushed c.run_session-ran.result.ends.out.sides.pushed
    c.run_session-ran.result.stop c.run_session-ran.result.wrote c.run_session-ran.ensures.read c.run_session-ran.ensures.wrote
    (standing g.P.Port.sessions g.P.Port.links g.P.Port.faults c.args.port.now c.args.ends) (standing g.P.Port.sessions g.P.Port.links g.P.Port.faults c.hang_up-2.new.port c.run_session-ran.result.ends) c.is_whole-is_whole.result
    c.if-not-post.ensures.posts refl refl refl refl refl c.hang_up-2.ensures.session c.hang_up-2.ensures.links c.hang_up-2.ensures.later c.is_whole-is_whole.ensures
