use Rattle.std.proofs.Common.{refl}
use Rattle.outside_io.specs.Sessions.{session_of}
use Rattle.lane_lists.specs.declared.item.Posted.TheVariants as posted
use Rattle.mux_lanes.specs.Lanes.{standing}
use Rattle.mux_lanes.proofs.Links.{link_ran, link_refused}
use Rattle.mux_lanes.proofs.server.serve_run.Goals as goal

pub returns-then-not-post-clause-turn : goal.returns-then-not-post-clause-turn
returns-then-not-post-clause-turn g c =
    link_refused posted.Up c.args.limit (session_of g.B.In.Source.taken g.B.In.Source.left g.B.In.Source.faults g.B.Out.Sink.written g.B.Out.Sink.faults c.args.link.source c.args.link.sink)
    (standing g.B.Berth.runs g.B.Berth.left g.B.Berth.faults c.args.berth.now c.args.ends) (standing g.B.Berth.runs g.B.Berth.left g.B.Berth.faults c.finish.new.berth record { inn = c.post.new.inn; out = c.args.ends.out })
    c.if-not-post.ensures.posts refl refl c.finish.ensures.run c.finish.ensures.left c.finish.ensures.later

pub returns-clause-turn : goal.returns-clause-turn
returns-clause-turn g c =
    link_ran posted.Up c.args.limit
    (session_of g.B.In.Source.taken g.B.In.Source.left g.B.In.Source.faults g.B.Out.Sink.written g.B.Out.Sink.faults c.args.link.source c.args.link.sink)
    (session_of g.B.In.Source.taken g.B.In.Source.left g.B.In.Source.faults g.B.Out.Sink.written g.B.Out.Sink.faults c.run_session-ran.result.link.source c.run_session-ran.result.link.sink)
    c.post.new.inn.pushed c.run_session-ran.result.ends.inn.pushed c.args.ends.out.orders.taken c.run_session-ran.result.ends.out.orders.taken c.args.ends.out.sides.pushed c.run_session-ran.result.ends.out.sides.pushed
    c.run_session-ran.result.stop c.run_session-ran.result.wrote c.run_session-ran.ensures.read c.run_session-ran.ensures.wrote
    (standing g.B.Berth.runs g.B.Berth.left g.B.Berth.faults c.args.berth.now c.args.ends) (standing g.B.Berth.runs g.B.Berth.left g.B.Berth.faults c.finish-2.new.berth c.run_session-ran.result.ends) c.is_whole-is_whole.result
    c.if-not-post.ensures.posts refl refl refl refl refl c.finish-2.ensures.run c.finish-2.ensures.left c.finish-2.ensures.later c.is_whole-is_whole.ensures
