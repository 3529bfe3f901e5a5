use Rattle.std.proofs.Common.{[], ◌∷◌, refl, ap, Err}
use Rattle.outside_io.specs.Sessions.{session_of}
use Rattle.outside_io.specs.Told.{prepend_to}
use Rattle.mux_lanes.specs.Lanes.{standing}
use Rattle.mux_lanes.proofs.Turning.{stand}
use Rattle.mux_lanes.proofs.Starting.{took_up, took_failed, took_none}
use Rattle.mux_lanes.proofs.server.serve_start.Goals as goal

pub returns-in-Ok-clause-turn : goal.returns-in-Ok-clause-turn
returns-in-Ok-clause-turn g c =
    let came = session_of g.B.In.Source.taken g.B.In.Source.left g.B.In.Source.faults g.B.Out.Sink.written g.B.Out.Sink.faults c.in-Ok.link.source c.in-Ok.link.sink in
    took_up c.args.limit (standing g.B.Berth.runs g.B.Berth.left g.B.Berth.faults c.args.berth.now c.args.ends)
    (stand (g.B.Berth.runs c.start.new.berth) (prepend_to (came ∷ []) (g.B.Berth.left c.start.new.berth)) (g.B.Berth.faults c.start.new.berth) c.args.ends.inn.pushed c.args.ends.out.orders.taken c.args.ends.out.sides.pushed)
    (standing g.B.Berth.runs g.B.Berth.left g.B.Berth.faults c.serve_run.new.berth c.serve_run.result.ends) c.serve_run.result.is_whole
    c.start.ensures.runs c.in-Ok.ensures.run c.start.ensures.later refl refl refl c.serve_run.ensures.turn

pub returns-in-Err-Failed-clause-turn : goal.returns-in-Err-Failed-clause-turn
returns-in-Err-Failed-clause-turn g c =
    took_failed c.args.limit (standing g.B.Berth.runs g.B.Berth.left g.B.Berth.faults c.args.berth.now c.args.ends)
    (standing g.B.Berth.runs g.B.Berth.left g.B.Berth.faults c.start.new.berth c.refuse_start-is_whole.new.ends) c.refuse_start-is_whole.result
    c.start.ensures.runs c.in-Err-Failed.ensures.none c.start.ensures.later (c.in-Err-Failed.ensures.failed (ap (λ x. Err x) c.in-Err-Failed.field-0-is)) (ap (λ s. s.pushed) c.refuse_start-is_whole.ensures.sides) c.refuse_start-is_whole.ensures.refused

pub returns-in-Err-Memory-clause-turn : goal.returns-in-Err-Memory-clause-turn
returns-in-Err-Memory-clause-turn g c =
    took_none c.args.limit (standing g.B.Berth.runs g.B.Berth.left g.B.Berth.faults c.args.berth.now c.args.ends) (standing g.B.Berth.runs g.B.Berth.left g.B.Berth.faults c.start.new.berth c.args.ends)
    c.start.ensures.runs c.in-Err-Memory.ensures.none c.start.ensures.later refl refl refl
