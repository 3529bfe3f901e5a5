use Rattle.std.proofs.Common.{refl, arith}
use Rattle.mux_lanes.specs.Lanes.{standing}
use Rattle.mux_lanes.proofs.Starting.{took_none}
use Rattle.mux_lanes.proofs.server.serve_begun.Goals as goal

pub returns-in-Err-clause-turn : goal.returns-in-Err-clause-turn
returns-in-Err-clause-turn g c =
    let here = standing g.B.Berth.runs g.B.Berth.left g.B.Berth.faults c.args.berth.now c.args.ends in
    took_none c.args.limit here here refl refl (omega arith) refl refl refl
