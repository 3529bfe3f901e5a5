use denote.Param.Send.{sendable}
use Rattle.std.proofs.Common.{arith, refl}
use Rattle.std.proofs.lemmas.Result.{err_from_is_err_and}
use Rattle.mux_client.specs.Dials.{port_state}
use Rattle.mux_client.proofs.Dials.{dialled_none, dialled_some}
use Rattle.mux_client.proofs.question.ask_from.Goals as goal

-- a body's limit is in its range
pub ask_at-requires : goal.ask_at-requires
ask_at-requires g c = let most = c.args.config.now.in_range.content.1 in (search sendable depth 20, (search sendable depth 20, omega (arith, most)))

pub returns-in_err-dial-clause-ran : goal.returns-in_err-dial-clause-ran
returns-in_err-dial-clause-ran g c =
    let p = err_from_is_err_and c.from_residual.result c.from_residual.ensures.1 in
    rw (p.1, p.2) (dialled_none (port_state g.D.Port.Port.sessions g.D.Port.Port.links g.D.Port.Port.held g.D.Port.Port.faults) _ _ (g.D.Door.left c.args.door.now) (g.D.Door.left c.dial.new.door) (g.D.Door.faults c.args.door.now) (g.D.Door.faults c.dial.new.door) c.args.port.now c.dial.new.port c.in_err-dial.field-0.0 c.requires c.in_err-dial.ensures.kept c.in_err-dial.ensures.why refl)

pub returns-clause-ran : goal.returns-clause-ran
returns-clause-ran g c =
    dialled_some (port_state g.D.Port.Port.sessions g.D.Port.Port.links g.D.Port.Port.held g.D.Port.Port.faults) _ _ (g.D.Door.left c.args.door.now) (g.D.Door.left c.dial.new.door) (g.D.Door.faults c.args.door.now) (g.D.Door.faults c.dial.new.door) c.dial.new.port c.in-Some.port c.ask_at.new.port c.ask_at.result c.in-Some.is c.in_ok-dial.ensures.fresh c.in_ok-dial.ensures.port c.ask_at.ensures
