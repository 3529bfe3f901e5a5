use Rattle.std.proofs.Common.{rules, ◌≡◌, Some, refl}
use Rattle.mux_daemon.proofs.Running.{lanes_ran}
use Rattle.mux_daemon.proofs.serve.run_board.Goals as goal

pub returns-clause-ran : goal.returns-clause-ran
returns-clause-ran g c =
    let ran = c.run_lanes-ran.result in
    let e = c.run_lanes-ran.ensures in
    let has : c.args.lanes.clock.ends ≡ Some (record { inn = c.in-Some.field-0.inn; out = c.in-Some.field-0.out }) = search rules in
    lanes_ran g.P.Port.sessions g.P.Port.links g.P.Port.faults g.B.Berth.runs g.B.Berth.left g.B.Berth.faults g.C.Clock.given g.C.Clock.left c.args.limit c.args.lanes
    record { ports = ran.editors.ports; own = ran.editors.own; berths = ran.others.berths; clock = record { outside = ran.others.clock; number = c.args.lanes.clock.number; ends = Some record { inn = ran.others.ticks; out = c.in-Some.field-0.out }; end = ran.others.ticker } }
    ran.editors.closed c.in-Some.field-0.inn ran.others.ticks c.in-Some.field-0.out e.ports c.requires.own e.own e.kept e.berths has e.queue e.ticked refl
