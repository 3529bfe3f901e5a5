use Rattle.std.proofs.Common.{◌≡◌, length, arith, Some}
use Rattle.mux_lanes.specs.declared.session.Ends.{Ends}
use Rattle.mux_serve.specs.declared.job.LaneJob.{LaneJob}
use Rattle.mux_serve.specs.Jobs.{PortRan}
use Rattle.mux_serve.proofs.Refills.{each_back}
use Rattle.mux_serve.proofs.lanes.run_links.Goals as goal

pub returns : goal.returns
returns g c =
    let size : c.args.ports.len ≡ length c.args.ports.items = omega (arith, c.args.ports.ok) in
    let back = each_back (λ (x y : LaneJob g.row.P.Denot). (e : Ends) → x.ends ≡ Some e → PortRan g.P.Port.sessions g.P.Port.links g.P.Port.faults c.args.limit x y e)
    c.args.ports.len c.args.ports.items c.as_mut_slice.result.now c.run_ports.new.jobs size c.as_mut_slice.ensures.value c.run_ports.ensures.len (λ i d h e at. c.run_ports.ensures.ran i d e h at) in
    (back.0, λ i d e h at. back.1 i d h e at)
