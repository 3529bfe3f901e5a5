use Rattle.std.proofs.Common.{◌≡◌, length, arith, Some}
use Rattle.mux_lanes.specs.declared.session.Ends.{Ends}
use Rattle.mux_serve.specs.declared.job.LaneJob.{LaneJob}
use Rattle.mux_serve.specs.Jobs.{BerthRan}
use Rattle.mux_serve.proofs.Refills.{each_back}
use Rattle.mux_serve.proofs.lanes.run_servers.Goals as goal

pub returns : goal.returns
returns g c =
    let size : c.args.berths.len ≡ length c.args.berths.items = omega (arith, c.args.berths.ok) in
    let back = each_back (λ (x y : LaneJob g.row.B.Denot). (e : Ends) → x.ends ≡ Some e → BerthRan g.B.Berth.runs g.B.Berth.left g.B.Berth.faults c.args.limit x y e)
    c.args.berths.len c.args.berths.items c.as_mut_slice.result.now c.run_berths.new.jobs size c.as_mut_slice.ensures.value c.run_berths.ensures.len (λ i d h e at. c.run_berths.ensures.ran i d e h at) in
    (back.0, λ i d e h at. back.1 i d h e at)
