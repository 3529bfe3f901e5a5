use Rattle.std.proofs.Common.{◌∙◌, ap, subst, slice_index_or}
use Rattle.mux_serve.specs.declared.job.LaneJob.{LaneJob}
use Rattle.mux_serve.specs.Jobs.{BerthRan}
use Rattle.mux_serve.proofs.job.run_berths.Goals as goal

pub returns-clause-ran : goal.returns-clause-ran
returns-clause-ran g c = λ i d e h at.
    let x = (c.for_each_mut.ensures i d h).1 in
    let ran = x.call e (ap (λ (j : LaneJob g.row.B.Denot). j.ends) x.argument_is ∙ at) in
    subst (λ (y : LaneJob g.row.B.Denot). BerthRan g.B.Berth.runs g.B.Berth.left g.B.Berth.faults c.args.limit (slice_index_or c.args.jobs.now i d) y e) x.left
    (subst (λ (y : LaneJob g.row.B.Denot). BerthRan g.B.Berth.runs g.B.Berth.left g.B.Berth.faults c.args.limit y x.after_call.now e) x.argument_is ran)
