use Rattle.std.proofs.Common.{◌≢◌, ◌<◌, ℕ, slice_index_or}
use Rattle.mux_lanes.specs.declared.lane_end.LaneEnd.TheVariants as lane_end
use Rattle.mux_serve.specs.declared.job.LaneJob.{LaneJob}
use Rattle.mux_daemon.proofs.serve.none_cut.Given as goal

abbrev pub invariant-loop-job : goal.invariant-loop-job
invariant-loop-job g l = (i : ℕ) (d : LaneJob g.row.P.Denot) → i < l.job-index → (slice_index_or l.jobs i d).end ≢ lane_end.Cut
