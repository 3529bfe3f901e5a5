use Rattle.std.proofs.Common.{rules, ◌<◌, length}
use Rattle.mux_daemon.proofs.Places.{was_at}
use Rattle.mux_daemon.proofs.Opening.{one_more, same_more}
use Rattle.mux_daemon.proofs.open.open_jobs.Goals as goal

pub returns-then-is_err-clause-same : goal.returns-then-is_err-clause-same
returns-then-is_err-clause-same g c =
    let within : c.loop-at.at < length c.loop-at.jobs.items = search rules in
    let was = was_at c.loop-at.jobs.items c.loop-at.at c.index_mut.result.now within c.index_mut.ensures.value in
    same_more c.args.jobs.now.items c.loop-at.jobs.items c.loop-at.at c.index_mut.result.now c.open_job.new.job c.loop-at.invariant.same was c.open_job.ensures.outside

pub returns-in_default-clause-same : goal.returns-in_default-clause-same
returns-in_default-clause-same g c =
    let within : c.loop-at.at < length c.loop-at.jobs.items = search rules in
    let was = was_at c.loop-at.jobs.items c.loop-at.at c.index_mut.result.now within c.index_mut.ensures.value in
    same_more c.args.jobs.now.items c.loop-at.jobs.items c.loop-at.at c.index_mut.result.now c.open_job.new.job c.loop-at.invariant.same was c.open_job.ensures.outside

pub loop-at-preserved : goal.loop-at-preserved
loop-at-preserved g c =
    let within : c.loop-at.at < length c.loop-at.jobs.items = search rules in
    let was = was_at c.loop-at.jobs.items c.loop-at.at c.index_mut.result.now within c.index_mut.ensures.value in
    record {
      same = same_more c.args.jobs.now.items c.loop-at.jobs.items c.loop-at.at c.index_mut.result.now c.open_job.new.job c.loop-at.invariant.same was c.open_job.ensures.outside;
      number = search rules;
      opened = one_more c.loop-at.at c.args.hubs.now.items c.loop-at.hubs.items c.open_job.new.hubs.items c.loop-at.jobs.items c.open_job.new.job within c.loop-at.invariant.opened (search rules);
    }
