use Rattle.lane_lists.proofs.Answered.{drained_answered, failed_answered}
use Rattle.lane_lists.proofs.StartAnswered.{start_failed_answered}
use Rattle.lane_lists.proofs.law.sides_law.Goals as goal

pub returns-clause-drained : goal.returns-clause-drained
returns-clause-drained c n m deeds fair lanes k e bytes at = drained_answered n m deeds fair lanes k e bytes at

pub returns-clause-failed : goal.returns-clause-failed
returns-clause-failed c n m deeds fair lanes k e at = failed_answered n m deeds fair lanes k e at

pub returns-clause-starts : goal.returns-clause-starts
returns-clause-starts c n m deeds fair lanes once s k at = start_failed_answered n m deeds fair lanes once s k at
