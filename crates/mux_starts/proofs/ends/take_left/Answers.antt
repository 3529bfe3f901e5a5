-- The end of a start whose group lives no more.
use Rattle.std.proofs.Common.{sym, ◌∙◌}
use Rattle.event_model.proofs.Frames.{never}
use Rattle.mux_starts.proofs.ends.take_left.Goals as goal

pub returns-in-None-clause-exit : goal.returns-in-None-clause-exit
returns-in-None-clause-exit c = λ settings before run left st ds. never (sym run ∙ c.in-None.ensures.halted settings before st)

pub returns-in-None-clause-failure : goal.returns-in-None-clause-failure
returns-in-None-clause-failure c = λ settings before may left st ds. never (sym may ∙ c.in-None.ensures.settled settings before st)

pub returns-in-Some-clause-exit : goal.returns-in-Some-clause-exit
returns-in-Some-clause-exit c = λ settings before run left st ds. c.end_at.ensures.exit settings before c.args.s c.in-Some.ensures.found run left st ds

pub returns-in-Some-clause-failure : goal.returns-in-Some-clause-failure
returns-in-Some-clause-failure c = λ settings before may left st ds. c.end_at.ensures.failure settings before c.args.s c.in-Some.ensures.found may left st ds
