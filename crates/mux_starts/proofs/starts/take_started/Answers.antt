-- A start of a group, or one that is over, which can't run.
use Rattle.std.proofs.Common.{sym, ◌∙◌}
use Rattle.event_model.proofs.Frames.{never}
use Rattle.mux_starts.proofs.starts.take_started.Goals as goal

pub returns-in-None-clause-does : goal.returns-in-None-clause-does
returns-in-None-clause-does c = λ settings before first known settled fits st ds. never (sym fits ∙ c.in-None.ensures.settled settings before st)

pub returns-in_ok-start_at-in-Some-clause-does : goal.returns-in_ok-start_at-in-Some-clause-does
returns-in_ok-start_at-in-Some-clause-does c = λ settings before first known settled fits st ds.
    c.in_ok-start_at-in-Some.ensures.does settings before c.args.s c.in-Some.ensures.found first known settled st ds
