-- A body of a start, which is the last of its group.
use Rattle.std.proofs.Common.{sym, ◌∙◌}
use Rattle.event_model.specs.Stages.{life_of}
use Rattle.event_model.proofs.Frames.{never}
use Rattle.mux_debts.proofs.Noting.{over_idle, unready_stands}
use Rattle.mux_entries.proofs.servers.from_server.Goals as goal

pub returns-in-None-clause-does : goal.returns-in-None-clause-does
returns-in-None-clause-does c = λ settings before first known settled fits kept st ds. never (sym fits ∙ c.in-None.ensures.halted settings before st)

pub returns-in_ok-take_body-in-Some-clause-does : goal.returns-in_ok-take_body-in-Some-clause-does
returns-in_ok-take_body-in-Some-clause-does c = λ settings before first known settled fits kept st ds.
    c.in_ok-take_body-in-Some.ensures.does settings before c.args.s first c.in-Some.ensures.found known settled kept fits st ds

-- What starts owe

pub returns-in-None-clause-owed : goal.returns-in-None-clause-owed
returns-in-None-clause-owed c = λ settings before known owed st ds. unready_stands settings c.args.debts.now before owed c.args.s c.args.body.now (over_idle (life_of c.args.s before).stage (c.in-None.ensures.none settings before st))

pub returns-in_ok-take_body-in-Some-clause-owed : goal.returns-in_ok-take_body-in-Some-clause-owed
returns-in_ok-take_body-in-Some-clause-owed c = λ settings before known owed st ds. c.in_ok-take_body-in-Some.ensures.owed settings before known owed c.in-Some.ensures.found st ds

-- What groups carry

pub returns-in-None-clause-carried : goal.returns-in-None-clause-carried
returns-in-None-clause-carried c = λ settings before first known settled fits kept st ds. never (sym fits ∙ c.in-None.ensures.halted settings before st)

pub returns-in_ok-take_body-in-Some-clause-carried : goal.returns-in_ok-take_body-in-Some-clause-carried
returns-in_ok-take_body-in-Some-clause-carried c = λ settings before first known settled fits kept st ds.
    c.in_ok-take_body-in-Some.ensures.carried settings before c.args.s first c.in-Some.ensures.found known settled kept st ds
