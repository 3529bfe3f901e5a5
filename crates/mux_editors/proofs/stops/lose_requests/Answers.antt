-- The requests of an editor fail.
use Rattle.std.proofs.Common.{◌∙◌}
use Rattle.event_model.specs.Event.{behind}
use Rattle.mux_tables.proofs.DocumentLeft.{home_seen}
use Rattle.mux_editors.proofs.Halting.{loses_homeless, loses_home}
use Rattle.mux_editors.proofs.stops.lose_requests.Goals as goal

pub returns-in-None-clause-does : goal.returns-in-None-clause-does
returns-in-None-clause-does c = λ settings before base stays forwarded. loses_homeless settings c.args.tables.now before base c.args.outs.now c.args.e stays
    (λ st. home_seen settings c.args.tables.now (behind base c.args.outs.now) c.args.e _ c.requires c.group.ensures st ∙ c.in-None.is)

pub returns-in_ok-lose_in-in-Some-clause-does : goal.returns-in_ok-lose_in-in-Some-clause-does
returns-in_ok-lose_in-in-Some-clause-does c = λ settings before base stays forwarded. loses_home settings c.args.tables.now c.lose_in.new.tables before base c.args.outs.now c.lose_in.new.outs c.args.e c.in-Some.home stays
    (λ st. home_seen settings c.args.tables.now (behind base c.args.outs.now) c.args.e _ c.requires c.group.ensures st ∙ c.in-Some.is)
    (c.in_ok-lose_in-in-Some.ensures.does settings before base stays forwarded)
