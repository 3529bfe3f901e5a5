-- The requests of an editor at the last start of its group fail.
use Rattle.event_model.specs.Event.{behind}
use Rattle.mux_tables.proofs.Starts.{start_there}
use Rattle.mux_editors.proofs.Halting.{loses_lost, loses_some}
use Rattle.mux_editors.proofs.stops.lose_in.Goals as goal

pub returns-in-None-clause-does : goal.returns-in-None-clause-does
returns-in-None-clause-does c = λ settings before base stays forwarded. loses_lost settings c.args.tables.now before base c.args.outs.now c.args.home c.args.e stays c.in-None.ensures.lost

pub returns-in_ok-lose_at-in-Some-clause-does : goal.returns-in_ok-lose_at-in-Some-clause-does
returns-in_ok-lose_at-in-Some-clause-does c = λ settings before base stays forwarded.
    let s = start_there c.args.tables.now.lasts.items c.in-Some.g c.in-Some.ensures.inside in
    loses_some settings c.args.tables.now c.lose_at.new.tables before base c.args.outs.now c.lose_at.new.outs c.args.home c.args.e s.0 stays forwarded (λ st. c.in-Some.ensures.start settings (behind base c.args.outs.now) s.0 s.1 st)
    (λ named. c.in_ok-lose_at-in-Some.ensures.does settings base s.0 s.1 named)
