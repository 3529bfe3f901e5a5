-- A group ends.
use Rattle.event_model.specs.Event.{behind}
use Rattle.mux_tables.proofs.Starts.{start_there}
use Rattle.mux_turns.proofs.Evictions.{evicts_none, evicts_some}
use Rattle.mux_turns.proofs.evicting.evict.Goals as goal

pub returns-in-None-clause-does : goal.returns-in-None-clause-does
returns-in-None-clause-does c = λ settings owed base numbered. evicts_none settings owed c.args.tables.now c.args.tables.now base c.args.outs.now c.args.outs.now c.args.g (λ st. c.in-None.ensures.none settings (behind base c.args.outs.now) st)

pub returns-in_ok-end_start-in-Some-clause-does : goal.returns-in_ok-end_start-in-Some-clause-does
returns-in_ok-end_start-in-Some-clause-does c = λ settings owed base numbered.
    let s = start_there c.args.tables.now.lasts.items c.in-Some.place c.in-Some.ensures.inside in
    evicts_some settings owed c.args.tables.now c.end_start.new.tables base c.args.outs.now c.end_start.new.outs c.args.g s.0 (λ st. c.in-Some.ensures.start settings (behind base c.args.outs.now) s.0 s.1 st)
    (c.in_ok-end_start-in-Some.ensures.does settings owed base s.0 s.1 numbered)
