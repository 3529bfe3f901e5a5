-- The requests of an editor at its start fail.
use Rattle.std.proofs.Common.{◌∙◌}
use Rattle.event_model.specs.Event.{behind}
use Rattle.mux_editors.proofs.Halting.{loses_all}
use Rattle.mux_editors.proofs.stops.lose_at.Goals as goal

pub returns-clause-does : goal.returns-clause-does
returns-clause-does c = λ settings base s at named.
    loses_all settings c.args.tables.now c.refuse_ids.new.tables base c.args.outs.now c.refuse_ids.new.outs c.args.e s c.deref.result.now named (λ st. c.deref.ensures.value ∙ c.in_ok-ids.ensures settings (behind base c.args.outs.now) s at st)
    (λ names. c.in_ok-refuse_ids.ensures.does settings base names)
