-- What waits of an editor in a group is refused.
use Rattle.std.proofs.Common.{◌∙◌}
use Rattle.event_model.specs.Event.{behind}
use Rattle.mux_turns.proofs.Refusing.{refuses_held}
use Rattle.mux_turns.proofs.held.refuse_held.Goals as goal

pub returns-clause-does : goal.returns-clause-does
returns-clause-does c = λ settings base.
    refuses_held settings c.args.tables.now c.refuse_ids.new.tables base c.args.outs.now c.refuse_ids.new.outs c.args.g c.args.e c.deref.result.now
    (λ st. c.deref.ensures.value ∙ c.in_ok-ids.ensures settings (behind base c.args.outs.now) st) (λ named. c.in_ok-refuse_ids.ensures.does settings base named)
