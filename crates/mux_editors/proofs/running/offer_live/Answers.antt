-- Those that live are offered.
use Rattle.std.proofs.Common.{◌∙◌}
use Rattle.event_model.specs.Event.{behind}
use Rattle.event_model.proofs.Turns.{does_knowing}
use Rattle.mux_editors.proofs.running.offer_live.Goals as goal

pub returns-clause-does : goal.returns-clause-does
returns-clause-does c = λ settings owed base x here run none unasked small.
    does_knowing (λ known. c.in_ok-offer_each.ensures.does settings owed base x here run none (c.deref.ensures.value ∙ c.in_ok-live.ensures settings (behind base c.args.outs.now) x here known.0) unasked small)
