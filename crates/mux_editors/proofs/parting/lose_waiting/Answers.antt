-- What waits of an editor is refused.
use Rattle.std.proofs.Common.{ap, sym, ◌∙◌}
use Rattle.event_model.specs.Event.{behind}
use Rattle.event_model.specs.Row.{nothing, on}
use Rattle.event_model.proofs.Turns.{alike, does_alike, does_nothing}
use Rattle.group_rows.specs.Waiting.{refuse_held}
use Rattle.mux_editors.proofs.parting.lose_waiting.Goals as goal

pub returns-in-None-clause-does : goal.returns-in-None-clause-does
returns-in-None-clause-does c = λ settings before base home.
    does_alike (λ st. alike (ap (λ o. on o nothing (λ g. refuse_held settings g c.args.e)) (sym home ∙ (c.home.ensures settings (behind base c.args.outs.now) st ∙ c.in-None.is)))) does_nothing

pub returns-in_ok-refuse_held-in-Some-clause-does : goal.returns-in_ok-refuse_held-in-Some-clause-does
returns-in_ok-refuse_held-in-Some-clause-does c = λ settings before base home.
    does_alike (λ st. alike (ap (λ o. on o nothing (λ g. refuse_held settings g c.args.e)) (sym home ∙ (c.home.ensures settings (behind base c.args.outs.now) st ∙ c.in-Some.is)))) (c.in_ok-refuse_held-in-Some.ensures.does settings base)
