-- Whether a start may begin.
use Rattle.std.proofs.Common.{ap, sym, ◌∙◌}
use Rattle.event_model.specs.Stages.{may_start}
use Rattle.mux_causes.proofs.Lives.{last_life}
use Rattle.mux_causes.proofs.coming.may_start.Goals as goal

pub returns-in-Some : goal.returns-in-Some
returns-in-Some c = λ settings events st. c.awaits.ensures ∙ ap may_start (sym (last_life settings c.args.tables.now events c.in-Some.g c.args.s c.index.result.now st c.in-Some.ensures.found c.in-Some.ensures.inside c.index.ensures))

pub returns-in-None : goal.returns-in-None
returns-in-None c = λ settings events st. sym (c.in-None.ensures.settled settings events st)
