-- Whether a start runs.
use Rattle.std.proofs.Common.{ap, sym, ◌∙◌}
use Rattle.event_model.specs.Stages.{runs}
use Rattle.mux_causes.proofs.Lives.{last_life}
use Rattle.mux_causes.proofs.coming.runs.Goals as goal

pub returns-in-Some : goal.returns-in-Some
returns-in-Some c = λ settings events st. c.is_up.ensures ∙ ap runs (sym (last_life settings c.args.tables.now events c.in-Some.g c.args.s c.index.result.now st c.in-Some.ensures.found c.in-Some.ensures.inside c.index.ensures))

pub returns-in-None : goal.returns-in-None
returns-in-None c = λ settings events st. sym (c.in-None.ensures.halted settings events st)
