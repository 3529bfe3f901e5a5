use Rattle.std.proofs.Common.{◌∙◌, ap}
use Rattle.std.specs.Prelude.{is_some}
use Rattle.progress_route.proofs.tokens.Tokens.is_live.Goals as goal

pub returns-clause-same : goal.returns-clause-same
returns-clause-same c = λ meaning i h all. c.is_some.ensures ∙ ap is_some (c.number_of.ensures.same meaning i h all)
