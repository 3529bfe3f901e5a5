use Rattle.std.proofs.Common.{◌∙◌}
use Rattle.progress_route.proofs.Keeping.{means}
use Rattle.progress_route.proofs.tokens.Tokens.number_of.Goals as goal

pub returns-clause-same : goal.returns-clause-same
returns-clause-same c = λ meaning i h all. c.found.ensures ∙ means meaning i c.args.token.now c.args.self.now.names h all
