use Rattle.std.proofs.Common.{◌∙◌, ap}
use Rattle.ask_route.specs.Tables.{seat_in}
use Rattle.ask_route.proofs.Keeping.{find_means}
use Rattle.ask_route.proofs.asks.Asks.find.Goals as goal

pub returns-clause-same : goal.returns-clause-same
returns-clause-same c = λ meaning i h all. c.found.ensures ∙ ap seat_in (find_means meaning i c.args.id.now c.args.self.now h all)
