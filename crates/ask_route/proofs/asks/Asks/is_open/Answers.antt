use Rattle.std.proofs.Common.{◌∙◌, ap}
use Rattle.std.specs.Prelude.{is_some}
use Rattle.std.specs.List.{list_any}
use Rattle.std.specs.Map.{values_of}
use Rattle.ask_route.specs.Tables.{is_under}
use Rattle.ask_route.proofs.Keeping.{means}
use Rattle.ask_route.proofs.Numbering.{any_found, copied_some}
use Rattle.ask_route.proofs.asks.Asks.is_open.Goals as goal

pub returns-clause-exact : goal.returns-clause-exact
returns-clause-exact c =
    c.is_some.ensures ∙ (copied_some c.find_under.result ∙ (ap is_some c.find_under.ensures
    ∙ (any_found (is_under c.args.id.now) (values_of c.self.inside.rows.rows) ∙ ap (list_any (is_under c.args.id.now)) c.self.view_is)))

pub returns-clause-same : goal.returns-clause-same
returns-clause-same c = λ meaning i h all. returns-clause-exact c ∙ means meaning i c.args.id.now c.args.self.now h all
