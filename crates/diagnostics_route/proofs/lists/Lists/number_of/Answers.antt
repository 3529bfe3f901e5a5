use Rattle.std.proofs.Common.{◌∙◌, ap}
use Rattle.diagnostics_route.specs.Rows.{first_of, number_in}
use Rattle.diagnostics_route.proofs.Numbering.{under_found}
use Rattle.diagnostics_route.proofs.lists.Lists.number_of.Goals as goal

pub returns-in-Some : goal.returns-in-Some
returns-in-Some c = c.first_of.ensures ∙ (ap first_of c.in-Some.ensures ∙ (under_found c.args.uri.now c.self.inside.lists.items c.self.inside.index c.self.invariant ∙ ap (number_in c.args.uri.now) c.self.view_is))

pub returns-in-None : goal.returns-in-None
returns-in-None c = ap first_of c.in-None.ensures ∙ (under_found c.args.uri.now c.self.inside.lists.items c.self.inside.index c.self.invariant ∙ ap (number_in c.args.uri.now) c.self.view_is)
