use Rattle.std.proofs.Common.{◌∙◌, ap, sym}
use Rattle.diagnostics_route.specs.Rows.{number_in}
use Rattle.diagnostics_route.proofs.lists.Lists.take.Goals as goal

pub replace-requires : goal.replace-requires
replace-requires c = ap (λ uri. number_in uri c.args.self.now) (sym c.bytes.ensures) ∙ sym c.in-Some.ensures

pub push-requires : goal.push-requires
push-requires c = ap (λ uri. number_in uri c.args.self.now) (sym c.bytes.ensures) ∙ sym c.in-None.ensures
