use Rattle.diagnostics_route.proofs.Says.{made_as}
use Rattle.diagnostics_route.proofs.reading.list_of.Goals as goal

pub returns : goal.returns
returns c = λ o f. made_as c.args.place c.args.uri _ _ _ _ _ _ c.in_ok-body.ensures (c.in_ok-version.ensures o f) (c.is_empty-empty.ensures o f)
