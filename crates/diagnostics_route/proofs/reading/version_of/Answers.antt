use Rattle.std.proofs.Common.{◌≡◌, ◌∙◌, sym, subst}
use Rattle.std.specs.Prelude.{IfOk, Some}
use Rattle.json_text.specs.Json.{Json}
use Rattle.json_nodes.specs.At.{At}
use Rattle.diagnostics_route.specs.Published.{version_of}
use Rattle.diagnostics_route.proofs.Says.{absent, there}
use Rattle.diagnostics_route.proofs.reading.version_of.Goals as goal

pub returns-in-Some : goal.returns-in-Some
returns-in-Some c = λ o f.
    let q : (t : Json) × (o ≡ Some t) × At c.args.tape.now c.in-Some.inside t = there c.args.tape.now o c.args.node c.in-Some.inside (sym c.in-Some.is ∙ c.within.ensures.same o f) f in
    subst (λ z. IfOk c.version_at.result (λ version. version ≡ version_of z)) (sym q.1) (c.version_at.ensures q.0 q.2)

pub returns-in-None : goal.returns-in-None
returns-in-None c = λ o f. absent c.args.tape.now o c.args.node (sym c.in-None.is ∙ c.within.ensures.same o f) f
