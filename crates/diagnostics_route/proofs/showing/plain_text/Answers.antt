use Rattle.std.proofs.Common.{◌≡◌, IfOk, Some, refl, sym, subst}
use Rattle.json_text.specs.Json.{Json}
use Rattle.json_text.specs.Replace.{replace}
use Rattle.json_nodes.specs.At.{At, Found}
use Rattle.json_nodes.specs.Doc.{Doc}
use Rattle.diagnostics_route.specs.Shown.{plain_edits}
use Rattle.diagnostics_route.proofs.Says.{there}
use Rattle.diagnostics_route.proofs.Shows.{none_cut}
use Rattle.diagnostics_route.proofs.showing.plain_text.Goals as goal

pub returns-in-Some : goal.returns-in-Some
returns-in-Some c = λ o f.
    let q : (t : Json) × (o ≡ Some t) × At c.args.tape.now c.in-Some.node t = there c.args.tape.now o (Some c.in-Some.node) c.in-Some.node refl (subst (λ z. Found c.args.tape.now o z) c.in-Some.is f) in
    subst (λ z. IfOk c.plain_at.result (λ body. body ≡ replace c.args.tape.now.bytes (plain_edits c.args.tape.now.bytes z))) (sym q.1)
    (subst (λ (d : Doc). IfOk c.plain_at.result (λ body. body ≡ replace d.bytes (plain_edits d.bytes (Some q.0)))) c.values.ensures.same
    (c.plain_at.ensures q.0 (subst (λ (d : Doc). At d c.in-Some.node q.0) (sym c.values.ensures.same) q.2)))

pub returns-in-None : goal.returns-in-None
returns-in-None c = λ o f.
    subst (λ z. IfOk c.copy_of.result (λ body. body ≡ replace c.args.tape.now.bytes (plain_edits c.args.tape.now.bytes z))) (sym (none_cut c.args.tape.now o (subst (λ z. Found c.args.tape.now o z) c.in-None.is f))) c.copy_of.ensures
