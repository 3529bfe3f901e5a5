use Rattle.std.proofs.Common.{◌≡◌, IfOk, Some, refl, sym, subst}
use Rattle.json_text.specs.Changes.{edits_of}
use Rattle.json_text.specs.Json.{Json}
use Rattle.json_nodes.specs.At.{At, Found}
use Rattle.document_model.specs.Notices.{edits_in}
use Rattle.diagnostics_route.proofs.Says.{there}
use Rattle.diagnostics_route.proofs.Shows.{version_edits}
use Rattle.diagnostics_route.proofs.showing.own_changes.Goals as goal

pub returns-in-Some-clause-edits : goal.returns-in-Some-clause-edits
returns-in-Some-clause-edits c = λ o f.
    let q : (t : Json) × (o ≡ Some t) × At c.args.tape.now c.in-Some.node t = there c.args.tape.now o (Some c.in-Some.node) c.in-Some.node refl (subst (λ z. Found c.args.tape.now o z) c.in-Some.is f) in
    subst (λ z. IfOk c.puts.result (λ changes. edits_of changes.items ≡ edits_in c.args.text.now z)) (sym q.1)
    (subst (λ es. IfOk c.puts.result (λ changes. edits_of changes.items ≡ es)) (version_edits c.args.text.now q.0) (c.puts.ensures.edits q.0 q.2))
