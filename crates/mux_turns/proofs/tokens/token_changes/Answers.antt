-- Each `token` of params gets another text.
use Rattle.std.proofs.Common.{◌≡◌, sym, subst}
use Rattle.std.specs.Prelude.{IfOk, Some}
use Rattle.json_text.specs.Changes.{edits_of}
use Rattle.json_text.specs.Json.{Json}
use Rattle.json_nodes.specs.At.{At, Found}
use Rattle.group_facts.specs.group_rows.specs.Tokens.{mark_edits}
use Rattle.mux_turns.proofs.Marks.{found_some, token_put}
use Rattle.mux_turns.proofs.tokens.token_changes.Goals as goal

pub returns-in-Some-clause-edits : goal.returns-in-Some-clause-edits
returns-in-Some-clause-edits c = λ o f.
    let q : (t : Json) × (o ≡ Some t) × At c.args.tape.now c.in-Some.node t = found_some c.args.tape.now o c.in-Some.node (subst (λ z. Found c.args.tape.now o z) c.in-Some.is f) in
    subst (λ z. IfOk c.puts.result (λ changes. edits_of changes.items ≡ mark_edits c.args.text.now z)) (sym q.1)
    (subst (λ es. IfOk c.puts.result (λ changes. edits_of changes.items ≡ es)) (token_put c.args.text.now q.0) (c.puts.ensures.edits q.0 q.2))
