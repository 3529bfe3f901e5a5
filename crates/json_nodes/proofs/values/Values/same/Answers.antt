use Rattle.std.proofs.Common.{sym, ◌∙◌}
use Rattle.json_nodes.proofs.SameBytes.{bares_same}
use Rattle.json_nodes.proofs.SameLaw.{same_law}
use Rattle.json_nodes.proofs.values.Values.same.Goals as goal

pub returns-then-same_bytes-clause-test : goal.returns-then-same_bytes-clause-test
returns-then-same_bytes-clause-test c = λ t u a b. bares_same t u c.same_bytes.result (c.same_bytes.ensures.says t u a b c.if-same_bytes.true) c.if-same_bytes.true

pub returns-then-same_bytes-clause-relation : goal.returns-then-same_bytes-clause-relation
returns-then-same_bytes-clause-relation c = λ t u a b.
    let e = bares_same t u c.same_bytes.result (c.same_bytes.ensures.says t u a b c.if-same_bytes.true) c.if-same_bytes.true in
    ((λ h. (same_law t u).0 (sym e ∙ h)), (λ s. e ∙ (same_law t u).1 s))

pub returns-else-same_bytes-clause-relation : goal.returns-else-same_bytes-clause-relation
returns-else-same_bytes-clause-relation c = λ t u a b. ((λ h. (same_law t u).0 (sym (c.same_values.ensures t u a b) ∙ h)), (λ s. c.same_values.ensures t u a b ∙ (same_law t u).1 s))
