use Rattle.std.proofs.Common.{ℕ, List, [], false, get_or, ◌++◌, ◌+◌, take, sym, ap, ◌∙◌, append_assoc}
use Rattle.doc_text.specs.declared.gap.Passed.{Passed}
use Rattle.doc_text.specs.Gaps.{front_text}
use Rattle.doc_text.proofs.Gaps.{front_more}
use Rattle.doc_text.proofs.gap.Gap.add_to.Goals as goal

pub loop-passed-preserved : goal.loop-passed-preserved
loop-passed-preserved c =
    let d : Passed = record { text = record { ref_ptr = (0, 0); now = [] }; spot = record { line = 0; column = 0; returned = false } } in
    let ps : List Passed = c.deref-passed-items.result.now in
    let i : ℕ = c.loop-passed.passed-index in
    let x : List ℕ = (get_or ps i d).text.now in
    let old : List ℕ = c.args.text.now.bytes.items in
    let is = c.deref-passed-items.ensures.value in
    c.in_ok-push_str.ensures.bytes ∙ (ap (λ l. l ++ x) (c.loop-passed.invariant ∙ ap (λ q. old ++ front_text (take i q)) (sym is)) ∙ (append_assoc old (front_text (take i ps)) x
    ∙ (ap (λ l. old ++ l) (sym (front_more ps i d c.loop-passed-test.true)) ∙ ap (λ q. old ++ front_text (take (i + 1) q)) is)))
