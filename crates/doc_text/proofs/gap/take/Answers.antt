use Rattle.std.proofs.Common.{inl, inr, refl, ap, arith, ◌∙◌}
use Rattle.std.proofs.lemmas.Bool.Decides.{nat_tests}
use Rattle.std.proofs.lemmas.List.{nil_from_length}
use Rattle.doc_text.proofs.Gaps.{takes_some}
use Rattle.doc_text.proofs.gap.take.Goals as goal
use Rattle.doc_text.proofs.gap.take.Goals.{then-not-is_empty+in_ok-push, else-not-is_empty}

pub returns : goal.returns
returns c = takes_some c.args.encoding c.args.spot c.args.place c.args.behind.now.items c.pop.new.self.items c.if-not-is_empty.behind.items c.in-Some.piece c.in-Some-advance.advance _ c.split_at.result.1.now c.in-Some.ensures.items c.in-Some-advance.ensures.some
    c.split_at.ensures.front refl refl c.split_at.ensures.back c.split_at.ensures.front_len
    (elim c.if-not-is_empty.branch [
      | then-not-is_empty+in_ok-push w ↦ inr (grind (arith, nat_tests, w.if-not-is_empty.ensures, c.is_empty.ensures), (record { text = c.split_at.result.1 }, refl, ap (λ v. v.items) w.behind-is ∙ w.in_ok-push.ensures.items))
      | else-not-is_empty w ↦ inl (nil_from_length _ (grind (arith, nat_tests, w.if-not-is_empty.ensures, c.is_empty.ensures)), ap (λ v. v.items) w.behind-is)
    ])
