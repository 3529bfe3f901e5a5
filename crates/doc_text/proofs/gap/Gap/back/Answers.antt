use Rattle.std.proofs.Common.{refl, ◌∙◌}
use Rattle.doc_text.proofs.Gaps.{moved_back}
use Rattle.doc_text.proofs.gap.Gap.back.Goals as goal

pub loop-place-preserved : goal.loop-place-preserved
loop-place-preserved c =
    let m = moved_back c.loop-place.self (record c.loop-place.self { front = c.pop.new.self; spot = c.in-Some.passed.spot; behind = c.push.new.self }) c.in-Some.passed (record { text = c.in-Some.passed.text }) c.loop-place.invariant.stands c.in-Some.ensures.items c.in_ok-push.ensures.items refl refl refl in
    record { text = m.0 ∙ c.loop-place.invariant.text; stands = m.1; encoding = c.loop-place.invariant.encoding }
