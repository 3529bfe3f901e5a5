use Rattle.std.proofs.Common.{◌≡◌, subst, length, arith}
use Rattle.editor_session.proofs.Numbers.{FoundTo, found_all}
use Rattle.editor_session.proofs.editors.Editors.numbers.Goals as goal

pub returns : goal.returns
returns c =
    let ended : c.loop-kept.kept-index ≡ length c.deref-kept-items.result.now = omega (arith, c.loop-kept-test.false, c.loop-kept.auto.kept-index-end) in
    let all = subst (λ n. FoundTo c.args.wanted c.deref-kept-items.result.now n c.loop-kept.numbers.items) ended c.loop-kept.invariant in
    found_all c.args.wanted c.self.inside.count c.self.inside.linked.items c.args.self.now c.loop-kept.numbers.items c.self.invariant.0 c.self.view_is (subst (λ ys. FoundTo c.args.wanted ys (length ys) c.loop-kept.numbers.items) c.deref-kept-items.ensures.value all)
