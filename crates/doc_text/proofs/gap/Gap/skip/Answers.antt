use Rattle.std.proofs.Common.{◌≡◌, ◌-◌, length, drop, sym, ap, refl, ◌∙◌, arith, subst}
use Rattle.doc_text.specs.Changes.{offset_in}
use Rattle.doc_text.specs.Gaps.{Takes, behind_text, front_text, gap_text}
use Rattle.doc_text.proofs.Gaps.{skipping_starts, skipping_on, skipped, gap_past, takes_is, takes_none, takes_none_after, stopped_at, stopped_end}
use Rattle.doc_text.proofs.gap.Gap.skip.Goals as goal

pub returns-then-not-is_before-clause-behind : goal.returns-then-not-is_before-clause-behind
returns-then-not-is_before-clause-behind c =
    let p = gap_past c.args.self.now c.args.place c.requires (sym c.if-not-is_before.ensures) in
    let z : offset_in c.args.self.now.encoding c.args.place (gap_text c.args.self.now) - length (front_text c.args.self.now.front.items) ≡ 0 = omega (arith, p) in
    sym (ap (λ k. drop k (behind_text c.args.self.now.behind.items)) z)

pub loop-taken-init : goal.loop-taken-init
loop-taken-init c = record { skipping = skipping_starts c.args.self.now c.args.place (sym c.if-not-is_before.ensures); front = refl; spot = refl; encoding = refl }

pub returns-then-taken-clause-behind : goal.returns-then-taken-clause-behind
returns-then-taken-clause-behind c =
    let t = takes_is c.args.self.now.encoding c.loop-taken.spot c.args.place c.loop-taken.self.behind.items c.take.new.behind.items c.in_ok-taken.field-0 c.in-Some.taken c.in-Some.is
    (subst (λ e. Takes e c.loop-taken.spot c.args.place c.loop-taken.self.behind.items c.take.new.behind.items c.in_ok-taken.field-0) c.loop-taken.invariant.encoding c.in_ok-taken.ensures) in
    let k = skipping_on c.args.self.now c.args.place c.loop-taken.self.behind.items c.take.new.behind.items c.loop-taken.spot c.in-Some.taken c.loop-taken.invariant.skipping t in
    skipped c.args.self.now c.args.place c.take.new.behind.items c.in-Some.taken.spot c.requires k (stopped_at c.args.self.now.encoding c.in-Some.taken.spot c.args.place.line c.args.place.character _ (t.stops c.if-taken.true))

pub loop-taken-preserved : goal.loop-taken-preserved
loop-taken-preserved c =
    let t = takes_is c.args.self.now.encoding c.loop-taken.spot c.args.place c.loop-taken.self.behind.items c.take.new.behind.items c.in_ok-taken.field-0 c.in-Some.taken c.in-Some.is
    (subst (λ e. Takes e c.loop-taken.spot c.args.place c.loop-taken.self.behind.items c.take.new.behind.items c.in_ok-taken.field-0) c.loop-taken.invariant.encoding c.in_ok-taken.ensures) in
    let k = skipping_on c.args.self.now c.args.place c.loop-taken.self.behind.items c.take.new.behind.items c.loop-taken.spot c.in-Some.taken c.loop-taken.invariant.skipping t in
    record { skipping = k; front = c.loop-taken.invariant.front; spot = c.loop-taken.invariant.spot; encoding = c.loop-taken.invariant.encoding }

pub returns-clause-behind : goal.returns-clause-behind
returns-clause-behind c =
    let t = subst (λ e. Takes e c.loop-taken.spot c.args.place c.loop-taken.self.behind.items c.take.new.behind.items c.in_ok-taken.field-0) c.loop-taken.invariant.encoding c.in_ok-taken.ensures in
    let n = takes_none c.args.self.now.encoding c.loop-taken.spot c.args.place c.loop-taken.self.behind.items c.take.new.behind.items c.in_ok-taken.field-0 c.in_default.is t in
    let a = takes_none_after c.args.self.now.encoding c.loop-taken.spot c.args.place c.loop-taken.self.behind.items c.take.new.behind.items c.in_ok-taken.field-0 c.in_default.is t in
    ap behind_text a ∙ (sym n ∙ skipped c.args.self.now c.args.place c.loop-taken.self.behind.items c.loop-taken.spot c.requires c.loop-taken.invariant.skipping (stopped_end c.args.self.now.encoding c.loop-taken.spot c.args.place.line c.args.place.character _ n))
