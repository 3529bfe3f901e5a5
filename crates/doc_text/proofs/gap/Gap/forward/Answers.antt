use Rattle.std.proofs.Common.{refl, ◌∙◌}
use Rattle.doc_text.specs.declared.gap.Gap.{Gap}
use Rattle.doc_text.specs.Changes.{offset_in}
use Rattle.doc_text.proofs.Gaps.{moved_on, takes_is, takes_none, gap_here, stopped_at, stopped_end}
use Rattle.doc_text.proofs.gap.Gap.forward.Goals as goal

pub returns-then-taken-clause-text : goal.returns-then-taken-clause-text
returns-then-taken-clause-text c =
    let t = takes_is c.loop-taken.self.encoding c.loop-taken.self.spot c.args.place c.loop-taken.self.behind.items c.take.new.behind.items c.in_ok-taken.field-0 c.in-Some.taken c.in-Some.is c.in_ok-taken.ensures in
    let m = moved_on c.loop-taken.self (record c.loop-taken.self { front = c.push.new.self; spot = c.in-Some.taken.spot; behind = c.take.new.behind }) c.args.place c.in-Some.taken c.loop-taken.invariant.stands c.in_ok-push.ensures.items refl refl t in
    m.text ∙ c.loop-taken.invariant.text

pub returns-then-taken-clause-stands : goal.returns-then-taken-clause-stands
returns-then-taken-clause-stands c =
    let t = takes_is c.loop-taken.self.encoding c.loop-taken.self.spot c.args.place c.loop-taken.self.behind.items c.take.new.behind.items c.in_ok-taken.field-0 c.in-Some.taken c.in-Some.is c.in_ok-taken.ensures in
    let m = moved_on c.loop-taken.self (record c.loop-taken.self { front = c.push.new.self; spot = c.in-Some.taken.spot; behind = c.take.new.behind }) c.args.place c.in-Some.taken c.loop-taken.invariant.stands c.in_ok-push.ensures.items refl refl t in
    m.stands

pub returns-then-taken-clause-here : goal.returns-then-taken-clause-here
returns-then-taken-clause-here c =
    let t = takes_is c.loop-taken.self.encoding c.loop-taken.self.spot c.args.place c.loop-taken.self.behind.items c.take.new.behind.items c.in_ok-taken.field-0 c.in-Some.taken c.in-Some.is c.in_ok-taken.ensures in
    let h : Gap = record c.loop-taken.self { front = c.push.new.self; spot = c.in-Some.taken.spot; behind = c.take.new.behind } in
    let m = moved_on c.loop-taken.self h c.args.place c.in-Some.taken c.loop-taken.invariant.stands c.in_ok-push.ensures.items refl refl t in
    let e = c.loop-taken.invariant.encoding in
    let x = m.text ∙ c.loop-taken.invariant.text in
    gap_here h c.args.place m.stands m.ahead (stopped_at h.encoding h.spot c.args.place.line c.args.place.character _ (t.stops c.if-taken.true)) ∙ (λ i. offset_in (e i) c.args.place (x i))

pub loop-taken-preserved : goal.loop-taken-preserved
loop-taken-preserved c =
    let t = takes_is c.loop-taken.self.encoding c.loop-taken.self.spot c.args.place c.loop-taken.self.behind.items c.take.new.behind.items c.in_ok-taken.field-0 c.in-Some.taken c.in-Some.is c.in_ok-taken.ensures in
    let m = moved_on c.loop-taken.self (record c.loop-taken.self { front = c.push.new.self; spot = c.in-Some.taken.spot; behind = c.take.new.behind }) c.args.place c.in-Some.taken c.loop-taken.invariant.stands c.in_ok-push.ensures.items refl refl t in
    record { text = m.text ∙ c.loop-taken.invariant.text; stands = m.stands; encoding = c.loop-taken.invariant.encoding; ahead = m.ahead }

pub returns-clause-here : goal.returns-clause-here
returns-clause-here c =
    let n = takes_none c.loop-taken.self.encoding c.loop-taken.self.spot c.args.place c.loop-taken.self.behind.items c.take.new.behind.items c.in_ok-taken.field-0 c.in_default.is c.in_ok-taken.ensures in
    let e = c.loop-taken.invariant.encoding in
    let x = c.loop-taken.invariant.text in
    gap_here c.loop-taken.self c.args.place c.loop-taken.invariant.stands c.loop-taken.invariant.ahead (stopped_end c.loop-taken.self.encoding c.loop-taken.self.spot c.args.place.line c.args.place.character _ n) ∙ (λ i. offset_in (e i) c.args.place (x i))
