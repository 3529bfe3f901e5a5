use Rattle.std.proofs.Common.{◌<◌, ◌≤◌, length, sym, subst, arith}
use Rattle.id_rewrite.specs.declared.slots.Slot.{Slot}
use Rattle.id_rewrite.proofs.Slotting.{apart_at, at_least_more, at_least_on, below_more, none_there, not_within}
use Rattle.id_rewrite.proofs.slots.place.Goals as goal

pub loop-low-preserved-then-slots-middle : goal.loop-low-preserved-then-slots-middle
loop-low-preserved-then-slots-middle c =
    let i = c.loop-low.invariant in
    let less = subst (λ (s : Slot). s.number < c.args.n) (sym c.index-slots-middle.is) c.if-slots-middle.true in
    (omega arith, i.1, below_more c.requires.0 c.requires.1 c.args.n c.args.slots.now _ c.index-slots-middle.result c.requires.2 (omega (arith, i.0, i.1)) c.index-slots-middle.is less, i.3)

pub loop-low-preserved : goal.loop-low-preserved
loop-low-preserved c =
    let i = c.loop-low.invariant in
    let more = subst (λ (s : Slot). c.args.n ≤ s.number) (sym c.index-slots-middle.is) c.if-slots-middle.false in
    (omega arith, omega (arith, i.0, i.1), i.2, at_least_more c.requires.0 c.requires.1 c.args.n c.args.slots.now _ c.index-slots-middle.result c.requires.2 (omega (arith, i.0, i.1)) c.index-slots-middle.is more)

pub returns-in_err-slot-clause-none : goal.returns-in_err-slot-clause-none
returns-in_err-slot-clause-none c =
    let i = c.loop-low.invariant in
    rw c.from_residual.ensures (none_there c.requires.0 c.requires.1 c.args.n c.args.slots.now c.loop-low.low c.requires.2 (omega (arith, i.0, i.1)) i.2 (at_least_on c.args.n c.args.slots.now c.loop-low.low c.loop-low.high c.loop-low-test.false i.3)
    (λ s l e. absurd (not_within c.loop-low.low (length c.args.slots.now) c.in_err-slot.ensures.lookup.0 l)))

pub returns-else-slot-n-clause-none : goal.returns-else-slot-n-clause-none
returns-else-slot-n-clause-none c =
    let i = c.loop-low.invariant in
    none_there c.requires.0 c.requires.1 c.args.n c.args.slots.now c.loop-low.low c.requires.2 (omega (arith, i.0, i.1)) i.2 (at_least_on c.args.n c.args.slots.now c.loop-low.low c.loop-low.high c.loop-low-test.false i.3)
    (λ s l e. apart_at c.args.n c.args.slots.now c.loop-low.low s c.in_ok-slot.slot.now l e c.in_ok-slot.ensures.lookup.1 c.if-slot-n.false)
