use Rattle.std.proofs.Common.{◌+◌, sym, subst, get_or, arith}
use Rattle.std.specs.Prelude.{vec_capacity, vec_len}
use Rattle.ask_route.proofs.Taking.{Taking, all_taken, more, never, one_less}
use Rattle.ask_route.proofs.rows.Rows.take_with.Goals as goal
use Rattle.ask_route.proofs.rows.Rows.take_with.Goals.{in-Some, in_default}

pub loop-number-preserved : goal.loop-number-preserved
loop-number-preserved c =
    let items = c.deref-number-items.result.now in
    let i = c.loop-number.number-index in
    let n = get_or items i 0 in
    let at = one_less items i c.loop-number-test.true in
    elim c.match-take.branch [
      | in-Some w ↦ subst (λ v. Taking c.args.holder items (i + 1) (vec_len v) (vec_capacity v) v.items c.take.new.self c.args.self.now) (sym w.asks-is)
          (more c.args.holder items i (vec_len c.loop-number.asks) (vec_capacity c.loop-number.asks) c.loop-number.asks.items c.loop-number.self c.args.self.now c.loop-number.invariant n at
          w.in-Some.ask w.push_reserved.new.self.items c.take.new.self (vec_len w.push_reserved.new.self) (vec_capacity w.push_reserved.new.self) w.in-Some.ensures.value c.take.ensures.rows c.take.ensures.rise w.push_reserved.ensures.items w.push_reserved.ensures.len w.push_reserved.ensures.capacity)
      | in_default w ↦ absurd (never c.args.holder items i (vec_len c.loop-number.asks) (vec_capacity c.loop-number.asks) c.loop-number.asks.items c.loop-number.self c.args.self.now c.loop-number.invariant n at w.in_default.ensures.value)
    ]

pub returns-clause-asks : goal.returns-clause-asks
returns-clause-asks c = (all_taken c.args.holder c.deref-number-items.result.now c.loop-number.number-index _ _ c.loop-number.asks.items c.loop-number.self c.args.self.now c.loop-number.invariant (omega (arith, c.loop-number-test.false))).0

pub returns-clause-left : goal.returns-clause-left
returns-clause-left c = (all_taken c.args.holder c.deref-number-items.result.now c.loop-number.number-index _ _ c.loop-number.asks.items c.loop-number.self c.args.self.now c.loop-number.invariant (omega (arith, c.loop-number-test.false))).1
