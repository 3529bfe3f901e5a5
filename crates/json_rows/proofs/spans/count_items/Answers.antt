use Rattle.std.proofs.Common.{◌≡◌, ℕ, ◌+◌, ◌<◌, ◌≤◌, length, arith, subst}
use Rattle.std.specs.Prelude.{Option, Some, None, MatchOption}
use Rattle.json_text.specs.Json.{array}
use Rattle.json_span.proofs.Walks.{walk_on, walk_ends}
use Rattle.json_rows.proofs.spans.count_items.Goals as goal

-- so many values come before a value of this number, or more
abbrev AtMost : ℕ → Option ℕ → Type 0
AtMost count next = MatchOption next (Unit {0}) (λ m. count ≤ m)

one_more : (count m n : ℕ) (here next : Option ℕ) → AtMost count here → here ≡ Some m → MatchOption next (Unit {0}) (λ i. (m < i) × (i < n)) → AtMost (count + 1) next
one_more count m n here None small e later = tt
one_more count m n here (Some i) small e later = let below : count ≤ m = subst (AtMost count) e small in omega (arith, later.0)

pub loop-next-preserved : goal.loop-next-preserved
loop-next-preserved c = record {
  walk = walk_on c.args.tape.now c.args.node c.in-Some.item (λ t n. c.loop-next.count ≡ n) (λ t n. c.loop-next.count + 1 ≡ n) c.loop-next.next c.next-next.result c.loop-next.invariant.walk c.in-Some.is c.next-next.ensures.next c.next-next.ensures.inside (λ t u n child done. omega arith);
  small = one_more c.loop-next.count c.in-Some.item (length c.args.tape.now.nodes) c.loop-next.next c.next-next.result c.loop-next.invariant.small c.in-Some.is c.next-next.ensures.inside;
}

pub returns : goal.returns
returns c = λ s js a. walk_ends c.args.tape.now c.args.node (λ t n. c.loop-next.count ≡ n) c.loop-next.next c.loop-next.invariant.walk c.in_default.is (array s js) a
