-- The number of a mark.
use Rattle.std.proofs.Common.{subst, sym}
use Rattle.mux_turns.specs.Tokens.{WritesMark}
use Rattle.mux_turns.proofs.Marks.{no_front, unread_mark, unwritten_mark, written_mark}
use Rattle.mux_turns.proofs.tokens.mark_in.Goals as goal

pub returns-in_err-digits : goal.returns-in_err-digits
returns-in_err-digits c = subst (λ o. WritesMark c.args.cs.now o) (sym c.from_residual.ensures) (no_front c.args.cs.now c.in_err-digits.ensures)

pub returns-in_err-k : goal.returns-in_err-k
returns-in_err-k c = subst (λ o. WritesMark c.args.cs.now o) (sym c.from_residual-in_err-k.ensures) (unread_mark c.args.cs.now c.in_ok-digits.digits.now c.in_ok-digits.ensures c.in_err-k.ensures.number)

pub returns-then-writes : goal.returns-then-writes
returns-then-writes c = written_mark c.args.cs.now c.in_ok-digits.digits.now c.in_ok-digits.ensures c.in_ok-k.k c.writes.result c.in_ok-k.ensures.bound c.writes.ensures c.if-writes.true

pub returns-else-writes : goal.returns-else-writes
returns-else-writes c = unwritten_mark c.args.cs.now c.in_ok-digits.digits.now c.in_ok-digits.ensures c.in_ok-k.k c.writes.result c.in_ok-k.ensures.number c.writes.ensures c.if-writes.false
