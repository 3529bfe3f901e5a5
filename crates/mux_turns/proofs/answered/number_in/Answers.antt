-- The number of an id.
use Rattle.mux_turns.proofs.Numbers.{some_named}
use Rattle.mux_turns.proofs.answered.number_in.Goals as goal

pub returns-then-writes : goal.returns-then-writes
returns-then-writes c = λ i text. some_named i c.args.id.now c.in_ok-n.n c.writes.result text c.in_ok-n.ensures.bound c.writes.ensures c.if-writes.true
