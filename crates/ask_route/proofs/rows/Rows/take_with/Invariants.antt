use Rattle.std.specs.Prelude.{vec_capacity, vec_len}
use Rattle.ask_route.proofs.Taking.{Taking}
use Rattle.ask_route.proofs.rows.Rows.take_with.Given as goal

abbrev pub invariant-loop-number : goal.invariant-loop-number
invariant-loop-number l = Taking l.fn.holder l.number-items l.number-index (vec_len l.asks) (vec_capacity l.asks) l.asks.items l.self l.fn.self
