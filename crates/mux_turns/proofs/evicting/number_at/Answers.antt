-- The number that comes next.
use Rattle.mux_turns.proofs.Evictions.{last_number}
use Rattle.mux_turns.proofs.Ready.{taken}
use Rattle.mux_turns.proofs.evicting.number_at.Goals as goal

pub next_number-requires-clause-left : goal.next_number-requires-clause-left
next_number-requires-clause-left c = λ x at. (taken x c.can_ask.result (c.can_ask.ensures.takes x at) c.if-can_ask.true).1

pub returns-else-can_ask : goal.returns-else-can_ask
returns-else-can_ask c = λ x at ready order limit. last_number x.life.stage x.ids.next x.ids.limit c.args.tables.now.requests c.can_ask.result ready (c.can_ask.ensures.takes x at) c.if-can_ask.false order.within limit
