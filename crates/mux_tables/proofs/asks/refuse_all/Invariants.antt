-- Those before are refused.
use Rattle.std.proofs.Common.{◌≡◌, ◌++◌, take}
use Rattle.mux_tables.specs.Refusals.{refusals}
use Rattle.mux_tables.proofs.asks.refuse_all.Given as goal

abbrev pub invariant-loop-ask : goal.invariant-loop-ask
invariant-loop-ask l = l.outs ≡ l.initial.outs ++ refusals l.s (take l.ask-index l.asks)
