use Rattle.std.proofs.Common.{◌≡◌, take}
use Rattle.mux_history.proofs.outs.Outs.copy.Given as goal

abbrev pub invariant-loop-out : goal.invariant-loop-out
invariant-loop-out l = l.copied ≡ take l.out-index l.self
