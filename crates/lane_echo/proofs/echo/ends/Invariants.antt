use Rattle.std.proofs.Common.{◌≡◌, ℕ}
use Rattle.mux_history.specs.Cores.{spawns_of_outs}
use Rattle.lane_echo.proofs.echo.ends.Given as goal

abbrev pub invariant-loop-start : goal.invariant-loop-start
invariant-loop-start l = (s : ℕ) → spawns_of_outs s l.outs ≡ 0
