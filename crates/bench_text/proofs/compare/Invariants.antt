use Rattle.std.proofs.Common.{◌<◌, length}
use Rattle.std.specs.Prelude.{MatchOption}
use Rattle.bench_text.proofs.compare.Given as goal

abbrev pub invariant-loop : goal.invariant-loop
invariant-loop l = MatchOption l.next (Unit {0}) (λ node. node < length l.tape.nodes)
