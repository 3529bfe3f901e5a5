use Rattle.std.proofs.Common.{◌≡◌, ◌++◌, filter}
use Rattle.progress_route.specs.Tables.{at, is_noted, begun_among}
use Rattle.std.specs.Map.{keys_of}
use Rattle.std.specs.Prelude.{Some}
use Rattle.progress_route.proofs.tokens.begun_among.Given as goal

abbrev pub invariant-loop-number : goal.invariant-loop-number
invariant-loop-number l = l.found.items ++ filter (λ k. is_noted (at k l.part.accepted)) l.number-iterator ≡ begun_among (keys_of l.names.entries) (Some l.part)
