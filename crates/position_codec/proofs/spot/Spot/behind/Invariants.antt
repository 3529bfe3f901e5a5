use Rattle.std.proofs.Common.{◌≡◌, length, take}
use Rattle.std.specs.Str.{chars}
use Rattle.position_codec.specs.Spots.{spot_behind}
use Rattle.position_codec.proofs.spot.Spot.behind.Given as goal

abbrev pub invariant-loop-c : goal.invariant-loop-c
invariant-loop-c l = l.spot ≡ spot_behind l.encoding l.fn.self (take (length l.yielded) (chars l.text))
