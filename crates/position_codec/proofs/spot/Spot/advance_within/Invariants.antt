use Rattle.std.proofs.Common.{length}
use Rattle.std.specs.Str.{chars}
use Rattle.position_codec.proofs.Advancing.{Reading}
use Rattle.position_codec.proofs.spot.Spot.advance_within.Given as goal

abbrev pub invariant-loop-c : goal.invariant-loop-c
invariant-loop-c l = Reading l.encoding l.fn.self l.line l.character (chars l.text) (length l.yielded) l.offset l.spot
