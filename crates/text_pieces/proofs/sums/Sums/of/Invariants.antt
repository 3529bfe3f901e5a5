use Rattle.std.proofs.Common.{◌≡◌, take}
use Rattle.text_pieces.specs.Sums.{sums_of}
use Rattle.text_pieces.proofs.sums.Sums.of.Given as goal

abbrev pub invariant-loop-byte : goal.invariant-loop-byte
invariant-loop-byte l = l.sums ≡ sums_of (take l.byte-index l.bytes)
