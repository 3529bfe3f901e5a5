use Rattle.std.proofs.Common.{◌≡◌, take}
use Rattle.text_pieces.specs.Pieces.{text_of}
use Rattle.text_pieces.specs.Sums.{sums_of}
use Rattle.text_pieces.proofs.equal.sums.Given as goal

abbrev pub invariant-loop-piece : goal.invariant-loop-piece
invariant-loop-piece l = l.sums ≡ sums_of (text_of (take l.piece-index l.pieces))
