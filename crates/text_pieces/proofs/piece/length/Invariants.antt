use Rattle.std.proofs.Common.{take}
use Rattle.std.specs.Prelude.{IsUtf8}
use Rattle.text_pieces.specs.Pieces.{text_of}
use Rattle.text_pieces.proofs.piece.length.Given as goal

abbrev pub invariant-loop-piece : goal.invariant-loop-piece
invariant-loop-piece l = IsUtf8 (text_of (take l.piece-index l.pieces))
