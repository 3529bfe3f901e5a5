use Rattle.std.proofs.Common.{◌≡◌, ◌++◌, take}
use Rattle.text_pieces.specs.Pieces.{text_of, builder_text}
use Rattle.text_pieces.proofs.change.add_before.Given as goal

abbrev pub invariant-loop-piece : goal.invariant-loop-piece
invariant-loop-piece l = builder_text l.builder ≡ builder_text l.fn.builder ++ text_of (take l.piece-index (take l.cut.index l.pieces))
