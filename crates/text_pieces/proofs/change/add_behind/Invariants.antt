use Rattle.std.proofs.Common.{◌≡◌, ◌++◌, take, drop}
use Rattle.text_pieces.specs.Pieces.{text_of, builder_text, piece_at}
use Rattle.text_pieces.proofs.change.add_behind.Given as goal

abbrev pub invariant-loop-piece : goal.invariant-loop-piece
invariant-loop-piece l = builder_text l.builder ≡ (builder_text l.fn.builder ++ drop l.fn.cut.offset (piece_at l.pieces l.fn.cut.index)) ++ text_of (take l.piece-index l.piece-items)
