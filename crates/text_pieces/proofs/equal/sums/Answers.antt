use Rattle.std.proofs.Common.{ap, sym, ◌∙◌, take}
use Rattle.text_pieces.specs.Pieces.{text_of}
use Rattle.text_pieces.specs.Sums.{sums_of}
use Rattle.text_pieces.proofs.Joined.{text_turn}
use Rattle.text_pieces.proofs.equal.sums.Goals as goal

pub loop-piece-preserved : goal.loop-piece-preserved
loop-piece-preserved c = c.in_ok-sums.ensures (text_of (take c.loop-piece.piece-index c.args.pieces.now)) c.piece-item.result c.loop-piece.invariant c.sums.ensures
    ∙ ap sums_of (sym (text_turn c.args.pieces.now c.loop-piece.piece-index c.piece-item.result c.loop-piece-test.true c.piece-item.is))
