use Rattle.std.proofs.Common.{[], ◌++◌, ap, ◌∙◌}
use Rattle.text_pieces.proofs.Joined.{turned}
use Rattle.text_pieces.proofs.piece_text.whole.Goals as goal

pub loop-piece-preserved : goal.loop-piece-preserved
loop-piece-preserved c = turned [] c.args.pieces.now c.loop-piece.piece-index c.piece-item.result c.loop-piece.bytes.items c.extend_from_slice.new.self.items c.loop-piece-test.true c.piece-item.is c.loop-piece.invariant
    (c.in_ok-extend_from_slice.ensures.items ∙ ap (λ l. c.loop-piece.bytes.items ++ l) (c.as_bytes.ensures.value ∙ c.as_str.ensures.text))
