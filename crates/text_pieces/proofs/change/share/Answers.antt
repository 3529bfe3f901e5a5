use Rattle.std.proofs.Common.{[]}
use Rattle.text_pieces.specs.Pieces.{text_of}
use Rattle.text_pieces.proofs.Joined.{turned, text_pushed}
use Rattle.text_pieces.proofs.change.share.Goals as goal

pub loop-piece-preserved : goal.loop-piece-preserved
loop-piece-preserved c = turned [] c.args.pieces.now c.loop-piece.piece-index c.piece-item.result (text_of c.loop-piece.shared.items) (text_of c.push.new.self.items) c.loop-piece-test.true c.piece-item.is c.loop-piece.invariant
    (text_pushed c.loop-piece.shared.items c.push.new.self.items c.in_ok-share.field-0 c.piece-item.result c.in_ok-push.ensures.items c.in_ok-share.ensures)
