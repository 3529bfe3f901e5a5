use Rattle.std.proofs.Common.{take, arith}
use Rattle.text_pieces.specs.Pieces.{builder_text}
use Rattle.text_pieces.proofs.Joined.{turned, before_cut}
use Rattle.text_pieces.proofs.change.add_before.Goals as goal

pub loop-piece-preserved : goal.loop-piece-preserved
loop-piece-preserved c = turned (builder_text c.args.builder.now) (take c.args.cut.index c.args.pieces.now) c.loop-piece.piece-index c.piece-item.result (builder_text c.loop-piece.builder) (builder_text c.push_piece.new.self) c.loop-piece-test.true c.piece-item.is c.loop-piece.invariant c.in_ok-push_piece.ensures

pub returns-in_ok-push_str : goal.returns-in_ok-push_str
returns-in_ok-push_str c = before_cut (builder_text c.args.builder.now) c.args.pieces.now c.args.cut c.loop-piece.piece-index c.index-pieces-cut.result c.as_str.result.now c.split_at.result.0.now (builder_text c.loop-piece.builder) (builder_text c.push_str.new.self)
    c.requires c.if-cut-pieces.true c.index-pieces-cut.is (omega (arith, c.loop-piece-test.false)) c.loop-piece.invariant c.as_str.ensures.text c.split_at.ensures.front c.in_ok-push_str.ensures
