use Rattle.std.proofs.Common.{◌+◌, ◌-◌, ◌++◌, length, drop, refl, arith}
use Rattle.text_pieces.specs.Pieces.{builder_text, piece_at}
use Rattle.text_pieces.proofs.Joined.{turned, behind_starts, behind_ends}
use Rattle.text_pieces.proofs.change.add_behind.Goals as goal

pub loop-piece-init : goal.loop-piece-init
loop-piece-init c = behind_starts (builder_text c.args.builder.now) c.args.pieces.now c.args.cut c.index-pieces-cut.result c.as_str.result.now c.split_at.result.1.now (builder_text c.push_str.new.self) (omega (arith, c.if-cut-pieces.false)) c.index-pieces-cut.is c.as_str.ensures.text c.split_at.ensures.back c.in_ok-push_str.ensures

pub loop-piece-preserved : goal.loop-piece-preserved
loop-piece-preserved c = turned (builder_text c.args.builder.now ++ drop c.args.cut.offset (piece_at c.args.pieces.now c.args.cut.index)) _ c.loop-piece.piece-index c.piece-item.result (builder_text c.loop-piece.builder) (builder_text c.push_piece.new.self) c.loop-piece-test.true c.piece-item.is c.loop-piece.invariant c.in_ok-push_piece.ensures

pub returns : goal.returns
returns c = behind_ends (builder_text c.args.builder.now) c.args.pieces.now _ c.args.cut (length c.args.pieces.now - (c.args.cut.index + 1)) c.loop-piece.piece-index (builder_text c.loop-piece.builder) c.requires (omega (arith, c.if-cut-pieces.false)) refl refl (omega (arith, c.loop-piece-test.false)) c.loop-piece.invariant
