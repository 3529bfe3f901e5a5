use Rattle.std.proofs.Common.{sym, subst}
use Rattle.std.specs.Prelude.{IsUtf8}
use Rattle.std.proofs.lemmas.Str.{IsUtf8-append}
use Rattle.text_pieces.proofs.Joined.{text_turn}
use Rattle.text_pieces.proofs.piece.length.Goals as goal

pub loop-piece-preserved : goal.loop-piece-preserved
loop-piece-preserved c = subst IsUtf8 (sym (text_turn c.args.pieces.now c.loop-piece.piece-index c.piece-item.result c.loop-piece-test.true c.piece-item.is)) (IsUtf8-append _ c.piece-item.result c.loop-piece.invariant c.as_str.ensures.utf8)
