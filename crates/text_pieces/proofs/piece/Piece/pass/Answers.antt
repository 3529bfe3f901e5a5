use Rattle.std.proofs.Common.{sym, true, false, ◌∙◌}
use Rattle.text_pieces.proofs.Counting.{same_encoding, led}
use Rattle.text_pieces.proofs.piece.Piece.pass.Goals as goal

pub returns-then-spot-clause-some : goal.returns-then-spot-clause-some
returns-then-spot-clause-some c = led c.after.result c.args.encoding c.self.inside.encoding c.args.spot c.self.inside.returned true _ c.args.self.now (same_encoding c.self.inside.encoding c.args.encoding (sym c.ne.ensures ∙ c.if-ne.false)) c.if-spot.true c.self.view_is c.self.invariant.counted.1 c.after.ensures.some

pub returns-else-spot-clause-some : goal.returns-else-spot-clause-some
returns-else-spot-clause-some c = led c.after-else-spot.result c.args.encoding c.self.inside.encoding c.args.spot c.self.inside.fresh false _ c.args.self.now (same_encoding c.self.inside.encoding c.args.encoding (sym c.ne.ensures ∙ c.if-ne.false)) c.if-spot.false c.self.view_is c.self.invariant.counted.0 c.after-else-spot.ensures.some
