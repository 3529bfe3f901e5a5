use Rattle.std.proofs.Common.{sym, ◌∙◌}
use Rattle.text_pieces.proofs.Counting.{led_alike}
use Rattle.text_pieces.proofs.piece.behind_return.Goals as goal

pub returns-then-byte-ne10 : goal.returns-then-byte-ne10
returns-then-byte-ne10 c = λ is. is ∙ led_alike c.args.encoding c.args.text.now _ c.in-Some.byte.now c.utf8.text (sym c.as_bytes.ensures.value ∙ c.in-Some.ensures.cases.0) c.if-byte-ne10.true
