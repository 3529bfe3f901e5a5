use Rattle.text_pieces.specs.Pieces.{builder_text}
use Rattle.text_pieces.proofs.Joined.{built}
use Rattle.text_pieces.proofs.builder.Builder.push_piece.Goals as goal

pub returns : goal.returns
returns c = built c.close.new.self.pieces.items c.push.new.self.items c.in_ok-counted.field-0 c.args.piece.now c.close.new.self.uncut.bytes.items (builder_text c.args.self.now) c.in_ok-push.ensures.items c.in_ok-counted.ensures c.in_ok-close.ensures.closed c.in_ok-close.ensures.text
