use Rattle.text_pieces.proofs.Finding.{Passing}
use Rattle.text_pieces.proofs.cut.find.Given as goal

abbrev pub invariant-loop-index : goal.invariant-loop-index
invariant-loop-index l = Passing l.encoding l.place l.pieces l.index l.spot
