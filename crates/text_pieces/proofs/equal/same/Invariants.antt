use Rattle.std.proofs.Common.{◌≡◌, length}
use Rattle.std.specs.Prelude.{bytes_eq}
use Rattle.text_pieces.specs.Pieces.{text_of}
use Rattle.text_pieces.specs.Rests.{rest_text}
use Rattle.text_pieces.proofs.equal.same.Given as goal

abbrev pub invariant-loop-left : goal.invariant-loop-left
invariant-loop-left l = bytes_eq (rest_text l.left) (rest_text l.right) ≡ bytes_eq (text_of l.fn.left) (text_of l.fn.right)

abbrev pub decreases-loop-left : goal.decreases-loop-left
decreases-loop-left l = length (rest_text l.left)
