use Rattle.std.proofs.Common.{◌≡◌, ◌++◌, length}
use denote.Shadow.{shadow}
use denote.Text.{Utf8}
use Rattle.text_pieces.specs.Pieces.{text_of}
use Rattle.text_pieces.proofs.builder.add_pieces.Given as goal

abbrev pub invariant-loop-rest : goal.invariant-loop-rest
invariant-loop-rest l = record { text : text_of l.pieces.items ++ l.rest ≡ text_of l.fn.pieces.items ++ l.text; utf8 : shadow (Utf8 l.rest) }

abbrev pub decreases-loop-rest : goal.decreases-loop-rest
decreases-loop-rest l = length l.rest
