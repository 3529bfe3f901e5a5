-- What is left of a text in pieces.
use Rattle.std.specs.Prelude.{ℕ, List, ◌++◌}
use Rattle.text_pieces.specs.declared.equal.Rest.{Rest}
use Rattle.text_pieces.specs.Pieces.{text_of}

abbrev pub rest_text : Rest → List ℕ
rest_text r = r.piece.now ++ text_of r.behind.now
