-- Texts in pieces, and places in them.
use Rattle.std.specs.Prelude.{ℕ, ◌+◌, ◌≤◌, Bool, ◌&&◌, ◌||◌, ◌==◌, nat_lt, List, [], ◌∷◌, ◌++◌, length, take, slice_index_or}
use Rattle.std.specs.Str.{IsCharBoundary}
use Rattle.text_pieces.specs.declared.cut.Cut.{Cut}
use Rattle.text_pieces.specs.declared.builder.Builder.{Builder}

-- the pieces, one after the other
abbrev pub text_of : List (List ℕ) → List ℕ
text_of [] = []
text_of (p ∷ ps) = p ++ text_of ps

-- the piece of this index; behind the last nothing stands
abbrev pub piece_at : List (List ℕ) → ℕ → List ℕ
piece_at ps i = slice_index_or ps i []

-- the offset of a cut in the whole text
abbrev pub cut_at : List (List ℕ) → Cut → ℕ
cut_at ps c = length (text_of (take c.index ps)) + c.offset

abbrev pub cut_before : Cut → Cut → Bool
cut_before a b = nat_lt a.index b.index || ((a.index == b.index) && nat_lt a.offset b.offset)

-- it is in or behind these pieces, and between two characters
abbrev pub IsCut : List (List ℕ) → Cut → Type 0
IsCut ps c = (c.index ≤ length ps) × IsCharBoundary (piece_at ps c.index) c.offset

-- what was built: the pieces, and then what isn't yet cut into pieces
abbrev pub builder_text : Builder → List ℕ
builder_text b = text_of b.pieces.items ++ b.uncut.bytes.items
