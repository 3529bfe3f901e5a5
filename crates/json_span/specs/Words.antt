-- The literal names of RFC 8259, section 3, a byte at a time.
use Rattle.std.specs.Prelude.{ℕ, ◌==◌, if◌then◌else◌}
use Rattle.json_text.specs.declared.kind.Word.{Word}
use Rattle.json_text.specs.declared.kind.Word.TheVariants as word_of
use Rattle.json_span.specs.declared.word.Begun.{Begun}
use Rattle.json_span.specs.declared.word.Begun.TheVariants.{N, Nu, Nul, F, Fa, Fal, Fals, T, Tr, Tru}
use Rattle.json_span.specs.declared.word.WordMove.{WordMove}
use Rattle.json_span.specs.declared.word.WordMove.TheVariants.{Goes, Ends, Stops}

abbrev pub goes_at : ℕ → Begun → ℕ → WordMove
goes_at c q b = if b == c then Goes q else Stops

abbrev pub ends_at : ℕ → Word → ℕ → WordMove
ends_at c w b = if b == c then Ends w else Stops

-- what the next byte does to a name of which this has been read
abbrev pub word_move : Begun → ℕ → WordMove
word_move N b = goes_at 117 Nu b
word_move Nu b = goes_at 108 Nul b
word_move Nul b = ends_at 108 word_of.Null b
word_move F b = goes_at 97 Fa b
word_move Fa b = goes_at 108 Fal b
word_move Fal b = goes_at 115 Fals b
word_move Fals b = ends_at 101 word_of.False b
word_move T b = goes_at 114 Tr b
word_move Tr b = goes_at 117 Tru b
word_move Tru b = ends_at 101 word_of.True b
