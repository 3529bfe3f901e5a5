-- What a piece of a text adds to a place, and to sums.
use Rattle.std.specs.Prelude.{◌≡◌, ℕ, true, false, List}
use Rattle.std.specs.Str.{chars}
use Rattle.position_codec.specs.declared.Encoding.{Encoding}
use Rattle.position_codec.specs.declared.spot.Spot.{Spot}
use Rattle.text_pieces.specs.declared.sums.Sums.{Sums}
use Rattle.text_pieces.specs.Sums.{sums_of}
use Rattle.position_codec.specs.Spots.{spot_at, spot_behind}

-- where this text leads from a first spot, and from one behind a `\r`
abbrev pub Counted : Encoding → List ℕ → Spot → Spot → Type 0
Counted e text fresh returned = (fresh ≡ spot_behind e (spot_at 0 0 false) (chars text)) × (returned ≡ spot_behind e (spot_at 0 0 true) (chars text))

-- and what its bytes sum up to
pub record IsMeasured (e : Encoding) (text : List ℕ) (fresh returned : Spot) (sums : Sums) : Type 0 where
  pub counted : Counted e text fresh returned
  pub summed : sums ≡ sums_of text
