-- How far a text was read, and which places are not before that.
use Rattle.std.specs.Prelude.{◌≡◌, ◌⊎◌, ℕ, ◌+◌, ◌<◌, Bool, true, false, ◌&&◌, ◌||◌, List, [], ◌∷◌, length, take, drop, fold, if◌then◌else◌, ◌==◌, nat_lt, nat_le, IsUtf8}
use Rattle.std.specs.Str.{chars, IsCharBoundary}
use Rattle.position_codec.specs.declared.Encoding.{Encoding}
use Rattle.position_codec.specs.declared.spot.Spot.{Spot}
use Rattle.position_codec.specs.declared.spot.Advance.{Advance}
use Rattle.position_codec.specs.Position.{units}
use Rattle.position_codec.specs.Walk.{ends_line}

abbrev pub spot_at : ℕ → ℕ → Bool → Spot
spot_at l n r = record { line = l; column = n; returned = r }

-- in front of a text
abbrev pub spot_first : Spot
spot_first = spot_at 0 0 false

-- behind one character more: a `\n` behind a `\r` belongs to the end of line that the `\r` made
abbrev pub spot_past : Encoding → Spot → ℕ → Spot
spot_past e s c =
    if s.returned && (c == 10) then spot_at s.line s.column false else (if ends_line c then spot_at (s.line + 1) 0 (c == 13) else spot_at s.line (s.column + units e c) false)

-- behind these characters
abbrev pub spot_behind : Encoding → Spot → List ℕ → Spot
spot_behind e s cs = fold (spot_past e) s cs

-- behind a text that leads from the first spot, or the first behind a `\r`, to the spot t
abbrev pub spot_after : Spot → Spot → Spot
spot_after s t = spot_at (s.line + t.line) (if t.line == 0 then s.column + t.column else t.column) t.returned

-- is the place at this line and character not before the spot
abbrev pub ahead : Spot → ℕ → ℕ → Bool
ahead s line character = nat_lt s.line line || ((s.line == line) && nat_le s.column character)

-- the place is before the end of the next character
abbrev pub Stops : Encoding → Spot → ℕ → ℕ → List ℕ → Type 0
Stops e s line character [] = ⊥
Stops e s line character (c ∷ cs) = ahead (spot_past e s c) line character ≡ false

-- an advance in a text from a spot on, up to a place at most
pub record Advances (e : Encoding) (from : Spot) (line character : ℕ) (text : List ℕ) (a : Advance) : Type 0 where
  pub utf8 : IsUtf8 text
  pub boundary : IsCharBoundary text a.offset
  pub spot : a.spot ≡ spot_behind e from (chars (take a.offset text))
  pub ahead : ahead a.spot line character ≡ true
  -- it stopped at the place, or was cut off behind some characters, or passed all
  pub stops : a.stopped ≡ true → Stops e a.spot line character (chars (drop a.offset text))
  pub goes : a.stopped ≡ false → (a.offset ≡ length text) ⊎ (0 < a.offset)
