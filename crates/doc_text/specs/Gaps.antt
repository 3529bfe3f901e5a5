-- A text in pieces, open at a gap: what is before the gap, with the spot in front of each piece, and what is behind it, the next piece last.
use Rattle.std.specs.Prelude.{◌≡◌, ℕ, ◌+◌, ◌<◌, true, false, List, [], ◌∷◌, ◌++◌, length, fold, IsUtf8}
use Rattle.std.specs.Prelude.{Option, Some, None}
use Rattle.std.specs.Str.{chars}
use Rattle.position_codec.specs.declared.Encoding.{Encoding}
use Rattle.position_codec.specs.declared.spot.Spot.{Spot}
use Rattle.position_codec.specs.Spots.{spot_first, spot_behind, ahead, Stops}
use Rattle.doc_text.specs.declared.change.Position.{Position}
use Rattle.doc_text.specs.declared.gap.Passed.{Passed}
use Rattle.doc_text.specs.declared.gap.Piece.{Piece}
use Rattle.doc_text.specs.declared.gap.Taken.{Taken}
use Rattle.doc_text.specs.declared.gap.Gap.{Gap}

abbrev pub front_text : List Passed → List ℕ
front_text [] = []
front_text (p ∷ ps) = p.text.now ++ front_text ps

abbrev pub behind_text : List Piece → List ℕ
behind_text ps = fold (λ after p. p.text.now ++ after) [] ps

abbrev pub gap_text : Gap → List ℕ
gap_text g = front_text g.front.items ++ behind_text g.behind.items

-- each piece knows the spot in front of it, and the last spot is behind all
abbrev pub Follows : Encoding → Spot → List Passed → Spot → Type 0
Follows e from [] spot = from ≡ spot
Follows e from (p ∷ ps) spot = (p.spot ≡ from) × IsUtf8 p.text.now × Follows e (spot_behind e from (chars p.text.now)) ps spot

-- the gap knows where it is
abbrev pub Stands : Gap → Type 0
Stands g = Follows g.encoding spot_first g.front.items g.spot

-- what was taken off the front of these pieces, up to a place at most
pub record TakesSome (e : Encoding) (from : Spot) (place : Position) (before after : List Piece) (t : Taken) : Type 0 where
  pub text : behind_text before ≡ t.text.now ++ behind_text after
  pub utf8 : IsUtf8 t.text.now
  pub here : t.spot ≡ spot_behind e from (chars t.text.now)
  pub ahead : ahead t.spot place.line place.character ≡ true
  pub stops : t.stopped ≡ true → Stops e t.spot place.line place.character (chars (behind_text after))
  pub less : t.stopped ≡ false → length (behind_text after) + length after < length (behind_text before) + length before

abbrev pub Takes : Encoding → Spot → Position → List Piece → List Piece → Option Taken → Type 0
Takes e from place before after None = (behind_text before ≡ []) × (after ≡ [])
Takes e from place before after (Some t) = TakesSome e from place before after t
