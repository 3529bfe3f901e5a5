-- What a piece adds to a spot.
use Rattle.std.proofs.Common.{◌≡◌, ℕ, ◌+◌, Bool, true, false, cond, List, [], ◌∷◌, ◌++◌, fold, refl, sym, ap, ◌∙◌, arith, lit<}
use Rattle.std.specs.Prelude.{Option, Some, None, IfSome, IsUtf8, encode_utf8, encode_utf8_all, nat_eq, not, if◌then◌else◌}
use Rattle.std.proofs.lemmas.Bool.Decides.{nat_tests}
use Rattle.std.proofs.lemmas.Str.{encode_ascii, encodes-chars}
use Rattle.std.specs.Str.{chars}
use denote.Enum.Bare.{sameb}
use Rattle.position_codec.specs.contracts.Encoding.{the_type}
use Rattle.position_codec.specs.declared.Encoding.{Encoding}
use Rattle.position_codec.specs.declared.Encoding.TheVariants.{Utf8, Utf16, Utf32}
use Rattle.position_codec.specs.declared.spot.Spot.{Spot}
use Rattle.position_codec.specs.Spots.{spot_at, spot_behind, spot_after, spot_past}
use Rattle.position_codec.specs.Position.{units}
use Rattle.position_codec.specs.Walk.{ends_line}
use Rattle.position_codec.proofs.After.{after_behind}

pub same_encoding : (a b : Encoding) → not (sameb the_type a b) ≡ false → a ≡ b
same_encoding Utf8 Utf8 h = refl
same_encoding Utf16 Utf16 h = refl
same_encoding Utf32 Utf32 h = refl
same_encoding Utf8 Utf16 h = absurd (cc)
same_encoding Utf8 Utf32 h = absurd (cc)
same_encoding Utf16 Utf8 h = absurd (cc)
same_encoding Utf16 Utf32 h = absurd (cc)
same_encoding Utf32 Utf8 h = absurd (cc)
same_encoding Utf32 Utf16 h = absurd (cc)

-- the spot behind a text, by where the text leads
pub led : (o : Option Spot) (e f : Encoding) (s t : Spot) (r : Bool) (bs cs : List ℕ) → f ≡ e → s.returned ≡ r → bs ≡ cs → t ≡ spot_behind f (spot_at 0 0 r) (chars bs) → IfSome o (λ x. x ≡ spot_after s t) → IfSome o (λ x. x ≡ spot_behind e s (chars cs))
led None e f s t r bs cs en re te h k = tt
led (Some x) e f s t r bs cs en re te h k =
    k ∙ (ap (λ y. spot_after s y) (h ∙ ((λ i. spot_behind (en i) (spot_at 0 0 (sym re i)) (chars (te i))))) ∙ sym (after_behind e s (chars cs)))

-- a text that doesn't begin with `\n` leads to the same from a first spot and from one behind a `\r`
pub led_alike : (e : Encoding) (text rest : List ℕ) (b : ℕ) → IsUtf8 text → text ≡ b ∷ rest → (b ≡ 10 → ⊥) → spot_behind e (spot_at 0 0 false) (chars text) ≡ spot_behind e (spot_at 0 0 true) (chars text)
led_alike e text rest b utf8 is other = go (chars text) (encodes-chars text utf8 ∙ is)
  where
    no_end : (c : ℕ) (cs : List ℕ) (t : Bool) → nat_eq c 10 ≡ t → encode_utf8 c ++ encode_utf8_all cs ≡ b ∷ rest → nat_eq c 10 ≡ false
    no_end c cs false h k = h
    no_end c cs true h k =
        let ten : c ≡ 10 = grind (arith, nat_tests, h) in
        let first : 10 ∷ encode_utf8_all cs ≡ b ∷ rest = sym (ap (λ n. encode_utf8 n ++ encode_utf8_all cs) ten ∙ ap (λ bs. bs ++ encode_utf8_all cs) (encode_ascii 10 (lit< tt))) ∙ k in
        let head : b ≡ 10 = cc in
        absurd (other head)

    go : (cs : List ℕ) → encode_utf8_all cs ≡ b ∷ rest → spot_behind e (spot_at 0 0 false) cs ≡ spot_behind e (spot_at 0 0 true) cs
    go [] h = absurd (cc)
    go (c ∷ cs) h =
        ap (λ t. fold (spot_past e) (cond t (spot_at 0 0 false) (if ends_line c then spot_at (0 + 1) 0 (nat_eq c 13) else spot_at 0 (0 + units e c) false)) cs) (sym (no_end c cs (nat_eq c 10) refl h))
