-- What a text says of a place.
use Rattle.std.proofs.Common.{◌≡◌, ℕ, ◌<◌, ◌^◌, Bool, true, false, not, nat_eq, nat_le, eqb, List, length, drop, slice_index, Option, Some, None, Err, Result, option_map, MatchOption, Bor, refl, sym, ap, ◌∙◌, subst, arith}
use Rattle.std.proofs.lemmas.Bool.{and_parts}
use Rattle.std.proofs.lemmas.Bool.Decides.{nat_tests}
use Rattle.std.proofs.lemmas.Str.Parse.{IsNumeralModel, numerals_by_value, tells_all_ascii_digits, parse_digits}
use Rattle.std.proofs.lemmas.Str.Pattern.{starts_text}
use Rattle.std.specs.List.{starts_with}
use Rattle.std.specs.Str.{all_ascii_digits, IsCharBoundary}
use Rattle.std.specs.Str.Parse.{digits_value, ParsesUnsigned}
use Rattle.std.specs.Str.Pattern.{FindsTextPrefix, StripsPrefix}
use Rattle.mux_config.specs.Settings.{behind, is_numeral, port_in}

pub stripped : (n s : List ℕ) (r : Option (Bor (List ℕ))) → MatchOption r (FindsTextPrefix n s None) (λ x. StripsPrefix (FindsTextPrefix n) s x.now) → option_map (λ x. x.now) r ≡ behind n s
stripped n s None h = rw (← starts_text false n s h) refl
stripped n s (Some x) h =
    let same = h.1.0 in
    let t : true ≡ starts_with eqb s n = starts_text true n s (h.0, h.1, subst (λ z. IsCharBoundary s z) (sym same) h.1.2) in
    rw (← t) (ap (λ z. Some z) (h.2 ∙ ap (λ z. drop z s) same))

own : IsNumeralModel (λ ds. all_ascii_digits ds ≡ true) (digits_value 10)
own = numerals_by_value _ tells_all_ascii_digits

digits : (bs : List ℕ) → is_numeral bs ≡ true → all_ascii_digits bs ≡ true
digits bs h = (and_parts (not (nat_eq (slice_index bs 0) 48)) (all_ascii_digits bs) (and_parts (nat_le 1 (length bs)) _ h).1).1

pub port_none : {E : Type 0} (bs : List ℕ) (r : Result ℕ E) (e : E) → ParsesUnsigned 16 10 bs r → r ≡ Err e → is_numeral bs ≡ true → None ≡ port_in bs
port_none bs r e h is numeral =
    let k : ¬ ((0 < length bs) × (digits_value 10 bs < 2 ^ 16)) = rw is at (parse_digits own 16 bs r h (digits bs numeral)) in
    let some : 0 < length bs = let l = (and_parts (nat_le 1 (length bs)) _ numeral).0 in grind (arith, nat_tests) in
    let large : nat_le (digits_value 10 bs) 65535 ≡ false = by_size (nat_le (digits_value 10 bs) 65535) refl k some in
    rw (numeral, large) refl
  where
    by_size : (b : Bool) → nat_le (digits_value 10 bs) 65535 ≡ b → ¬ ((0 < length bs) × (digits_value 10 bs < 2 ^ 16)) → 0 < length bs → b ≡ false
    by_size false e not_both some = refl
    by_size true e not_both some = absurd (not_both (some, grind (arith, nat_tests)))
