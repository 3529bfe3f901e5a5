-- The daemon's own tokens of what starts create are told apart by the numbers in them.
use Rattle.std.proofs.Common.{◌≡◌, ℕ, zero, suc, ◌+◌, ◌/◌, ◌%◌, ◌^◌, ◌<◌, ◌==◌, Bool, true, false, List, [], ◌∷◌, ◌++◌, codes, decimal, if◌then◌else◌, Some, append_assoc, refl, sym, ◌∙◌, ap, subst, lt-ltb, arith}
use Rattle.std.specs.Fmt.{digits, digits_onto, digit_glyph}
use Rattle.std.specs.List.{AllByRecursion}
use Rattle.std.proofs.lemmas.Fmt.{decimal_injective}
use Rattle.std.proofs.lemmas.Slice.Eq.{bytes_eq-Decides}
use Rattle.json_text.specs.Named.{named}
use Rattle.event_model.specs.Members.{named_of}
use Rattle.group_rows.specs.Created.{Token, created_mark, is_marked}
use Rattle.group_rows.proofs.CreatedTexts.{create_tree}

-- no numeral has a colon
abbrev IsOff : ℕ → Type 0
IsOff c = c ≡ 58 → ⊥

glyph_off : (d : ℕ) → d < 10 → IsOff (digit_glyph false d)
glyph_off d low = subst IsOff (ap (λ b. if b then 48 + d else 87 + d) (sym (lt-ltb d 10 low))) (λ e. omega (arith, e, low))

onto_off : (k n : ℕ) (cs : List ℕ) → AllByRecursion IsOff cs → AllByRecursion IsOff (digits_onto k 10 false n cs)
onto_off zero n cs h = h
onto_off (suc k) n cs h = go (n / 10 == 0) (onto_off k (n / 10) (digit_glyph false (n % 10) ∷ cs) here)
  where
    here : AllByRecursion IsOff (digit_glyph false (n % 10) ∷ cs)
    here = (glyph_off (n % 10) (omega arith), h)

    go : (b : Bool) → AllByRecursion IsOff (digits_onto k 10 false (n / 10) (digit_glyph false (n % 10) ∷ cs)) → AllByRecursion IsOff (if b then digit_glyph false (n % 10) ∷ cs else digits_onto k 10 false (n / 10) (digit_glyph false (n % 10) ∷ cs))
    go true rest = here
    go false rest = rest

digits_off : (n : ℕ) → AllByRecursion IsOff (decimal n)
unfolding digits
digits_off n = onto_off 64 n [] tt

-- so the first colon ends the first numeral
same_parts : (xs ys us vs : List ℕ) → AllByRecursion IsOff xs → AllByRecursion IsOff us → (xs ++ 58 ∷ ys) ≡ (us ++ 58 ∷ vs) → (xs ≡ us) × (ys ≡ vs)
same_parts [] ys [] vs h k e = (refl, let same : ys ≡ vs = cc in same)
same_parts [] ys (u ∷ us) vs h k e = absurd (k.0 (let same : u ≡ 58 = cc in same))
same_parts (x ∷ xs) ys [] vs h k e = absurd (h.0 (let same : x ≡ 58 = cc in same))
same_parts (x ∷ xs) ys (u ∷ us) vs h k e =
    let head : x ≡ u = cc in
    let tail : (xs ++ 58 ∷ ys) ≡ (us ++ 58 ∷ vs) = cc in
    let rest : (xs ≡ us) × (ys ≡ vs) = same_parts xs ys us vs h.1 k.1 tail in
    let first : xs ≡ us = rest.0 in
    (let same : (x ∷ xs) ≡ (u ∷ us) = cc in same, rest.1)

same_rest : (ps xs ys : List ℕ) → (ps ++ xs) ≡ (ps ++ ys) → xs ≡ ys
same_rest [] xs ys e = e
same_rest (p ∷ ps) xs ys e = same_rest ps xs ys (let tail : (ps ++ xs) ≡ (ps ++ ys) = cc in tail)

mark_parts : (s k n j : ℕ) → created_mark s k ≡ created_mark n j → (decimal s ≡ decimal n) × (decimal k ≡ decimal j)
mark_parts s k n j e = same_parts (decimal s) (decimal k) (decimal n) (decimal j) (digits_off s) (digits_off n)
    (sym (append_assoc (decimal s) (codes ":") (decimal k)) ∙ same_rest (codes "lspmux:") (decimal s ++ codes ":" ++ decimal k) (decimal n ++ codes ":" ++ decimal j) e ∙ append_assoc (decimal n) (codes ":") (decimal j))

pub mark_start : (s k n j : ℕ) → s < 2 ^ 64 → n < 2 ^ 64 → created_mark s k ≡ created_mark n j → s ≡ n
mark_start s k n j low other e = decimal_injective s n low other (mark_parts s k n j e).0

pub mark_number : (s k n j : ℕ) → k < 2 ^ 64 → j < 2 ^ 64 → created_mark s k ≡ created_mark n j → k ≡ j
mark_number s k n j low other e = decimal_injective k j low other (mark_parts s k n j e).1

-- the token that a create of the daemon's names
pub marked_same : (n s k : ℕ) (t : Token) → is_marked n (named_of (codes "token") (Some (create_tree s k))) t ≡ true → created_mark n t.number ≡ created_mark s k
unfolding named
marked_same n s k t h = (bytes_eq-Decides (created_mark n t.number) (created_mark s k)).0 h
