-- The characters that an identifier's bytes stand for, one after the other.
use Rattle.std.proofs.Common.{◌≡◌, ℕ, zero, suc, ◌<◌, ◌≤◌, Bool, true, false, ◌&&◌, List, [], ◌∷◌, length, refl, sym, ◌∙◌, ap, ap₂, arith}
use Rattle.std.specs.Prelude.{Some, None, bytes_eq, nat_eq}
use Rattle.std.proofs.lemmas.Bool.Decides.{nat_tests}
use Rattle.json_text.specs.String.{SpellsCharacters}
use Rattle.json_token.specs.Characters.{Front, next_character}
use Rattle.json_token.proofs.Decoding.{next_none, next_some}
use Rattle.json_token.proofs.Shorter.{next_shorter}
use Rattle.id_rewrite.specs.Forms.{characters_of, characters_within, first_then}

-- as many as there are bytes are enough
enough : (m n : ℕ) (raw : List ℕ) → length raw ≤ m → length raw ≤ n → characters_within m raw ≡ characters_within n raw
enough zero zero raw l k = refl
enough zero (suc n) [] l k = refl
enough zero (suc n) (b ∷ raw) l k = absurd (omega arith)
enough (suc m) zero [] l k = refl
enough (suc m) zero (b ∷ raw) l k = absurd (omega arith)
enough (suc m) (suc n) raw l k = go (next_character raw) refl (λ more s. enough m n more (omega arith) (omega arith))
  where
    go : (f : Front) → next_character raw ≡ f → ((more : List ℕ) → length more < length raw → characters_within m more ≡ characters_within n more) → first_then f (characters_within m) ≡ first_then f (characters_within n)
    go None e rest = refl
    go (Some p) e rest = ap (λ cs. p.0 ∷ cs) (rest p.1 (next_shorter raw p.1 p.0 e))

pub first_is : (raw more : List ℕ) (c : ℕ) → next_character raw ≡ Some (c, more) → characters_of raw ≡ c ∷ characters_of more
first_is [] more c e = absurd cc
first_is (b ∷ rest) more c e =
    let s = next_shorter (b ∷ rest) more c e in
    ap (λ f. first_then f (characters_within (length rest))) e ∙ ap (λ cs. c ∷ cs) (enough (length rest) (length more) more (omega arith) (omega arith))

pub none_is : (raw : List ℕ) → next_character raw ≡ None → characters_of raw ≡ []
none_is [] e = refl
none_is (b ∷ rest) e = ap (λ f. first_then f (characters_within (length rest))) e

-- what the loops keep
abbrev pub Left : List ℕ → List ℕ → List ℕ → List ℕ → Type 0
Left a b rest other = bytes_eq (characters_of rest) (characters_of other) ≡ bytes_eq (characters_of a) (characters_of b)

pub left_more : (a b rest other more other_more : List ℕ) (c d : ℕ) → Left a b rest other → next_character rest ≡ Some (c, more) → next_character other ≡ Some (d, other_more) → c ≡ d → Left a b more other_more
left_more a b rest other more other_more c d left e f g =
    sym (ap₂ (λ x y. bytes_eq x y) (first_is rest more c e) (first_is other other_more d f) ∙ ap (λ t. t && bytes_eq (characters_of more) (characters_of other_more)) same) ∙ left
  where
    same : nat_eq c d ≡ true
    same = grind (arith, nat_tests)

apart : (c d : ℕ) → (c ≡ d → ⊥) → nat_eq c d ≡ false
apart c d h = grind (arith, nat_tests)

pub left_apart : (a b rest other more other_more : List ℕ) (c d : ℕ) → Left a b rest other → next_character rest ≡ Some (c, more) → next_character other ≡ Some (d, other_more) → (c ≡ d → ⊥) → false ≡ bytes_eq (characters_of a) (characters_of b)
left_apart a b rest other more other_more c d left e f g = sym (ap₂ (λ x y. bytes_eq x y) (first_is rest more c e) (first_is other other_more d f) ∙ ap (λ t. t && bytes_eq (characters_of more) (characters_of other_more)) (apart c d g)) ∙ left

pub left_shorter : (a b rest other more : List ℕ) (c : ℕ) → Left a b rest other → next_character rest ≡ Some (c, more) → next_character other ≡ None → false ≡ bytes_eq (characters_of a) (characters_of b)
left_shorter a b rest other more c left e f = sym (ap₂ (λ x y. bytes_eq x y) (first_is rest more c e) (none_is other f)) ∙ left

pub left_end : (a b rest other : List ℕ) → Left a b rest other → next_character rest ≡ None → next_character other ≡ None → true ≡ bytes_eq (characters_of a) (characters_of b)
left_end a b rest other left e f = sym (ap₂ (λ x y. bytes_eq x y) (none_is rest e) (none_is other f)) ∙ left

pub left_longer : (a b rest other other_more : List ℕ) (d : ℕ) → Left a b rest other → next_character rest ≡ None → next_character other ≡ Some (d, other_more) → false ≡ bytes_eq (characters_of a) (characters_of b)
left_longer a b rest other other_more d left e f = sym (ap₂ (λ x y. bytes_eq x y) (none_is rest e) (first_is other other_more d f)) ∙ left

abbrev ends : Front → Bool
ends None = true
ends (Some p) = false

-- of the last characters of both, whether there is one more
pub left_last : (a b rest other : List ℕ) (o : Front) → Left a b rest other → next_character rest ≡ None → next_character other ≡ o → (t : Bool) → t ≡ ends o → t ≡ bytes_eq (characters_of a) (characters_of b)
left_last a b rest other None left e f t is = is ∙ left_end a b rest other left e f
left_last a b rest other (Some p) left e f t is = is ∙ left_longer a b rest other p.1 p.0 left e f

-- the characters of a string
pub spelled_is : (n : ℕ) (raw cs : List ℕ) → length raw ≤ n → SpellsCharacters cs raw → characters_within n raw ≡ cs
spelled_is zero [] cs l s = sym (next_none cs [] s refl)
spelled_is zero (b ∷ raw) cs l s = absurd (omega arith)
spelled_is (suc n) raw cs l s = go (next_character raw) refl (λ more ds h t. spelled_is n more ds (omega arith) t)
  where
    go : (f : Front) → next_character raw ≡ f → ((more ds : List ℕ) → length more < length raw → SpellsCharacters ds more → characters_within n more ≡ ds) → first_then f (characters_within n) ≡ cs
    go None e rest = sym (next_none cs raw s e)
    go (Some p) e rest = let r = next_some cs raw p.1 p.0 s e in ap (λ ds. p.0 ∷ ds) (rest p.1 r.0 (next_shorter raw p.1 p.0 e) r.2) ∙ sym r.1
