-- The characters that are read of a string's bytes, and how two of them are compared.
use Rattle.std.proofs.Common.{◌≡◌, refl, ap, ap₂, ◌∙◌, sym, ℕ, zero, suc, ◌≤◌, Bool, true, false, List, [], ◌∷◌, length, arith}
use Rattle.std.specs.Prelude.{◌↔◌, ◌==◌, ◌&&◌, IsTrue, is_none, Some, None, nat_eq, bytes_eq, if◌then◌else◌}
use Rattle.std.proofs.lemmas.Bool.Decides.{nat_tests}
use Rattle.std.proofs.lemmas.Slice.Eq.{bytes_eq-Decides}
use Rattle.json_text.specs.String.{SpellsCharacters}
use Rattle.json_token.specs.Characters.{Front, next_character, behind, first_then, characters_within, characters_in}
use Rattle.json_token.proofs.Decoding.{next_none, next_some}
use Rattle.json_token.proofs.Shorter.{next_shorter}
use Rattle.json_token.proofs.Comparing.{behind_some}

-- one more character at most
within_more : (n : ℕ) (raw : List ℕ) → characters_within (suc n) raw ≡ first_then (λ rest. characters_within n rest) (next_character raw)
unfolding characters_within
within_more n raw = refl

within_none : (n : ℕ) (raw : List ℕ) → next_character raw ≡ None → characters_within n raw ≡ []
unfolding characters_within
within_none zero raw h = refl
within_none (suc n) raw h = within_more n raw ∙ ap (first_then (λ rest. characters_within n rest)) h

within_some : (n : ℕ) (raw more : List ℕ) (c : ℕ) → next_character raw ≡ Some (c, more) → characters_within (suc n) raw ≡ c ∷ characters_within n more
within_some n raw more c h = within_more n raw ∙ ap (first_then (λ rest. characters_within n rest)) h

short : (raw : List ℕ) → length raw ≤ 0 → next_character raw ≡ None
short [] h = refl
short (b ∷ raw) h = absurd (omega arith)

enough : (n m : ℕ) (raw : List ℕ) → length raw ≤ n → length raw ≤ m → characters_within n raw ≡ characters_within m raw
enough zero m raw h k = let e = short raw h in within_none zero raw e ∙ sym (within_none m raw e)
enough (suc n) zero raw h k = let e = short raw k in within_none (suc n) raw e ∙ sym (within_none zero raw e)
enough (suc n) (suc m) raw h k = go (λ more p q. enough n m more p q) (next_character raw) refl
  where
    go : ((more : List ℕ) → length more ≤ n → length more ≤ m → characters_within n more ≡ characters_within m more) → (f : Front) → next_character raw ≡ f → characters_within (suc n) raw ≡ characters_within (suc m) raw
    go same None e = within_none (suc n) raw e ∙ sym (within_none (suc m) raw e)
    go same (Some p) e =
        let less = next_shorter raw p.1 p.0 e in
        within_some n raw p.1 p.0 e ∙ ap (λ cs. p.0 ∷ cs) (same p.1 (omega arith) (omega arith)) ∙ sym (within_some m raw p.1 p.0 e)

pub first_none : (raw : List ℕ) → next_character raw ≡ None → characters_in raw ≡ []
first_none raw h = within_none (length raw) raw h

pub first_some : (raw more : List ℕ) (c : ℕ) → next_character raw ≡ Some (c, more) → characters_in raw ≡ c ∷ characters_in more
first_some raw more c h =
    let less = next_shorter raw more c h in
    enough (length raw) (suc (length raw)) raw (omega arith) (omega arith) ∙ within_some (length raw) raw more c h ∙ ap (λ cs. c ∷ cs) (enough (length raw) (length more) more (omega arith) (omega arith))

within_spelled : (n : ℕ) (cs raw : List ℕ) → length raw ≤ n → SpellsCharacters cs raw → characters_within n raw ≡ cs
within_spelled zero cs raw h s = let e = short raw h in within_none zero raw e ∙ sym (next_none cs raw s e)
within_spelled (suc n) cs raw h s = go (λ ds more p t. within_spelled n ds more p t) (next_character raw) refl
  where
    go : ((ds more : List ℕ) → length more ≤ n → SpellsCharacters ds more → characters_within n more ≡ ds) → (f : Front) → next_character raw ≡ f → characters_within (suc n) raw ≡ cs
    go is None e = within_none (suc n) raw e ∙ sym (next_none cs raw s e)
    go is (Some p) e =
        let less = next_shorter raw p.1 p.0 e in
        let more = next_some cs raw p.1 p.0 s e in
        within_some n raw p.1 p.0 e ∙ ap (λ ds. p.0 ∷ ds) (is more.0 p.1 (omega arith) more.2) ∙ sym more.1

-- of the bytes of a string they are its characters
pub spelled_in : (cs raw : List ℕ) → SpellsCharacters cs raw → characters_in raw ≡ cs
spelled_in cs raw s = within_spelled (length raw) cs raw (omega arith) s

pub compared : (a b : List ℕ) (same : Bool) → same ≡ bytes_eq (characters_in a) (characters_in b) → (cs ds : List ℕ) → SpellsCharacters cs a → SpellsCharacters ds b → IsTrue same ↔ (cs ≡ ds)
compared a b same e cs ds s t = (λ h. d.0 (sym told ∙ h), λ h. told ∙ d.1 h)
  where
    told : same ≡ bytes_eq cs ds
    told = e ∙ ap₂ (λ x y. bytes_eq x y) (spelled_in cs a s) (spelled_in ds b t)

    d : (bytes_eq cs ds ≡ true → cs ≡ ds) × (cs ≡ ds → bytes_eq cs ds ≡ true)
    d = bytes_eq-Decides cs ds

-- what is left of two strings is the same where they are
abbrev pub Aligned : List ℕ → List ℕ → List ℕ → List ℕ → Type 0
Aligned a b rest_a rest_b = bytes_eq (characters_in a) (characters_in b) ≡ bytes_eq (characters_in rest_a) (characters_in rest_b)

one_more : (c : ℕ) (xs ys : List ℕ) → bytes_eq (c ∷ xs) (c ∷ ys) ≡ bytes_eq xs ys
one_more c xs ys = let e : nat_eq c c ≡ true = grind (arith, nat_tests) in ap (λ t. t && bytes_eq xs ys) e

pub aligned_more : (a b rest_a rest_b more_a more_b : List ℕ) (c : ℕ) → Aligned a b rest_a rest_b → next_character rest_a ≡ Some (c, more_a) → behind c (next_character rest_b) ≡ Some more_b → Aligned a b more_a more_b
aligned_more a b rest_a rest_b more_a more_b c g h k =
    g ∙ ap₂ (λ x y. bytes_eq x y) (first_some rest_a more_a c h) (first_some rest_b more_b c (behind_some c more_b (next_character rest_b) k)) ∙ one_more c (characters_in more_a) (characters_in more_b)

pub aligned_end : (a b rest_a rest_b : List ℕ) → Aligned a b rest_a rest_b → next_character rest_a ≡ None → is_none (next_character rest_b) ≡ bytes_eq (characters_in a) (characters_in b)
aligned_end a b rest_a rest_b g h = sym (g ∙ ap (λ x. bytes_eq x (characters_in rest_b)) (first_none rest_a h) ∙ go (next_character rest_b) refl)
  where
    go : (f : Front) → next_character rest_b ≡ f → bytes_eq [] (characters_in rest_b) ≡ is_none (next_character rest_b)
    go None e = ap (λ x. bytes_eq [] x) (first_none rest_b e) ∙ sym (ap is_none e)
    go (Some p) e = ap (λ x. bytes_eq [] x) (first_some rest_b p.1 p.0 e) ∙ sym (ap is_none e)

pub aligned_apart : (a b rest_a rest_b more_a : List ℕ) (c : ℕ) → Aligned a b rest_a rest_b → next_character rest_a ≡ Some (c, more_a) → behind c (next_character rest_b) ≡ None → false ≡ bytes_eq (characters_in a) (characters_in b)
aligned_apart a b rest_a rest_b more_a c g h k = sym (g ∙ ap (λ x. bytes_eq x (characters_in rest_b)) (first_some rest_a more_a c h) ∙ go (next_character rest_b) refl (k))
  where
    other : (d : ℕ) (xs ys rest : List ℕ) (t : Bool) → (d == c) ≡ t → (if t then Some rest else None) ≡ None → bytes_eq (c ∷ xs) (d ∷ ys) ≡ false
    other d xs ys rest true e l = absurd cc
    other d xs ys rest false e l = let apart : nat_eq c d ≡ false = grind (arith, nat_tests) in ap (λ t. t && bytes_eq xs ys) apart

    go : (f : Front) → next_character rest_b ≡ f → behind c f ≡ None → bytes_eq (c ∷ characters_in more_a) (characters_in rest_b) ≡ false
    go None e l = ap (λ x. bytes_eq (c ∷ characters_in more_a) x) (first_none rest_b e)
    go (Some p) e l = ap (λ x. bytes_eq (c ∷ characters_in more_a) x) (first_some rest_b p.1 p.0 e) ∙ other p.0 (characters_in more_a) (characters_in p.1) p.1 (p.0 == c) refl l
