-- Texts in pieces that are the same.
use Rattle.std.proofs.Common.{◌≡◌, ℕ, Bool, true, false, nat_eq, List, [], ◌∷◌, ◌++◌, length, take, drop, append_assoc, refl, sym, ap, ◌∙◌, arith}
use Rattle.std.specs.Prelude.{bytes_eq, not, ◌&&◌}
use Rattle.std.proofs.lemmas.List.{take-append-drop}

true_not_false : true ≡ false → ⊥
true_not_false h = cc

-- texts that begin with parts of one length
pub parts_eq : (xs ys us vs : List ℕ) → length xs ≡ length ys → bytes_eq (xs ++ us) (ys ++ vs) ≡ (bytes_eq xs ys && bytes_eq us vs)
parts_eq [] [] us vs h = refl
parts_eq [] (y ∷ ys) us vs h = absurd (omega (arith, h))
parts_eq (x ∷ xs) [] us vs h = absurd (omega (arith, h))
parts_eq (x ∷ xs) (y ∷ ys) us vs h = choice (nat_eq x y) (parts_eq xs ys us vs (omega (arith, h)))
  where
    choice : (b : Bool) → bytes_eq (xs ++ us) (ys ++ vs) ≡ (bytes_eq xs ys && bytes_eq us vs) → (b && bytes_eq (xs ++ us) (ys ++ vs)) ≡ ((b && bytes_eq xs ys) && bytes_eq us vs)
    choice true rest = rest
    choice false rest = refl

pub same_on : (xs ys us vs ls rs : List ℕ) (whole : Bool) → length xs ≡ length ys → bytes_eq xs ys ≡ true → ls ≡ xs ++ us → rs ≡ ys ++ vs → bytes_eq ls rs ≡ whole → bytes_eq us vs ≡ whole
same_on xs ys us vs ls rs whole h e l r w =
    sym (ap (λ b. b && bytes_eq us vs) e) ∙ (sym (parts_eq xs ys us vs h) ∙ ((λ i. bytes_eq (sym l i) (sym r i)) ∙ w))

pub same_not : (xs ys us vs ls rs : List ℕ) (whole : Bool) → length xs ≡ length ys → bytes_eq xs ys ≡ false → ls ≡ xs ++ us → rs ≡ ys ++ vs → bytes_eq ls rs ≡ whole → false ≡ whole
same_not xs ys us vs ls rs whole h e l r w =
    sym (ap (λ b. b && bytes_eq us vs) e) ∙ (sym (parts_eq xs ys us vs h) ∙ ((λ i. bytes_eq (sym l i) (sym r i)) ∙ w))

-- a text whose front was cut off
pub cut_off : (whole xs ys rest : List ℕ) (n : ℕ) → xs ≡ take n whole → ys ≡ drop n whole → whole ++ rest ≡ xs ++ (ys ++ rest)
cut_off whole xs ys rest n front back =
    ap (λ l. l ++ rest) (sym (take-append-drop n whole) ∙ (λ i. sym front i ++ sym back i)) ∙ append_assoc xs ys rest

pub was_same : (r b : Bool) → r ≡ not b → r ≡ false → b ≡ true
was_same r true h e = refl
was_same r false h e = absurd (true_not_false (sym h ∙ e))

pub was_other : (r b : Bool) → r ≡ not b → r ≡ true → b ≡ false
was_other r false h e = refl
was_other r true h e = absurd (true_not_false (sym e ∙ h))
