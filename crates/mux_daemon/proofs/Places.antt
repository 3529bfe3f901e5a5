-- Places of lists.
use Rattle.std.proofs.Common.{◌≡◌, ◌≢◌, ℕ, zero, suc, ◌<◌, ◌+◌, ◌⊎◌, inl, inr, List, [], ◌∷◌, ◌++◌, length, slice_get, slice_set, slice_index_or, Some, refl, ap, sym, ◌∙◌, subst, arith}
use Rattle.std.proofs.lemmas.Option.{slice_get_within}
use Rattle.mux_daemon.specs.Opens.{Pairs}

module _ {X : Type 0} where
  pub same_item : (x y : X) → Some x ≡ Some y → x ≡ y
  same_item x y e = cc

  pub get_left : (xs ys : List X) (i : ℕ) (x : X) → i < length xs → slice_get (xs ++ ys) i ≡ Some x → slice_get xs i ≡ Some x
  get_left [] ys i x h e = absurd (omega arith)
  get_left (y ∷ xs) ys zero x h e = e
  get_left (y ∷ xs) ys (suc i) x h e = get_left xs ys i x (omega arith) e

  pub get_front : (xs ys : List X) (i : ℕ) (x : X) → slice_get xs i ≡ Some x → slice_get (xs ++ ys) i ≡ Some x
  get_front [] ys i x e = absurd cc
  get_front (y ∷ xs) ys zero x e = e
  get_front (y ∷ xs) ys (suc i) x e = get_front xs ys i x e

  pub get_right : (xs ys : List X) (i k : ℕ) (x : X) → k ≡ length xs + i → slice_get (xs ++ ys) k ≡ Some x → slice_get ys i ≡ Some x
  get_right [] ys i k x h e = let same : k ≡ i = omega (arith, h) in subst (λ n. slice_get ys n ≡ Some x) same e
  get_right (y ∷ xs) ys i zero x h e = absurd (omega arith)
  get_right (y ∷ xs) ys i (suc k) x h e = get_right xs ys i k x (omega arith) e

  pub get_last : (xs : List X) (y : X) → slice_get (xs ++ y ∷ []) (length xs) ≡ Some y
  get_last [] y = refl
  get_last (x ∷ xs) y = get_last xs y

  pub get_set_same : (xs : List X) (i : ℕ) (y : X) → i < length xs → slice_get (slice_set xs i y) i ≡ Some y
  get_set_same [] i y h = absurd (omega arith)
  get_set_same (x ∷ xs) zero y h = refl
  get_set_same (x ∷ xs) (suc i) y h = get_set_same xs i y (omega arith)

  pub get_set : (l : List X) (i j : ℕ) (a b : X) → slice_get (slice_set l i a) j ≡ Some b → ((j ≡ i) × (a ≡ b)) ⊎ ((j ≢ i) × (slice_get l j ≡ Some b))
  get_set [] i j a b e = absurd cc
  get_set (x ∷ xs) zero zero a b e = inl (refl, cc)
  get_set (x ∷ xs) zero (suc j) a b e = inr ((λ h. omega arith), e)
  get_set (x ∷ xs) (suc i) zero a b e = inr ((λ h. omega arith), e)
  get_set (x ∷ xs) (suc i) (suc j) a b e = elim (get_set xs i j a b e) [ inl t ↦ inl (ap suc t.0, t.1) | inr t ↦ (let n = t.0 in inr ((λ h. n (omega arith)), t.1)) ]

  pub length_set : (l : List X) (i : ℕ) (a : X) → length (slice_set l i a) ≡ length l
  length_set [] i a = refl
  length_set (x ∷ xs) zero a = refl
  length_set (x ∷ xs) (suc i) a = ap suc (length_set xs i a)

  pub get_there : (l : List X) (i : ℕ) → i < length l → (x : X) × (slice_get l i ≡ Some x)
  get_there [] i h = absurd (omega arith)
  get_there (x ∷ xs) zero h = (x, refl)
  get_there (x ∷ xs) (suc i) h = get_there xs i (omega arith)

  pub index_of : (l : List X) (i : ℕ) (d x : X) → slice_get l i ≡ Some x → slice_index_or l i d ≡ x
  index_of [] i d x e = absurd cc
  index_of (y ∷ xs) zero d x e = cc
  index_of (y ∷ xs) (suc i) d x e = index_of xs i d x e

-- what was looked up at a place that is there
pub was_at : {X : Type 0} (l : List X) (i : ℕ) (x : X) → i < length l → x ≡ slice_index_or l i x → slice_get l i ≡ Some x
was_at l i x h e = let there = get_there l i h in there.1 ∙ ap (λ y. Some y) (sym (e ∙ index_of l i x there.0 there.1))

-- all places stay as they are
pub pairs_same : {X : Type 0} (R : X → X → Type 0) (xs : List X) → ((x : X) → R x x) → Pairs R xs xs
pairs_same R xs f = record { len = refl; each = λ i x y at at'. let same : x ≡ y = cc in subst (λ z. R x z) same (f x) }

-- one change behind another
pub pairs_chain : {X : Type 0} (R S T : X → X → Type 0) (xs ys zs : List X) → Pairs R xs ys → Pairs S ys zs → ((x y z : X) → R x y → S y z → T x z) → Pairs T xs zs
pairs_chain R S T xs ys zs f g both = record {
  len = g.len ∙ f.len;
  each = λ i x z at at'.
      let within = slice_get_within xs i x at in
      let there = get_there ys i (let e = f.len in omega (arith, e, within)) in
      both x there.0 z (f.each i x there.0 at there.1) (g.each i there.0 z there.1 at');
}

-- one place was changed
pub pairs_set : {X : Type 0} (R : X → X → Type 0) (xs : List X) (i : ℕ) (x y : X) → slice_get xs i ≡ Some x → R x y → ((z : X) → R z z) → Pairs R xs (slice_set xs i y)
pairs_set R xs i x y at one f = record {
  len = length_set xs i y;
  each = λ j p q at' at''. elim (get_set xs i j y q at'') [
    | inl t ↦ let here : slice_get xs i ≡ Some p = subst (λ k. slice_get xs k ≡ Some p) t.0 at' in let same : x ≡ p = cc in subst (λ z. R p z) t.1 (subst (λ z. R z y) same one)
    | inr t ↦ let same : p ≡ q = same_item p q (sym at' ∙ t.1) in subst (λ z. R p z) same (f p)
  ];
}
