-- What holds of each place of a list, when one is changed, one is added, or all stay.
use Rattle.std.proofs.Common.{◌≡◌, ℕ, zero, suc, ◌<◌, List, [], ◌∷◌, ◌++◌, length, refl, ap, sym, subst, ◌∙◌, arith}
use Rattle.std.specs.Prelude.{Option, Some, slice_get, slice_set}
use Rattle.std.proofs.lemmas.Option.{slice_get_within}
use Rattle.event_model.specs.Each.{Each}

pub get_set_same : {X : Type 0} (xs : List X) (i : ℕ) (y : X) → i < length xs → slice_get (slice_set xs i y) i ≡ Some y
get_set_same [] i y h = absurd (omega arith)
get_set_same (x ∷ xs) zero y h = refl
get_set_same (x ∷ xs) (suc i) y h = get_set_same xs i y (omega arith)

pub get_set_other : {X : Type 0} (xs : List X) (i j : ℕ) (y : X) → (j ≡ i → ⊥) → slice_get (slice_set xs i y) j ≡ slice_get xs j
get_set_other [] i j y h = refl
get_set_other (x ∷ xs) zero zero y h = absurd (h refl)
get_set_other (x ∷ xs) zero (suc j) y h = refl
get_set_other (x ∷ xs) (suc i) zero y h = refl
get_set_other (x ∷ xs) (suc i) (suc j) y h = get_set_other xs i j y (λ e. h (ap suc e))

pub get_push_same : {X : Type 0} (xs : List X) (y : X) → slice_get (xs ++ y ∷ []) (length xs) ≡ Some y
get_push_same [] y = refl
get_push_same (x ∷ xs) y = get_push_same xs y

pub get_push_other : {X : Type 0} (xs : List X) (y : X) (j : ℕ) → (j ≡ length xs → ⊥) → slice_get (xs ++ y ∷ []) j ≡ slice_get xs j
get_push_other [] y zero h = absurd (h refl)
get_push_other [] y (suc j) h = refl
get_push_other (x ∷ xs) y zero h = refl
get_push_other (x ∷ xs) y (suc j) h = get_push_other xs y j (λ e. h (ap suc e))

pub data Same : ℕ → ℕ → Type 0 where
  same : {i : ℕ} → Same i i
  other : {i j : ℕ} → (j ≡ i → ⊥) → Same i j

pub compare : (i j : ℕ) → Same i j
compare zero zero = same
compare zero (suc j) = other (λ e. absurd (omega arith))
compare (suc i) zero = other (λ e. absurd (omega arith))
compare (suc i) (suc j) = up i j (compare i j)
  where
    up : (i j : ℕ) → Same i j → Same (suc i) (suc j)
    up i _ same = same
    up i j (other h) = other (λ e. h (omega arith))

pub same_item : {X : Type 0} {x y : X} → ◌≡◌ {A = Option X} (Some x) (Some y) → x ≡ y
same_item e = cc

-- one place is changed: what held of the others goes on
pub each_set : {X : Type 0} (P Q : ℕ → X → Type 0) (xs ys : List X) (i : ℕ) (x y : X) → slice_get xs i ≡ Some x → ys ≡ slice_set xs i y → Each P xs → (P i x → Q i y) → ((j : ℕ) (z : X) → (j ≡ i → ⊥) → P i x → P j z → Q j z) → Each Q ys
each_set {X} P Q xs ys i x y at e all changed rest = subst (λ zs. Each Q zs) (sym e) (λ j z g. go j z (compare i j) g)
  where
    go : (j : ℕ) (z : X) → Same i j → slice_get (slice_set xs i y) j ≡ Some z → Q j z
    go _ z same g = subst (Q i) (same_item (sym (get_set_same xs i y (slice_get_within xs i x at)) ∙ g)) (changed (all i x at))
    go j z (other h) g = rest j z h (all i x at) (all j z (sym (get_set_other xs i j y h) ∙ g))

-- one is added
pub each_push : {X : Type 0} (P Q : ℕ → X → Type 0) (xs ys : List X) (y : X) → ys ≡ xs ++ y ∷ [] → Each P xs → Q (length xs) y → ((j : ℕ) (z : X) → j < length xs → P j z → Q j z) → Each Q ys
each_push {X} P Q xs ys y e all new rest = subst (λ zs. Each Q zs) (sym e) (λ j z g. go j z (compare (length xs) j) g)
  where
    go : (j : ℕ) (z : X) → Same (length xs) j → slice_get (xs ++ y ∷ []) j ≡ Some z → Q j z
    go _ z same g = subst (Q (length xs)) (same_item (sym (get_push_same xs y) ∙ g)) new
    go j z (other h) g = let old : slice_get xs j ≡ Some z = sym (get_push_other xs y j h) ∙ g in rest j z (slice_get_within xs j z old) (all j z old)

-- each stays
pub each_kept : {X : Type 0} (P Q : ℕ → X → Type 0) (xs : List X) → Each P xs → ((j : ℕ) (z : X) → P j z → Q j z) → Each Q xs
each_kept P Q xs all f = λ j z g. f j z (all j z g)

-- the item of a place that is inside
pub item_at : {X : Type 0} (xs : List X) (i : ℕ) → i < length xs → (x : X) × (slice_get xs i ≡ Some x)
item_at [] i h = absurd (omega arith)
item_at (x ∷ xs) zero h = (x, refl)
item_at (x ∷ xs) (suc i) h = item_at xs i (omega arith)
