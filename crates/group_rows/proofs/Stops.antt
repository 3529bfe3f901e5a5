-- Lists of numbers that meet a test.
use Rattle.std.proofs.Common.{◌≡◌, ℕ, zero, suc, ◌+◌, Bool, true, false, ◌&&◌, cond, List, [], ◌∷◌, ◌++◌, filter, refl, sym, ◌∙◌, ap, ap₂, arith}
use Rattle.std.specs.List.{range_with_len}
use Rattle.event_model.specs.declared.stage.Stage.{Stage}
use Rattle.event_model.specs.declared.stage.Stage.TheVariants.{Stopping}
use Rattle.event_model.proofs.Frames.{never}
use Rattle.registrations.specs.mux_model.specs.Rows.{below}
use Rattle.group_rows.specs.Ticks.{is_stopping}

-- the numbers below, counted up
range_last : (a n : ℕ) → range_with_len a (suc n) ≡ range_with_len a n ++ (a + n) ∷ []
range_last a zero = ap (λ k. k ∷ []) (omega arith)
range_last a (suc n) = ap (λ ks. a ∷ ks) (range_last (a + 1) n ∙ ap (λ k. range_with_len (a + 1) n ++ k ∷ []) (omega arith))

pub range_below : (n : ℕ) → range_with_len 0 n ≡ below n
range_below zero = refl
range_below (suc n) = range_last 0 n ∙ ap₂ (λ z k. z ++ k ∷ []) (range_below n) (omega arith)

-- the one test and the other
pub filter_both : {X : Type 0} (p q : X → Bool) (xs : List X) → filter p (filter q xs) ≡ filter (λ x. q x && p x) xs
filter_both p q [] = refl
filter_both p q (x ∷ xs) = go (q x) (filter_both p q xs)
  where
    go : (b : Bool) → filter p (filter q xs) ≡ filter (λ y. q y && p y) xs → filter p (cond b (x ∷ filter q xs) (filter q xs)) ≡ cond (b && p x) (x ∷ filter (λ y. q y && p y) xs) (filter (λ y. q y && p y) xs)
    go true same = ap (λ ys. cond (p x) (x ∷ ys) ys) same
    go false same = same

pub stopping_is : (stage : Stage) → is_stopping stage ≡ true → stage ≡ Stopping
stopping_is Stopping h = refl
stopping_is other h = never (sym h)
