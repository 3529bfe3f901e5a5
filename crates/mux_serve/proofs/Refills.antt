-- A list that was written back whole.
use Rattle.std.proofs.Common.{◌≡◌, ◌<◌, ℕ, List, ◌++◌, take, drop, length, slice_index_or, sym, ap, ◌∙◌, subst}
use Rattle.std.proofs.Math.Seq.{take-append_seam}

pub refilled : {X : Type 0} (n : ℕ) (xs ys : List X) → n ≡ length ys → take n (ys ++ drop (length ys) xs) ≡ ys
refilled n xs ys e = ap (λ k. take k (ys ++ drop (length ys) xs)) e ∙ take-append_seam ys (drop (length ys) xs)

pub each_back : {X : Type 0} (Q : X → X → Type 0) (n : ℕ) (xs was ys : List X) → n ≡ length xs → was ≡ xs → length ys ≡ length was → ((i : ℕ) (d : X) → i < length was → Q (slice_index_or was i d) (slice_index_or ys i d))
    → (length (take n (ys ++ drop (length ys) xs)) ≡ length xs) × ((i : ℕ) (d : X) → i < length xs → Q (slice_index_or xs i d) (slice_index_or (take n (ys ++ drop (length ys) xs)) i d))
each_back {X} Q n xs was ys e f g each =
    let size : length ys ≡ length xs = g ∙ ap length f in
    let same : take n (ys ++ drop (length ys) xs) ≡ ys = refilled n xs ys (e ∙ sym size) in
    let each' : (i : ℕ) (d : X) → i < length xs → Q (slice_index_or xs i d) (slice_index_or ys i d) =
    subst (λ (w : List X). (i : ℕ) (d : X) → i < length w → Q (slice_index_or w i d) (slice_index_or ys i d)) f each in
    (ap length same ∙ size, subst (λ (z : List X). (i : ℕ) (d : X) → i < length xs → Q (slice_index_or xs i d) (slice_index_or z i d)) (sym same) each')
