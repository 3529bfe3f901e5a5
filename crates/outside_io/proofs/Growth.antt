-- A whole write, piece by piece, and a read off the front of what is left.
use Rattle.std.proofs.Common.{◌≡◌, ℕ, ◌+◌, ◌-◌, List, ◌++◌, length, take, drop, refl, ap, ◌∙◌, append_assoc, sym}
use Rattle.std.specs.Prelude.{Option, Some, None}
use Rattle.std.specs.Io.KnownBytes.{append_known}
use Rattle.std.proofs.Math.Seq.{take-add, take-length}
use Rattle.std.proofs.lemmas.List.{length-drop, take-append-drop, drop-drop}

all_left : (w : ℕ) (xs : List ℕ) → take (length xs - w) (drop w xs) ≡ drop w xs
all_left w xs = ap (λ n. take n (drop w xs)) (sym (length-drop w xs)) ∙ take-length (drop w xs)

grown : (w n : ℕ) (xs : List ℕ) → take w xs ++ take n (take (length xs - w) (drop w xs)) ≡ take (w + n) xs
grown w n xs = ap (λ l. take w xs ++ take n l) (all_left w xs) ∙ sym (take-add w n xs)

appended : (a : Option (List ℕ)) (xs ys zs : List ℕ) → xs ++ ys ≡ zs → append_known (append_known a xs) ys ≡ append_known a zs
appended None xs ys zs e = refl
appended (Some bs) xs ys zs e = ap (λ l. Some l) (append_assoc bs xs ys ∙ ap (λ l. bs ++ l) e)

pub written_more : (a b c : Option (List ℕ)) (w n : ℕ) (xs : List ℕ) → b ≡ append_known a (take w xs)
    → c ≡ append_known b (take n (take (length xs - w) (drop w xs))) → c ≡ append_known a (take (w + n) xs)
written_more a b c w n xs p q = q ∙ (ap (λ o. append_known o (take n (take (length xs - w) (drop w xs)))) p ∙ appended a _ _ _ (grown w n xs))

front_given : (at count : ℕ) (bytes buf : List ℕ) → take count buf ≡ take count (take (length bytes - at) (drop at bytes)) → take count (drop at bytes) ≡ take count buf
front_given at count bytes buf e = ap (take count) (sym (all_left at bytes)) ∙ sym e

-- what a read gave and what it left are what was left before
pub given_left : (at count : ℕ) (bytes buf : List ℕ) → take count buf ≡ take count (take (length bytes - at) (drop at bytes))
    → Some (drop at bytes) ≡ Some (take count buf ++ drop (at + count) bytes)
given_left at count bytes buf e =
    let rest : drop count (drop at bytes) ≡ drop (at + count) bytes = drop-drop count at bytes in
    let whole : take count (drop at bytes) ++ drop count (drop at bytes) ≡ drop at bytes = take-append-drop count (drop at bytes) in
    ap (λ l. Some l) (sym whole ∙ (ap (λ l. l ++ drop count (drop at bytes)) (front_given at count bytes buf e) ∙ ap (λ l. take count buf ++ l) rest))

pub given_taken : (at count : ℕ) (bytes buf : List ℕ) → take count buf ≡ take count (take (length bytes - at) (drop at bytes))
    → Some (take (at + count) bytes) ≡ Some (take at bytes ++ take count buf)
given_taken at count bytes buf e = ap (λ l. Some l) (take-add at count bytes ∙ ap (λ l. take at bytes ++ l) (front_given at count bytes buf e))
