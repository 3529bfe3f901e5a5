-- The items of a list of params, in the middle of writing them.
use Rattle.std.proofs.Common.{◌≡◌, ℕ, Bool, List, [], ◌∷◌, ◌++◌, map, drop}
use Rattle.capability_meet.specs.Parts.{bracketed, listed}

module _ {A : Type 0} (f : A → List ℕ) (name : List ℕ) where
  -- what is written, and what is left to write
  abbrev pub Left : List ℕ → Bool → ℕ → List A → Type 0
  Left text started i xs = text ++ (listed started (map f (drop i xs)) ++ 93 ∷ []) ≡ name ++ bracketed (map f xs)
