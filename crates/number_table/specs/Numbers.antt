-- Records by their numbers: those that are kept, in rising order, beside a count of all numbers that were given.
use Rattle.std.specs.Prelude.{◌≡◌, ℕ, zero, suc, ◌+◌, ◌<◌, ◌≤◌, Bool, List, [], ◌∷◌, length, nat_eq, slice_index_or, if◌then◌else◌}
use Rattle.std.specs.Prelude.{Option, Some, None}
use Rattle.number_table.specs.declared.numbered.Numbered.{Numbered}

module _ {A : Type 0} where
  -- so many numbers, from one on: what is kept of each, and one value where nothing is
  abbrev pub spread : A → ℕ → ℕ → List (Numbered A) → List A
  spread gone from zero kept = []
  spread gone from (suc n) [] = gone ∷ spread gone (from + 1) n []
  spread gone from (suc n) (x ∷ xs) = if nat_eq x.number from then x.item ∷ spread gone (from + 1) n xs else gone ∷ spread gone (from + 1) n (x ∷ xs)

  -- the numbers rise, from one number up to below another
  abbrev pub Rise : ℕ → ℕ → List (Numbered A) → Type 0
  Rise from to [] = from ≤ to
  Rise from to (x ∷ xs) = (from ≤ x.number) × Rise (x.number + 1) to xs

  -- what is kept of this number
  abbrev pub held : ℕ → List (Numbered A) → Option A
  held e [] = None
  held e (x ∷ xs) = if nat_eq x.number e then Some x.item else held e xs

  -- the numbers of those that meet a test
  abbrev pub numbers_in : (A → Bool) → List (Numbered A) → List ℕ
  numbers_in test [] = []
  numbers_in test (x ∷ xs) = if test x.item then x.number ∷ numbers_in test xs else numbers_in test xs

  -- the same of a list of all, counted from one number on
  abbrev pub counted : ℕ → (A → Bool) → List A → List ℕ
  counted from test [] = []
  counted from test (x ∷ xs) = if test x then from ∷ counted (from + 1) test xs else counted (from + 1) test xs

-- the place of a number
pub record IsAt {A : Type 0} (kept : List (Numbered A)) (e k : ℕ) : Type 0 where
  pub inside : k < length kept
  pub number : (x : Numbered A) → x ≡ slice_index_or kept k x → x.number ≡ e
