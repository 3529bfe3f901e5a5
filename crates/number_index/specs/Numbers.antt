-- Numbers by keys of bytes: keys, and what stands under each.
use Rattle.std.specs.Prelude.{◌≡◌, ℕ, List, [], ◌∷◌, bytes_eq, if◌then◌else◌}
use Rattle.std.specs.Prelude.{Option, Some, None}
use Rattle.std.specs.Ordering.{nat_cmp}
use Rattle.std.specs.BTreeMap.{is_at}
use Rattle.std.specs.BTreeSet.{BTreeSet, insert_key}
use Rattle.std.specs.Set.{remove_key}
use denote.Ref.{Bor}

-- what stands under a key
abbrev pub numbers_under : List ℕ → List (List ℕ × List ℕ) → List ℕ
numbers_under k [] = []
numbers_under k (r ∷ rs) = if bytes_eq k r.0 then r.1 else numbers_under k rs

-- the numbers of a set that may be there
abbrev pub listed : Option (Bor (BTreeSet ℕ)) → List ℕ
listed None = []
listed (Some s) = s.now.keys

-- rising numbers with one more in its place, and without one
abbrev pub with_number : ℕ → List ℕ → List ℕ
with_number n ns = insert_key nat_cmp ns n

abbrev pub without_number : ℕ → List ℕ → List ℕ
without_number n ns = remove_key (is_at (nat_cmp n)) ns

-- under one key it changes so, and under each other nothing changes
abbrev pub Changes : List ℕ → (List ℕ → List ℕ) → List (List ℕ × List ℕ) → List (List ℕ × List ℕ) → Type 0
Changes key f old new = (k : List ℕ) → numbers_under k new ≡ (if bytes_eq k key then f (numbers_under k old) else numbers_under k old)

abbrev pub Same : List (List ℕ × List ℕ) → List (List ℕ × List ℕ) → Type 0
Same old new = (k : List ℕ) → numbers_under k new ≡ numbers_under k old
