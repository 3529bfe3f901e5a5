-- How last lists are kept: one behind the other, in the order in which their documents got the first one, and what an index says of them.
use Rattle.std.specs.Prelude.{◌≡◌, ℕ, ◌+◌, Bool, List, [], ◌∷◌, length, bytes_eq, if◌then◌else◌}
use Rattle.std.specs.Prelude.{Option, Some, None}
use Rattle.number_index.specs.Numbers.{numbers_under}
use Rattle.diagnostics_route.specs.declared.last_list.LastList.{LastList}

-- a list is that of the document of a URI
abbrev pub is_of : List ℕ → LastList → Bool
is_of uri l = bytes_eq uri l.uri

-- a document's number is the place of its list: those of the lists that pass a test, counted from one on
abbrev pub numbers_from : ℕ → (LastList → Bool) → List LastList → List ℕ
numbers_from n test [] = []
numbers_from n test (l ∷ ls) = if test l then n ∷ numbers_from (n + 1) test ls else numbers_from (n + 1) test ls

-- the first one's
abbrev pub number_from : ℕ → (LastList → Bool) → List LastList → Option ℕ
number_from n test [] = None
number_from n test (l ∷ ls) = if test l then Some n else number_from (n + 1) test ls

-- that of the document of a URI
abbrev pub number_in : List ℕ → List LastList → Option ℕ
number_in uri ls = number_from 0 (is_of uri) ls

-- and, where it has no list yet, the next one
abbrev pub or_next : Option ℕ → List LastList → ℕ
or_next None ls = length ls
or_next (Some n) ls = n

abbrev pub number_for : List ℕ → List LastList → ℕ
number_for uri ls = or_next (number_in uri ls) ls

-- a list comes in the place of its document's, or behind all
abbrev pub with_list : LastList → List LastList → List LastList
with_list new [] = new ∷ []
with_list new (l ∷ ls) = if is_of new.uri l then new ∷ ls else l ∷ with_list new ls

-- an index has, under each URI, the numbers of the lists with it
abbrev pub Indexes : List LastList → List (List ℕ × List ℕ) → Type 0
Indexes ls index = (uri : List ℕ) → numbers_under uri index ≡ numbers_from 0 (is_of uri) ls

-- the first of some numbers
abbrev pub first_of : List ℕ → Option ℕ
first_of [] = None
first_of (n ∷ ns) = Some n
