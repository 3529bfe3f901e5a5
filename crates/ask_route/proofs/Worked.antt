-- A small history of the table, worked out by the checker.
use Rattle.std.proofs.Common.{◌≡◌, true, false, not, List, [], ◌∷◌, codes, filter, find, refl}
use Rattle.std.specs.Prelude.{Some, None}
use Rattle.std.specs.List.{list_any}
use Rattle.ask_route.specs.declared.ask.Ask.{Ask}
use Rattle.ask_route.specs.Tables.{asked, is_seated, is_under, is_with, less, numbers_of, parked, seat_in}

-- the server asks under 1, "a" and 3: editor 0 under its 1, editor 1 under its 1, editor 0 under its 2; the request 4 is parked
abbrev first : Ask
first = asked 0 1 (codes "1")

abbrev second : Ask
second = asked 1 1 (codes "\"a\"")

abbrev third : Ask
third = asked 0 2 (codes "3")

abbrev fourth : Ask
fourth = parked (codes "4") (codes "{}")

abbrev four : List Ask
four = first ∷ second ∷ third ∷ fourth ∷ []

-- a string is the same in another spelling, and no integer
open_again : list_any (is_under (codes "\"\\u0061\"")) four ≡ true
open_again = refl

not_open : list_any (is_under (codes "\"1\"")) four ≡ false
not_open = refl

parked_open : list_any (is_under (codes "4")) four ≡ true
parked_open = refl

-- the server cancels
cancels : seat_in (find (is_under (codes "\"a\"")) four) ≡ Some (record { editor = 1; number = 1 })
cancels = refl

cancels_parked : seat_in (find (is_under (codes "4")) four) ≡ None
cancels_parked = refl

-- editor 1 answers its 1
answers : less (is_seated 1 1) four ≡ first ∷ third ∷ fourth ∷ []
answers = refl

-- editor 0 has its numbers 1 and 2; it leaves, and the parked request is taken
numbers : numbers_of 0 four ≡ 1 ∷ 2 ∷ []
numbers = refl

leaves : filter (λ ask. not (is_with (Some 0) ask)) four ≡ second ∷ fourth ∷ []
leaves = refl

is_taken : filter (is_with None) four ≡ fourth ∷ []
is_taken = refl
