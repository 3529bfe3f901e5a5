-- What is read of the counts of the editors that are linked.
use Rattle.std.proofs.Common.{◌≡◌, ℕ, ◌<◌, inl, inr, List, ap, sym, subst}
use Rattle.std.specs.Prelude.{None, slice_get}
use Rattle.std.proofs.lemmas.Bool.{cases_lt}
use Rattle.number_table.specs.declared.numbered.Numbered.{Numbered}
use Rattle.number_table.specs.Numbers.{Rise, held, spread}
use Rattle.number_table.proofs.Places as places
use Rattle.mux_causes.specs.Backlogs.{bytes_in}

-- nothing is on its way to one that isn't kept
pub nothing_owed : (n : ℕ) (kept : List (Numbered ℕ)) (all : List ℕ) → spread 0 0 n kept ≡ all → Rise 0 n kept → (e : ℕ) → held e kept ≡ None → bytes_in (slice_get all e) ≡ 0
nothing_owed n kept all is rise e none = elim (cases_lt e n) [
  | inl l ↦ ap bytes_in (places.lost_get 0 n kept all is rise e (subst (λ m. e < m) (sym (places.length_is 0 n kept all is rise)) l) none 0)
  | inr l ↦ ap bytes_in (places.past_get 0 n kept all is rise e l)
]
