-- How the open requests are kept: places whose numbers rise, of which some are empty.
use Rattle.std.specs.Prelude.{◌≡◌, ℕ, ◌+◌, ◌≤◌, Bool, true, false, List, [], ◌∷◌, nat_eq}
use Rattle.std.specs.Prelude.{Option, None, Some}
use Rattle.std.specs.List.{AllByRecursion}
use Rattle.std.specs.Map.{lookup}
use Rattle.id_rewrite.specs.Fingerprints.{fingerprint}
use Rattle.id_rewrite.specs.Tables.{IsInOrder, Table}
use Rattle.id_rewrite.specs.declared.pending.Pending.{Pending}
use Rattle.id_rewrite.specs.declared.pending.Numbered.{Numbered}
use Rattle.id_rewrite.specs.declared.slots.Slot.{Slot}

-- the open requests; the number that comes next; for how many more there's room
pub record Open : Type 0 where
  pub requests : List Numbered
  pub next : ℕ
  pub spare : ℕ

abbrev pub before : ℕ → Option Pending → List Numbered → List Numbered
before n None rest = rest
before n (Some p) rest = record { number = n; pending = p } ∷ rest

-- the requests in the places that aren't empty
abbrev pub live : List Slot → List Numbered
live [] = []
live (s ∷ ss) = before s.number s.pending (live ss)

-- the numbers of the places rise, from one number up to below another
abbrev pub RiseSlots : ℕ → ℕ → List Slot → Type 0
RiseSlots from to [] = from ≤ to
RiseSlots from to (s ∷ ss) = (from ≤ s.number) × RiseSlots (s.number + 1) to ss

-- whether a place holds an open request that passes the test
abbrev pub any_of : (Numbered → Bool) → Slot → Bool
any_of test s = passes s.pending
  where
    passes : Option Pending → Bool
    passes None = false
    passes (Some p) = test (record { number = s.number; pending = p })

abbrev pub marked : Pending → Pending
marked p = record { editor = p.editor; id = p.id; work = p.work; partial = p.partial; cancelled = true; noted = p.noted }

-- each open request is found by its fingerprint
abbrev pub AreKnown : List (ℕ × ℕ) → List Numbered → Type 0
AreKnown entries requests = AllByRecursion (λ r. lookup (nat_eq (fingerprint r.pending.editor r.pending.id)) entries ≡ Some r.number) requests

-- what a table keeps: its numbers in order, its room in the places and in the map, and the numbers by their fingerprints
pub record IsKept (t : Table) (places : ℕ) (keys : ℕ) (doubled : Bool) (entries : List (ℕ × ℕ)) : Type 0 where
  pub order : IsInOrder t
  pub in_places : t.spare ≤ places
  pub in_keys : t.spare ≤ keys
  pub known : doubled ≡ false → AreKnown entries t.requests
