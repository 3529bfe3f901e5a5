-- The places of requests: one that is found, one that comes, one that is emptied, one that is marked.
use Rattle.std.proofs.Common.{◌≡◌, ℕ, zero, suc, ◌+◌, ◌<◌, ◌≤◌, Bool, true, false, cond, not, ◌⊎◌, inl, inr, List, [], ◌∷◌, ◌++◌, length, filter, find, map, take, drop, get_or, nat_eq, nat_lt, refl, sym, ◌∙◌, ap, ap₂, subst, arith}
use Rattle.std.specs.Prelude.{Option, Some, None, option_map, slice_set, is_some}
use Rattle.std.proofs.lemmas.Bool.Decides.{nat_tests}
use Rattle.std.specs.List.{last_or}
use Rattle.std.proofs.lemmas.List.{append-nil}
use Rattle.std.proofs.lemmas.List.Elements.{filter-append}
use Rattle.std.proofs.lemmas.Bool.{cases_lt}
use Rattle.id_rewrite.specs.declared.pending.Pending.{Pending}
use Rattle.id_rewrite.specs.declared.pending.Numbered.{Numbered}
use Rattle.id_rewrite.specs.declared.slots.Slot.{Slot}
use Rattle.id_rewrite.specs.Slots.{RiseSlots, any_of, before, live, marked}
use Rattle.id_rewrite.specs.Tables.{RiseWithin, cancelled, editors_of, has_number, is_among, is_of, is_under, last_editor, number_under, numbers_of, pending_of, with_cancelled, without}
use Rattle.id_rewrite.proofs.Rising.{below_marked, below_without, itself, less, lower, other}

-- the place of a number

abbrev pub Below : ℕ → List Slot → ℕ → Type 0
Below n ss low = (i : ℕ) (s : Slot) → i < low → s ≡ get_or ss i s → s.number < n

abbrev pub AtLeast : ℕ → List Slot → ℕ → Type 0
AtLeast n ss high = (i : ℕ) (s : Slot) → high ≤ i → i < length ss → s ≡ get_or ss i s → n ≤ s.number

from_on : (from to : ℕ) (ss : List Slot) (j : ℕ) (t : Slot) → RiseSlots from to ss → j < length ss → t ≡ get_or ss j t → from ≤ t.number
from_on from to [] j t rise l e = absurd (omega arith)
from_on from to (s ∷ ss) zero t rise l e = subst (λ (q : Slot). from ≤ q.number) (sym e) rise.0
from_on from to (s ∷ ss) (suc j) t rise l e = let first = rise.0 in let above = from_on (s.number + 1) to ss j t rise.1 (omega arith) e in omega arith

ordered : (from to : ℕ) (ss : List Slot) (i j : ℕ) (s t : Slot) → RiseSlots from to ss → i < j → j < length ss → s ≡ get_or ss i s → t ≡ get_or ss j t → s.number < t.number
ordered from to [] i j s t rise l k e f = absurd (omega arith)
ordered from to (q ∷ ss) zero zero s t rise l k e f = absurd (omega arith)
ordered from to (q ∷ ss) (suc i) zero s t rise l k e f = absurd (omega arith)
ordered from to (q ∷ ss) zero (suc j) s t rise l k e f = let above = from_on (q.number + 1) to ss j t rise.1 (omega arith) f in let number : s.number ≡ q.number = ap (λ (r : Slot). r.number) e in omega arith
ordered from to (q ∷ ss) (suc i) (suc j) s t rise l k e f = ordered (q.number + 1) to ss i j s t rise.1 (omega arith) (omega arith) e f

one_place : (ss : List Slot) (k : ℕ) (s t : Slot) → k < length ss → s ≡ get_or ss k s → t ≡ get_or ss k t → s ≡ t
one_place [] k s t l e f = absurd (omega arith)
one_place (q ∷ ss) zero s t l e f = e ∙ sym f
one_place (q ∷ ss) (suc k) s t l e f = one_place ss k s t (omega arith) e f

pub below_more : (from to n : ℕ) (ss : List Slot) (middle : ℕ) (t : Slot) → RiseSlots from to ss → middle < length ss → t ≡ get_or ss middle t → t.number < n → Below n ss (middle + 1)
below_more from to n ss middle t rise l f less = λ i s k e. go i s e (cases_lt i middle) k
  where
    go : (i : ℕ) (s : Slot) → s ≡ get_or ss i s → (i < middle) ⊎ (middle ≤ i) → i < middle + 1 → s.number < n
    go i s e (inl m) k = let o = ordered from to ss i middle s t rise m l e f in omega arith
    go i s e (inr m) k = let at : i ≡ middle = omega arith in let o : s ≡ t = one_place ss middle s t l (subst (λ j. s ≡ get_or ss j s) at e) f in subst (λ (q : Slot). q.number < n) (sym o) less

pub at_least_more : (from to n : ℕ) (ss : List Slot) (middle : ℕ) (t : Slot) → RiseSlots from to ss → middle < length ss → t ≡ get_or ss middle t → n ≤ t.number → AtLeast n ss middle
at_least_more from to n ss middle t rise l f more = λ i s k m e. go i s e (cases_lt middle i) k m
  where
    go : (i : ℕ) (s : Slot) → s ≡ get_or ss i s → (middle < i) ⊎ (i ≤ middle) → middle ≤ i → i < length ss → n ≤ s.number
    go i s e (inl a) k m = let o = ordered from to ss middle i t s rise a m f e in omega arith
    go i s e (inr a) k m = let at : i ≡ middle = omega arith in let o : s ≡ t = one_place ss middle s t l (subst (λ j. s ≡ get_or ss j s) at e) f in subst (λ (q : Slot). n ≤ q.number) (sym o) more

-- a number that no place has isn't open
absent : (n : ℕ) (ss : List Slot) → ((i : ℕ) (s : Slot) → i < length ss → s ≡ get_or ss i s → nat_eq s.number n ≡ false) → pending_of n (live ss) ≡ None
absent n [] none = refl
absent n (s ∷ ss) none = go s.pending (none 0 s (omega arith) refl) (absent n ss (λ i t l e. none (suc i) t (omega arith) e))
  where
    go : (o : Option Pending) → nat_eq s.number n ≡ false → pending_of n (live ss) ≡ None → pending_of n (before s.number o (live ss)) ≡ None
    go None e rest = rest
    go (Some p) e rest = ap (λ b. option_map (λ r. r.pending) (cond b (Some (record { number = s.number; pending = p })) (find (has_number n) (live ss)))) e ∙ rest

first_of : (ss : List Slot) (k : ℕ) → k < length ss → (s : Slot) × (s ≡ get_or ss k s)
first_of [] k l = absurd (omega arith)
first_of (s ∷ ss) zero l = (s, refl)
first_of (s ∷ ss) (suc k) l = first_of ss k (omega arith)

pub none_there : (from to n : ℕ) (ss : List Slot) (low : ℕ) → RiseSlots from to ss → low ≤ length ss → Below n ss low → AtLeast n ss low → ((s : Slot) → low < length ss → s ≡ get_or ss low s → nat_eq s.number n ≡ false) → pending_of n (live ss) ≡ None
none_there from to n ss low rise l below above here = absent n ss (λ i s k e. go i s k e (cases_lt i low) (cases_lt low i))
  where
    go : (i : ℕ) (s : Slot) → i < length ss → s ≡ get_or ss i s → (i < low) ⊎ (low ≤ i) → (low < i) ⊎ (i ≤ low) → nat_eq s.number n ≡ false
    go i s k e (inl m) h = less s.number n (below i s m e)
    go i s k e (inr m) (inr h) = let at : i ≡ low = omega arith in here s (omega arith) (subst (λ j. s ≡ get_or ss j s) at e)
    go i s k e (inr m) (inl h) = let first = first_of ss low (omega arith) in let a = above low first.0 (omega arith) (omega arith) first.1 in let o = ordered from to ss low i first.0 s rise h k first.1 e in other n s.number (omega arith)

pub at_least_on : (n : ℕ) (ss : List Slot) (low high : ℕ) → high ≤ low → AtLeast n ss high → AtLeast n ss low
at_least_on n ss low high l above = λ i s k m e. above i s (omega arith) m e

pub not_within : (a b : ℕ) → false ≡ nat_lt a b → a < b → ⊥
not_within a b e l = grind (arith, nat_tests)

pub apart_at : (n : ℕ) (ss : List Slot) (k : ℕ) (s t : Slot) → k < length ss → s ≡ get_or ss k s → t ≡ get_or ss k t → (t.number ≡ n → ⊥) → nat_eq s.number n ≡ false
apart_at n ss k s t l e f apart = unequal s.number n (λ h. apart (sym (ap (λ (q : Slot). q.number) (one_place ss k s t l e f)) ∙ h))
  where
    unequal : (a b : ℕ) → (a ≡ b → ⊥) → nat_eq a b ≡ false
    unequal a b h = grind (arith, nat_tests)

-- one that comes

live_append : (ss tt : List Slot) → live (ss ++ tt) ≡ live ss ++ live tt
live_append [] tt = refl
live_append (s ∷ ss) tt = go s.pending (live_append ss tt)
  where
    go : (o : Option Pending) → live (ss ++ tt) ≡ live ss ++ live tt → before s.number o (live (ss ++ tt)) ≡ before s.number o (live ss) ++ live tt
    go None e = e
    go (Some p) e = ap (λ rs. record { number = s.number; pending = p } ∷ rs) e

pub came : (ss tt : List Slot) (n : ℕ) (p : Pending) → tt ≡ ss ++ record { number = n; pending = Some p } ∷ [] → live tt ≡ live ss ++ record { number = n; pending = p } ∷ []
came ss tt n p e = ap live e ∙ live_append ss (record { number = n; pending = Some p } ∷ [])

pushed : (from to : ℕ) (ss : List Slot) (o : Option Pending) → RiseSlots from to ss → RiseSlots from (to + 1) (ss ++ record { number = to; pending = o } ∷ [])
pushed from to [] o rise = (rise, omega arith)
pushed from to (s ∷ ss) o rise = (rise.0, pushed (s.number + 1) to ss o rise.1)

pub came_rising : (from to : ℕ) (ss tt : List Slot) (o : Option Pending) → RiseSlots from to ss → tt ≡ ss ++ record { number = to; pending = o } ∷ [] → RiseSlots from (to + 1) tt
came_rising from to ss tt o rise e = subst (RiseSlots from (to + 1)) (sym e) (pushed from to ss o rise)

-- empty places go

abbrev pub is_full : Slot → Bool
is_full s = is_some s.pending

pub full_live : (ss : List Slot) → live (filter is_full ss) ≡ live ss
full_live [] = refl
full_live (s ∷ ss) = go s.pending refl (full_live ss)
  where
    go : (o : Option Pending) → s.pending ≡ o → live (filter is_full ss) ≡ live ss → live (cond (is_some s.pending) (s ∷ filter is_full ss) (filter is_full ss)) ≡ before s.number s.pending (live ss)
    go None e rest = subst (λ o. live (cond (is_some o) (s ∷ filter is_full ss) (filter is_full ss)) ≡ before s.number o (live ss)) (sym e) rest
    go (Some p) e rest = ap (λ o. live (cond (is_some o) (s ∷ filter is_full ss) (filter is_full ss))) e ∙ ap (before s.number s.pending) rest

slots_lower : (from more to : ℕ) (ss : List Slot) → from ≤ more → RiseSlots more to ss → RiseSlots from to ss
slots_lower from more to [] l rise = omega arith
slots_lower from more to (s ∷ ss) l rise = (let first = rise.0 in omega arith, rise.1)

pub full_rising : (from to : ℕ) (ss : List Slot) → RiseSlots from to ss → RiseSlots from to (filter is_full ss)
full_rising from to [] rise = rise
full_rising from to (s ∷ ss) rise = go (is_full s) (full_rising (s.number + 1) to ss rise.1)
  where
    go : (b : Bool) → RiseSlots (s.number + 1) to (filter is_full ss) → RiseSlots from to (cond b (s ∷ filter is_full ss) (filter is_full ss))
    go true rest = (rise.0, rest)
    go false rest = let first = rise.0 in slots_lower from (s.number + 1) to (filter is_full ss) (omega arith) rest

-- one place is written

pub live_rises : (from to : ℕ) (ss : List Slot) → RiseSlots from to ss → RiseWithin from to (live ss)
live_rises from to [] rise = rise
live_rises from to (s ∷ ss) rise = go s.pending (live_rises (s.number + 1) to ss rise.1)
  where
    go : (o : Option Pending) → RiseWithin (s.number + 1) to (live ss) → RiseWithin from to (before s.number o (live ss))
    go None rest = let first = rise.0 in lower from (s.number + 1) to (live ss) (omega arith) rest
    go (Some p) rest = (rise.0, rest)

-- a number below all isn't open
none_below : (n from to : ℕ) (rs : List Numbered) → n < from → RiseWithin from to rs → pending_of n rs ≡ None
none_below n from to [] l rise = refl
none_below n from to (r ∷ rs) l rise =
    let first = rise.0 in
    ap (λ b. option_map (λ q. q.pending) (cond b (Some r) (find (has_number n) rs))) (other n r.number (omega arith)) ∙ none_below n (r.number + 1) to rs (omega arith) rise.1

pub kept_rising : (from to : ℕ) (ss : List Slot) (k : ℕ) (t : Slot) (o : Option Pending) → RiseSlots from to ss → k < length ss → t ≡ get_or ss k t → RiseSlots from to (slice_set ss k (record { number = t.number; pending = o }))
kept_rising from to [] k t o rise l e = absurd (omega arith)
kept_rising from to (s ∷ ss) zero t o rise l e = subst (λ (q : Slot). (from ≤ q.number) × RiseSlots (q.number + 1) to ss) (sym e) rise
kept_rising from to (s ∷ ss) (suc k) t o rise l e = (rise.0, kept_rising (s.number + 1) to ss k t o rise.1 (omega arith) e)

-- what is in the place of a number
pub pending_there : (from to n : ℕ) (ss : List Slot) (k : ℕ) (t : Slot) → RiseSlots from to ss → k < length ss → t ≡ get_or ss k t → t.number ≡ n → t.pending ≡ pending_of n (live ss)
pending_there from to n [] k t rise l e is = absurd (omega arith)
pending_there from to n (s ∷ ss) zero t rise l e is =
    let number : s.number ≡ n = sym (ap (λ (q : Slot). q.number) e) ∙ is in
    ap (λ (q : Slot). q.pending) e ∙ sym (go s.pending number (none_below n (s.number + 1) to (live ss) (omega arith) (live_rises (s.number + 1) to ss rise.1)))
  where
    go : (o : Option Pending) → s.number ≡ n → pending_of n (live ss) ≡ None → pending_of n (before s.number o (live ss)) ≡ o
    go None m rest = rest
    go (Some p) m rest = ap (λ b. option_map (λ q. q.pending) (cond b (Some (record { number = s.number; pending = p })) (find (has_number n) (live ss)))) (ap (λ j. nat_eq j n) m ∙ itself n)
pending_there from to n (s ∷ ss) (suc k) t rise l e is =
    let above = from_on (s.number + 1) to ss k t rise.1 (omega arith) e in
    pending_there (s.number + 1) to n ss k t rise.1 (omega arith) e is ∙ sym (go s.pending (less s.number n (omega arith)))
  where
    go : (o : Option Pending) → nat_eq s.number n ≡ false → pending_of n (before s.number o (live ss)) ≡ pending_of n (live ss)
    go None f = refl
    go (Some p) f = ap (λ b. option_map (λ q. q.pending) (cond b (Some (record { number = s.number; pending = p })) (find (has_number n) (live ss)))) f

pub emptied_live : (from to n : ℕ) (ss : List Slot) (k : ℕ) (t : Slot) → RiseSlots from to ss → k < length ss → t ≡ get_or ss k t → t.number ≡ n → live (slice_set ss k (record { number = t.number; pending = None })) ≡ without n (live ss)
emptied_live from to n [] k t rise l e is = absurd (omega arith)
emptied_live from to n (s ∷ ss) zero t rise l e is =
    let number : s.number ≡ n = sym (ap (λ (q : Slot). q.number) e) ∙ is in
    sym (go s.pending number (below_without n (s.number + 1) to (live ss) (omega arith) (live_rises (s.number + 1) to ss rise.1)))
  where
    go : (o : Option Pending) → s.number ≡ n → without n (live ss) ≡ live ss → without n (before s.number o (live ss)) ≡ live ss
    go None m rest = rest
    go (Some p) m rest = ap (λ b. cond (not b) (record { number = s.number; pending = p } ∷ without n (live ss)) (without n (live ss))) (ap (λ j. nat_eq j n) m ∙ itself n) ∙ rest
emptied_live from to n (s ∷ ss) (suc k) t rise l e is =
    let above = from_on (s.number + 1) to ss k t rise.1 (omega arith) e in
    go s.pending (less s.number n (omega arith)) (emptied_live (s.number + 1) to n ss k t rise.1 (omega arith) e is)
  where
    go : (o : Option Pending) → nat_eq s.number n ≡ false → live (slice_set ss k (record { number = t.number; pending = None })) ≡ without n (live ss) → before s.number o (live (slice_set ss k (record { number = t.number; pending = None }))) ≡ without n (before s.number o (live ss))
    go None f rest = rest
    go (Some p) f rest = ap (λ rs. record { number = s.number; pending = p } ∷ rs) rest ∙ ap (λ b. cond (not b) (record { number = s.number; pending = p } ∷ without n (live ss)) (without n (live ss))) (sym f)

pub marked_live : (from to n : ℕ) (ss : List Slot) (k : ℕ) (t : Slot) → RiseSlots from to ss → k < length ss → t ≡ get_or ss k t → t.number ≡ n → live (slice_set ss k (record { number = t.number; pending = option_map marked t.pending })) ≡ with_cancelled n (live ss)
marked_live from to n [] k t rise l e is = absurd (omega arith)
marked_live from to n (s ∷ ss) zero t rise l e is =
    let number : s.number ≡ n = sym (ap (λ (q : Slot). q.number) e) ∙ is in
    ap (λ (q : Slot). before q.number (option_map marked q.pending) (live ss)) e ∙ sym (go s.pending number (below_marked n (s.number + 1) to (live ss) (omega arith) (live_rises (s.number + 1) to ss rise.1)))
  where
    go : (o : Option Pending) → s.number ≡ n → with_cancelled n (live ss) ≡ live ss → with_cancelled n (before s.number o (live ss)) ≡ before s.number (option_map marked o) (live ss)
    go None m rest = rest
    go (Some p) m rest = ap₂ (λ b rs. cond b (cancelled (record { number = s.number; pending = p })) (record { number = s.number; pending = p }) ∷ rs) (ap (λ j. nat_eq j n) m ∙ itself n) rest
marked_live from to n (s ∷ ss) (suc k) t rise l e is =
    let above = from_on (s.number + 1) to ss k t rise.1 (omega arith) e in
    go s.pending (less s.number n (omega arith)) (marked_live (s.number + 1) to n ss k t rise.1 (omega arith) e is)
  where
    go : (o : Option Pending) → nat_eq s.number n ≡ false → live (slice_set ss k (record { number = t.number; pending = option_map marked t.pending })) ≡ with_cancelled n (live ss) → before s.number o (live (slice_set ss k (record { number = t.number; pending = option_map marked t.pending }))) ≡ with_cancelled n (before s.number o (live ss))
    go None f rest = rest
    go (Some q) f rest = ap₂ (λ b rs. cond b (cancelled (record { number = s.number; pending = q })) (record { number = s.number; pending = q }) ∷ rs) (sym f) rest

-- where a number isn't open, nothing is taken or marked
pub none_taken : (n : ℕ) (rs : List Numbered) → pending_of n rs ≡ None → rs ≡ without n rs
none_taken n [] e = refl
none_taken n (r ∷ rs) e = go (has_number n r) e (none_taken n rs)
  where
    go : (b : Bool) → option_map (λ q. q.pending) (cond b (Some r) (find (has_number n) rs)) ≡ None → (pending_of n rs ≡ None → rs ≡ without n rs) → r ∷ rs ≡ cond (not b) (r ∷ without n rs) (without n rs)
    go true f rest = absurd (cc)
    go false f rest = ap (λ qs. r ∷ qs) (rest f)

pub none_marked : (n : ℕ) (rs : List Numbered) → pending_of n rs ≡ None → rs ≡ with_cancelled n rs
none_marked n [] e = refl
none_marked n (r ∷ rs) e = go (has_number n r) e (none_marked n rs)
  where
    go : (b : Bool) → option_map (λ q. q.pending) (cond b (Some r) (find (has_number n) rs)) ≡ None → (pending_of n rs ≡ None → rs ≡ with_cancelled n rs) → r ∷ rs ≡ cond b (cancelled r) r ∷ with_cancelled n rs
    go true f rest = absurd (cc)
    go false f rest = ap (λ qs. r ∷ qs) (rest f)

-- walks

front : (ss : List Slot) (k : ℕ) (s : Slot) → k < length ss → s ≡ get_or ss k s → drop k ss ≡ s ∷ drop (k + 1) ss
front [] k s l e = absurd (omega arith)
front (q ∷ ss) zero s l e = ap (λ r. r ∷ ss) (sym e)
front (q ∷ ss) (suc k) s l e = subst (λ n. drop (suc k) (q ∷ ss) ≡ s ∷ drop n (q ∷ ss)) more (front ss k s (omega arith) e)
  where
    more : suc (k + 1) ≡ suc k + 1
    more = omega arith

past : (ss : List Slot) → drop (length ss) ss ≡ []
past [] = refl
past (s ∷ ss) = past ss

abbrev pub UnderFrom : ℕ → List ℕ → List Slot → ℕ → Type 0
UnderFrom editor id ss k = number_under editor id (live ss) ≡ number_under editor id (live (drop k ss))

under_first : (editor : ℕ) (id : List ℕ) (s : Slot) (rest : List Numbered) (o : Option Pending) → (b : Bool) → any_of (is_under editor id) (record { number = s.number; pending = o }) ≡ b → number_under editor id (before s.number o rest) ≡ cond b (Some s.number) (number_under editor id rest)
under_first editor id s rest None true e = absurd (cc)
under_first editor id s rest None false e = refl
under_first editor id s rest (Some p) b e = ap (λ c. option_map (λ r. r.number) (cond c (Some (record { number = s.number; pending = p })) (find (is_under editor id) rest))) e ∙ go b
  where
    go : (c : Bool) → option_map (λ r. r.number) (cond c (Some (record { number = s.number; pending = p })) (find (is_under editor id) rest)) ≡ cond c (Some s.number) (number_under editor id rest)
    go true = refl
    go false = refl

pub under_here : (editor : ℕ) (id : List ℕ) (ss : List Slot) (k : ℕ) (s : Slot) → UnderFrom editor id ss k → k < length ss → s ≡ get_or ss k s → any_of (is_under editor id) s ≡ true → Some s.number ≡ number_under editor id (live ss)
under_here editor id ss k s f l e b = sym (f ∙ ap (λ ts. number_under editor id (live ts)) (front ss k s l e) ∙ under_first editor id s (live (drop (k + 1) ss)) s.pending true b)

pub under_later : (editor : ℕ) (id : List ℕ) (ss : List Slot) (k : ℕ) (s : Slot) → UnderFrom editor id ss k → k < length ss → s ≡ get_or ss k s → any_of (is_under editor id) s ≡ false → UnderFrom editor id ss (k + 1)
under_later editor id ss k s f l e b = f ∙ ap (λ ts. number_under editor id (live ts)) (front ss k s l e) ∙ under_first editor id s (live (drop (k + 1) ss)) s.pending false b

pub under_nowhere : (editor : ℕ) (id : List ℕ) (ss : List Slot) → UnderFrom editor id ss (length ss) → None ≡ number_under editor id (live ss)
under_nowhere editor id ss f = sym (f ∙ ap (λ ts. number_under editor id (live ts)) (past ss))

abbrev pub NumbersTo : ℕ → List Slot → ℕ → List ℕ → Type 0
NumbersTo editor ss k ns = ns ≡ numbers_of editor (live (take k ss))

-- the last editor, from the end on

taken : (ss : List Slot) (k : ℕ) (s : Slot) → k < length ss → s ≡ get_or ss k s → take (k + 1) ss ≡ take k ss ++ s ∷ []
taken [] k s l e = absurd (omega arith)
taken (q ∷ ss) zero s l e = ap (λ r. r ∷ []) (sym e)
taken (q ∷ ss) (suc k) s l e = subst (λ n. take n (q ∷ ss) ≡ q ∷ (take k ss ++ s ∷ [])) more (ap (λ rs. q ∷ rs) (taken ss k s (omega arith) e))
  where
    more : suc (k + 1) ≡ suc k + 1
    more = omega arith

take_all : (ss : List Slot) → take (length ss) ss ≡ ss
take_all [] = refl
take_all (s ∷ ss) = ap (λ rs. s ∷ rs) (take_all ss)

abbrev editor_in : Numbered → ℕ
editor_in r = r.pending.editor

abbrev pub LastWithin : List ℕ → List Slot → ℕ → Type 0
LastWithin among ss k = last_editor among (live (take k ss)) ≡ last_editor among (live ss)

listed_alone : (among : List ℕ) (s : Slot) (o : Option Pending) → last_editor among (before s.number o []) ≡ None → filter (is_among among) (before s.number o []) ≡ []
listed_alone among s None e = refl
listed_alone among s (Some p) e = go (is_among among (record { number = s.number; pending = p })) e
  where
    alone : List Numbered
    alone = record { number = s.number; pending = p } ∷ []

    go : (b : Bool) → option_map editor_in (last_or None (cond b alone [])) ≡ None → cond b alone [] ≡ []
    go true e = absurd (cc)
    go false e = refl

last_behind : (o : Option Numbered) (rs qs : List Numbered) → last_or o (rs ++ qs) ≡ last_or (last_or o rs) qs
last_behind o [] qs = refl
last_behind o (r ∷ rs) qs = last_behind (Some r) rs qs

last_of : (among : List ℕ) (rs qs : List Numbered) → last_editor among (rs ++ qs) ≡ option_map editor_in (last_or (last_or None (filter (is_among among) rs)) (filter (is_among among) qs))
last_of among rs qs = ap (λ xs. option_map editor_in (last_or None xs)) (filter-append (is_among among) rs qs) ∙ ap (option_map editor_in) (last_behind None (filter (is_among among) rs) (filter (is_among among) qs))

pub last_first : (among : List ℕ) (ss : List Slot) → LastWithin among ss (length ss)
last_first among ss = ap (λ ts. last_editor among (live ts)) (take_all ss)

split : (ss : List Slot) (k : ℕ) (s : Slot) → k < length ss → s ≡ get_or ss k s → live (take (k + 1) ss) ≡ live (take k ss) ++ live (s ∷ [])
split ss k s l e = ap live (taken ss k s l e) ∙ live_append (take k ss) (s ∷ [])

pub last_before : (among : List ℕ) (ss : List Slot) (k : ℕ) (s : Slot) → LastWithin among ss (k + 1) → k < length ss → s ≡ get_or ss k s → last_editor among (live (s ∷ [])) ≡ None → LastWithin among ss k
last_before among ss k s f l e none =
    sym (ap (last_editor among) (split ss k s l e) ∙ (last_of among (live (take k ss)) (live (s ∷ [])) ∙ ap (λ xs. option_map editor_in (last_or (last_or None (filter (is_among among) (live (take k ss)))) xs)) (listed_alone among s s.pending none))) ∙ f

last_one : (o : Option Numbered) (qs : List Numbered) (editor : ℕ) → option_map editor_in (last_or None qs) ≡ Some editor → option_map editor_in (last_or o qs) ≡ Some editor
last_one o [] editor e = absurd (cc)
last_one o (q ∷ qs) editor e = e

pub last_here : (among : List ℕ) (ss : List Slot) (k : ℕ) (s : Slot) (editor : ℕ) → LastWithin among ss (k + 1) → k < length ss → s ≡ get_or ss k s → last_editor among (live (s ∷ [])) ≡ Some editor → Some editor ≡ last_editor among (live ss)
last_here among ss k s editor f l e some =
    sym (last_one (last_or None (filter (is_among among) (live (take k ss)))) (filter (is_among among) (live (s ∷ []))) editor some) ∙ (sym (ap (last_editor among) (split ss k s l e) ∙ last_of among (live (take k ss)) (live (s ∷ []))) ∙ f)

pub last_nowhere : (among : List ℕ) (ss : List Slot) → LastWithin among ss 0 → None ≡ last_editor among (live ss)
last_nowhere among ss f = f

-- the same, of a place that was found in a view of the places
module _ (from to n : ℕ) (ss seen : List Slot) (k : ℕ) (t : Slot) (rise : RiseSlots from to ss) (is : seen ≡ ss) (l : k < length seen) (found : (s : Slot) → s ≡ get_or seen k s → s.number ≡ n) (e : t ≡ get_or ss k t) where
  inside_at : k < length ss
  inside_at = subst (λ xs. k < length xs) is l

  number_at : t.number ≡ n
  number_at = found t (subst (λ xs. t ≡ get_or xs k t) (sym is) e)

  pub pending_at : t.pending ≡ pending_of n (live ss)
  pending_at = pending_there from to n ss k t rise inside_at e number_at

  pub emptied_at : (o : Option Pending) → o ≡ None → live (slice_set ss k (record { number = t.number; pending = o })) ≡ without n (live ss)
  emptied_at o none = ap (λ p. live (slice_set ss k (record { number = t.number; pending = p }))) none ∙ emptied_live from to n ss k t rise inside_at e number_at

  pub marked_at : (q : Slot) → q.number ≡ t.number → q.pending ≡ option_map marked t.pending → live (slice_set ss k q) ≡ with_cancelled n (live ss)
  marked_at q number pending = ap₂ (λ m o. live (slice_set ss k (record { number = m; pending = o }))) number pending ∙ marked_live from to n ss k t rise inside_at e number_at

  pub marked_rising : (q : Slot) → q.number ≡ t.number → RiseSlots from to (slice_set ss k q)
  marked_rising q number = subst (λ m. RiseSlots from to (slice_set ss k (record { number = m; pending = q.pending }))) (sym number) (kept_rising from to ss k t q.pending rise inside_at e)

pub within_at : (ss seen : List Slot) (k : ℕ) → seen ≡ ss → k < length seen → k < length ss
within_at ss seen k is l = subst (λ xs. k < length xs) is l

pub absent_in : (n : ℕ) (ss seen : List Slot) (rs : List Numbered) → seen ≡ ss → live ss ≡ rs → pending_of n (live seen) ≡ None → pending_of n rs ≡ None
absent_in n ss seen rs is f none = sym (ap (pending_of n) f) ∙ (sym (ap (λ xs. pending_of n (live xs)) is) ∙ none)

numbers_append : (editor : ℕ) (rs qs : List Numbered) → numbers_of editor (rs ++ qs) ≡ numbers_of editor rs ++ numbers_of editor qs
numbers_append editor [] qs = refl
numbers_append editor (r ∷ rs) qs = go (is_of editor r) (numbers_append editor rs qs)
  where
    go : (b : Bool) → numbers_of editor (rs ++ qs) ≡ numbers_of editor rs ++ numbers_of editor qs
        → map (λ (q : Numbered). q.number) (cond b (r ∷ filter (is_of editor) (rs ++ qs)) (filter (is_of editor) (rs ++ qs))) ≡ map (λ (q : Numbered). q.number) (cond b (r ∷ filter (is_of editor) rs) (filter (is_of editor) rs)) ++ numbers_of editor qs
    go true rest = ap (λ ns. r.number ∷ ns) rest
    go false rest = rest

one_number : (editor : ℕ) (s : Slot) (o : Option Pending) (b : Bool) → any_of (is_of editor) (record { number = s.number; pending = o }) ≡ b → numbers_of editor (before s.number o []) ≡ cond b (s.number ∷ []) []
one_number editor s None true e = absurd (cc)
one_number editor s None false e = refl
one_number editor s (Some p) b e = ap (λ c. map (λ (q : Numbered). q.number) (cond c (record { number = s.number; pending = p } ∷ []) [])) e ∙ go b
  where
    go : (c : Bool) → map (λ (q : Numbered). q.number) (cond c (record { number = s.number; pending = p } ∷ []) []) ≡ cond c (s.number ∷ []) []
    go true = refl
    go false = refl

numbers_next : (editor : ℕ) (ss : List Slot) (k : ℕ) (ns : List ℕ) (s : Slot) (b : Bool) → NumbersTo editor ss k ns → k < length ss → s ≡ get_or ss k s → any_of (is_of editor) s ≡ b → NumbersTo editor ss (k + 1) (ns ++ cond b (s.number ∷ []) [])
numbers_next editor ss k ns s b so l e is =
    ap₂ (λ xs ys. xs ++ ys) so (sym (one_number editor s s.pending b is)) ∙ sym (ap (numbers_of editor) (split ss k s l e) ∙ numbers_append editor (live (take k ss)) (live (s ∷ [])))

pub numbers_more : (editor : ℕ) (ss : List Slot) (k : ℕ) (ns : List ℕ) (s : Slot) → NumbersTo editor ss k ns → k < length ss → s ≡ get_or ss k s → any_of (is_of editor) s ≡ true → NumbersTo editor ss (k + 1) (ns ++ s.number ∷ [])
numbers_more editor ss k ns s so l e is = numbers_next editor ss k ns s true so l e is

pub numbers_same : (editor : ℕ) (ss : List Slot) (k : ℕ) (ns : List ℕ) (s : Slot) → NumbersTo editor ss k ns → k < length ss → s ≡ get_or ss k s → any_of (is_of editor) s ≡ false → NumbersTo editor ss (k + 1) ns
numbers_same editor ss k ns s so l e is = sym (append-nil ns) ∙ numbers_next editor ss k ns s false so l e is

pub numbers_all : (editor : ℕ) (ss : List Slot) (ns : List ℕ) → NumbersTo editor ss (length ss) ns → ns ≡ numbers_of editor (live ss)
numbers_all editor ss ns so = so ∙ ap (λ ts. numbers_of editor (live ts)) (take_all ss)

-- the editors of all

abbrev pub EditorsTo : List Slot → ℕ → List ℕ → Type 0
EditorsTo ss k es = es ≡ editors_of (live (take k ss))

editors_append : (rs qs : List Numbered) → editors_of (rs ++ qs) ≡ editors_of rs ++ editors_of qs
editors_append [] qs = refl
editors_append (r ∷ rs) qs = ap (λ es. r.pending.editor ∷ es) (editors_append rs qs)

abbrev one_editor : Option ℕ → List ℕ
one_editor None = []
one_editor (Some editor) = editor ∷ []

one_before : (n : ℕ) (o : Option Pending) → editors_of (before n o []) ≡ one_editor (option_map (λ (p : Pending). p.editor) o)
one_before n None = refl
one_before n (Some p) = refl

editors_next : (ss : List Slot) (k : ℕ) (es : List ℕ) (s : Slot) (o : Option ℕ) → EditorsTo ss k es → k < length ss → s ≡ get_or ss k s → o ≡ option_map (λ (p : Pending). p.editor) s.pending → EditorsTo ss (k + 1) (es ++ one_editor o)
editors_next ss k es s o so l e is =
    ap₂ (λ xs ys. xs ++ ys) so (ap one_editor is ∙ sym (one_before s.number s.pending)) ∙ sym (ap editors_of (split ss k s l e) ∙ editors_append (live (take k ss)) (live (s ∷ [])))

pub editors_more : (ss : List Slot) (k : ℕ) (es : List ℕ) (s : Slot) (editor : ℕ) → EditorsTo ss k es → k < length ss → s ≡ get_or ss k s → Some editor ≡ option_map (λ (p : Pending). p.editor) s.pending → EditorsTo ss (k + 1) (es ++ editor ∷ [])
editors_more ss k es s editor so l e is = editors_next ss k es s (Some editor) so l e is

pub editors_same : (ss : List Slot) (k : ℕ) (es : List ℕ) (s : Slot) → EditorsTo ss k es → k < length ss → s ≡ get_or ss k s → None ≡ option_map (λ (p : Pending). p.editor) s.pending → EditorsTo ss (k + 1) es
editors_same ss k es s so l e is = sym (append-nil es) ∙ editors_next ss k es s None so l e is

pub editors_all : (ss : List Slot) (es : List ℕ) → EditorsTo ss (length ss) es → es ≡ editors_of (live ss)
editors_all ss es so = so ∙ ap (λ ts. editors_of (live ts)) (take_all ss)
