-- A group of the list is changed, and one is evicted.
use Rattle.std.proofs.Common.{◌≡◌, ℕ, zero, suc, ◌+◌, ◌<◌, ◌≤◌, Bool, true, false, List, [], ◌∷◌, ◌++◌, length, get_or, nat_lt, refl, ap, sym, subst, ◌∙◌, if◌then◌else◌, arith}
use Rattle.std.specs.Prelude.{Option, Some, None, slice_set}
use Rattle.std.proofs.lemmas.List.{length-append}
use Rattle.std.proofs.lemmas.Bool.Decides.{nat_tests}
use Rattle.group_words.specs.declared.idle.Idle.{Idle}
use Rattle.group_words.specs.declared.kept.Kept.{Kept}
use Rattle.group_words.specs.declared.placed.Placed.TheVariants.{Evicts}
use Rattle.group_words.specs.Keys.{Common}
use Rattle.group_words.specs.Placing.{changed, ended, founded, founding, idle_since, idlest_from, live_count, longer, with_placed}
use Rattle.group_words.proofs.Frames.{changed_length}
use Rattle.group_table.specs.Tables.{Table, with_groups}

pub changed_set : (f : Kept → Kept) (xs : List Kept) (i : ℕ) (x : Kept) → i < length xs → x ≡ get_or xs i x → slice_set xs i (f x) ≡ changed i f xs
changed_set f [] i x h e = absurd (omega arith)
changed_set f (w ∷ xs) zero x h e = ap (λ z. f z ∷ xs) e
changed_set f (w ∷ xs) (suc i) x h e = ap (λ zs. w ∷ zs) (changed_set f xs i x (omega arith) e)

pub past_end : (f : Kept → Kept) (xs : List Kept) (i : ℕ) → length xs ≤ i → changed i f xs ≡ xs
past_end f [] i h = refl
past_end f (x ∷ xs) zero h = absurd (omega (arith, h))
past_end f (x ∷ xs) (suc i) h = ap (λ ys. x ∷ ys) (past_end f xs i (omega (arith, h)))

changed_left : (f : Kept → Kept) (xs ys : List Kept) (i : ℕ) → i < length xs → changed i f (xs ++ ys) ≡ changed i f xs ++ ys
changed_left f [] ys i h = absurd (omega arith)
changed_left f (x ∷ xs) ys zero h = refl
changed_left f (x ∷ xs) ys (suc i) h = ap (λ zs. x ∷ zs) (changed_left f xs ys i (omega arith))

-- the number of what is found is a group's
abbrev Under : ℕ → Option Idle → Type 0
Under i None = Unit {0}
Under i (Some x) = x.group < i

longer_under : (i : ℕ) (best : Option Idle) (o : Option ℕ) → Under i best → Under (i + 1) (longer best i o)
longer_under i None None h = tt
longer_under i (Some b) None h = omega arith
longer_under i None (Some t) h = omega arith
longer_under i (Some b) (Some t) h = by_test (nat_lt t b.since)
  where
    by_test : (c : Bool) → Under (i + 1) (if c then Some (record { group = i; since = t }) else Some b)
    by_test true = omega arith
    by_test false = omega arith

idlest_under : (i : ℕ) (best : Option Idle) (xs : List Kept) → Under i best → Under (i + length xs) (idlest_from i best xs)
idlest_under i best [] h = subst (λ n. Under n best) (omega arith) h
idlest_under i best (x ∷ xs) h = subst (λ n. Under n (idlest_from (i + 1) (longer best i (idle_since x)) xs)) (omega arith) (idlest_under (i + 1) (longer best i (idle_since x)) xs (longer_under i best (idle_since x) h))

pub idlest_within : (xs : List Kept) (x : Idle) → Some x ≡ idlest_from 0 None xs → x.group < length xs
idlest_within xs x e = let h : x.group < 0 + length xs = subst (λ (o : Option Idle). Under (0 + length xs) o) (sym e) (idlest_under 0 None xs tt) in omega arith

pub evicted : (key : Common) (declared : List ℕ) (t u v : Table) (x : Idle) → t.limit ≤ live_count t.groups → Some x ≡ idlest_from 0 None t.groups
    → u ≡ with_groups (t.groups ++ founded key declared ∷ []) t → v ≡ with_groups (changed x.group ended u.groups) u
    → v ≡ with_groups (with_placed (founding t.limit t.groups) key declared t.groups) t
evicted key declared t u v x full found one two =
    two ∙ (ap (λ (w : Table). with_groups (changed x.group ended w.groups) w) one
    ∙ (ap (λ gs. with_groups gs t) (changed_left ended t.groups (founded key declared ∷ []) x.group (idlest_within t.groups x found))
    ∙ ap (λ p. with_groups (with_placed p key declared t.groups) t) (sym founds)))
  where
    founds : founding t.limit t.groups ≡ Evicts x.group (length t.groups)
    founds = rw (test, sym found) refl
      where
        test : nat_lt (live_count t.groups) t.limit ≡ false
        test = grind (arith, nat_tests)

pub evicted_inside : (t u v : Table) (y : Kept) (a n : ℕ) → a < length t.groups → n ≡ length t.groups → u ≡ with_groups (t.groups ++ y ∷ []) t → v ≡ with_groups (changed a ended u.groups) u → (a < length v.groups) × (n < length v.groups)
evicted_inside t u v y a n h e one two =
    let long : length v.groups ≡ length t.groups + 1 = ap (λ (w : Table). length w.groups) two ∙ (changed_length a ended u.groups ∙ (ap (λ (w : Table). length w.groups) one ∙ length-append t.groups (y ∷ []))) in
    (omega arith, omega arith)
