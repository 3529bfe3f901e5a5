-- Requests whose numbers rise: one that comes, one that is taken, one that is marked.
use Rattle.std.proofs.Common.{◌≡◌, ℕ, ◌+◌, ◌<◌, ◌≤◌, Bool, true, false, cond, not, List, [], ◌∷◌, ◌++◌, nat_eq, refl, sym, ap, subst, arith}
use Rattle.std.proofs.lemmas.Bool.Decides.{nat_tests}
use Rattle.id_rewrite.specs.declared.pending.Pending.{Pending}
use Rattle.id_rewrite.specs.declared.pending.Numbered.{Numbered}
use Rattle.id_rewrite.specs.Tables.{IsInOrder, RiseWithin, Table, cancelled, has_number, with_cancelled, without}

pub lower : (from more to : ℕ) (rs : List Numbered) → from ≤ more → RiseWithin more to rs → RiseWithin from to rs
lower from more to [] l rise = omega arith
lower from more to (r ∷ rs) l rise = (let first = rise.0 in omega arith, rise.1)

pushed : (from to : ℕ) (rs : List Numbered) (p : Pending) → RiseWithin from to rs → RiseWithin from (to + 1) (rs ++ record { number = to; pending = p } ∷ [])
pushed from to [] p rise = (rise, omega arith)
pushed from to (r ∷ rs) p rise = (rise.0, pushed (r.number + 1) to rs p rise.1)

pub other : (n m : ℕ) → n < m → nat_eq m n ≡ false
other n m l = grind (arith, nat_tests)

pub less : (n m : ℕ) → n < m → nat_eq n m ≡ false
less n m l = grind (arith, nat_tests)

pub same : (n m : ℕ) → nat_eq m n ≡ true → m ≡ n
same n m e = grind (arith, nat_tests)

pub itself : (n : ℕ) → nat_eq n n ≡ true
itself n = grind (arith, nat_tests)

-- a number below all isn't there
pub below_without : (n from to : ℕ) (rs : List Numbered) → n < from → RiseWithin from to rs → without n rs ≡ rs
below_without n from to [] l rise = refl
below_without n from to (r ∷ rs) l rise =
    let first = rise.0 in
    subst (λ b. cond (not b) (r ∷ without n rs) (without n rs) ≡ r ∷ rs) (sym (other n r.number (omega arith))) (ap (λ qs. r ∷ qs) (below_without n (r.number + 1) to rs (omega arith) rise.1))

pub below_marked : (n from to : ℕ) (rs : List Numbered) → n < from → RiseWithin from to rs → with_cancelled n rs ≡ rs
below_marked n from to [] l rise = refl
below_marked n from to (r ∷ rs) l rise =
    let first = rise.0 in
    subst (λ b. cond b (cancelled r) r ∷ with_cancelled n rs ≡ r ∷ rs) (sym (other n r.number (omega arith))) (ap (λ qs. r ∷ qs) (below_marked n (r.number + 1) to rs (omega arith) rise.1))

rise_without : (n from to : ℕ) (rs : List Numbered) → RiseWithin from to rs → RiseWithin from to (without n rs)
rise_without n from to [] rise = rise
rise_without n from to (r ∷ rs) rise = go (has_number n r) (rise_without n (r.number + 1) to rs rise.1)
  where
    go : (b : Bool) → RiseWithin (r.number + 1) to (without n rs) → RiseWithin from to (cond (not b) (r ∷ without n rs) (without n rs))
    go true rest = let first = rise.0 in lower from (r.number + 1) to (without n rs) (omega arith) rest
    go false rest = (rise.0, rest)

rise_marked : (n from to : ℕ) (rs : List Numbered) → RiseWithin from to rs → RiseWithin from to (with_cancelled n rs)
rise_marked n from to [] rise = rise
rise_marked n from to (r ∷ rs) rise = go (has_number n r) (rise_marked n (r.number + 1) to rs rise.1)
  where
    go : (b : Bool) → RiseWithin (r.number + 1) to (with_cancelled n rs) → RiseWithin from to (cond b (cancelled r) r ∷ with_cancelled n rs)
    go true rest = (rise.0, rest)
    go false rest = (rise.0, rest)

-- the order of a table stays
abbrev of : List Numbered → ℕ → ℕ → ℕ → Table
of rs next limit spare = record { requests = rs; next = next; limit = limit; spare = spare }

pub put_in_order : (rs qs : List Numbered) (next limit spare spare' : ℕ) (p : Pending) → IsInOrder (of rs next limit spare) → next < limit → qs ≡ rs ++ record { number = next; pending = p } ∷ [] → IsInOrder (of qs (next + 1) limit spare')
put_in_order rs qs next limit spare spare' p order l e = record { rising = subst (RiseWithin 2 (next + 1)) (sym e) (pushed 2 next rs p order.rising); within = omega arith }

pub taken_in_order : (rs qs : List Numbered) (next limit spare spare' n : ℕ) → IsInOrder (of rs next limit spare) → qs ≡ without n rs → IsInOrder (of qs next limit spare')
taken_in_order rs qs next limit spare spare' n order e = record { rising = subst (RiseWithin 2 next) (sym e) (rise_without n 2 next rs order.rising); within = order.within }

pub marked_in_order : (rs qs : List Numbered) (next limit spare spare' n : ℕ) → IsInOrder (of rs next limit spare) → qs ≡ with_cancelled n rs → IsInOrder (of qs next limit spare')
marked_in_order rs qs next limit spare spare' n order e = record { rising = subst (RiseWithin 2 next) (sym e) (rise_marked n 2 next rs order.rising); within = order.within }
