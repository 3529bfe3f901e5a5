-- One entry more.
use Rattle.std.proofs.Common.{◌≡◌, ◌≢◌, ℕ, ◌+◌, ◌<◌, ◌≤◌, ◌==◌, if◌then◌else◌, List, [], ◌∷◌, ◌++◌, Bool, true, false, ◌||◌, ⊎_elim, ◌⊎◌, inl, inr, zero, suc, subst, sym, refl, ap, ◌∙◌, arith}
use Rattle.std.proofs.lemmas.Bool.Decides.{eqb_tells}
use Rattle.mux_history.specs.declared.entry.Entry.{Entry}
use Rattle.mux_history.specs.Cores.{joined, joins, spawns, spawns_of_outs}
use Rattle.mux_history.specs.declared.out.Out.{Out}
use Rattle.mux_history.specs.Cores.{spawns_of_out}
use Rattle.lane_echo.specs.Stops.{Spawned, has_stop, is_start, is_stop, spawns_by, starts_of}

pub joined_more : (history : List Entry) (entry : Entry) → joined (history ++ entry ∷ []) ≡ joined history + joins entry.cause
joined_more [] entry = omega arith
joined_more (e ∷ history) entry = let more = joined_more history entry in omega (arith, more)

pub spawns_more : (s : ℕ) (history : List Entry) (entry : Entry) → spawns s (history ++ entry ∷ []) ≡ spawns s history + spawns_of_outs s entry.outs
spawns_more s [] entry = omega arith
spawns_more s (e ∷ history) entry = let more = spawns_more s history entry in omega (arith, more)

or_false : (b : Bool) → (b || false) ≡ b
or_false true = refl
or_false false = refl

or_more : (a b c : Bool) → (a || (b || c)) ≡ ((a || b) || c)
or_more true b c = refl
or_more false b c = refl

pub stop_more : (history : List Entry) (entry : Entry) → has_stop (history ++ entry ∷ []) ≡ (has_stop history || is_stop entry.cause)
stop_more [] entry = or_false (is_stop entry.cause)
stop_more (e ∷ history) entry = ap (λ b. is_stop e.cause || b) (stop_more history entry) ∙ or_more (is_stop e.cause) (has_stop history) (is_stop entry.cause)

or_right : (a b : Bool) → b ≡ true → (a || b) ≡ true
or_right true b e = refl
or_right false b e = e

or_left : (a b : Bool) → a ≡ true → (a || b) ≡ true
or_left true b e = refl
or_left false b e = absurd cc

pub stop_asked : (history : List Entry) (entry : Entry) → is_stop entry.cause ≡ true → has_stop (history ++ entry ∷ []) ≡ true
stop_asked history entry e = stop_more history entry ∙ or_right (has_stop history) (is_stop entry.cause) e

pub stop_stays : (history : List Entry) (entry : Entry) → has_stop history ≡ true → has_stop (history ++ entry ∷ []) ≡ true
stop_stays history entry e = stop_more history entry ∙ or_left (has_stop history) (is_stop entry.cause) e

pub spawns_one : (s : ℕ) (outs : List Out) (o : Out) → spawns_of_outs s (outs ++ o ∷ []) ≡ spawns_of_outs s outs + spawns_of_out s o
spawns_one s [] o = omega arith
spawns_one s (x ∷ outs) o = let more = spawns_one s outs o in omega (arith, more)

-- two outs more, neither of which spawns a start
pub spawns_two : (s : ℕ) (outs : List Out) (o p : Out) → spawns_of_outs s ((outs ++ o ∷ []) ++ p ∷ []) ≡ (spawns_of_outs s outs + spawns_of_out s o) + spawns_of_out s p
spawns_two s outs o p = let one = spawns_one s outs o in let two = spawns_one s (outs ++ o ∷ []) p in omega (arith, one, two)

-- where so many starts were spawned, a cause spawns the next one or none
once_by : (count s before : ℕ) (b : Bool) → (s < count → before ≡ 1) → (count ≤ s → before ≡ 0) → s < count + (if b then 1 else 0) → before + (if b then (if count == s then 1 else 0) else 0) ≡ 1
once_by count s before false one none h = let o = one (omega (arith, h)) in omega (arith, o)
once_by count s before true one none h = ⊎_elim
    (λ (t : ((count == s) ≡ true) × (count ≡ s)). let o = none (omega (arith, t.1)) in ap (λ (c : Bool). before + (if c then 1 else 0)) t.0 ∙ omega (arith, o))
    (λ (t : ((count == s) ≡ false) × (count ≢ s)). let o = one (omega (arith, h, t.1)) in ap (λ (c : Bool). before + (if c then 1 else 0)) t.0 ∙ omega (arith, o))
    (eqb_tells count s)

none_by : (count s before : ℕ) (b : Bool) → (count ≤ s → before ≡ 0) → count + (if b then 1 else 0) ≤ s → before + (if b then (if count == s then 1 else 0) else 0) ≡ 0
none_by count s before false none h = let o = none (omega (arith, h)) in omega (arith, o)
none_by count s before true none h = ⊎_elim
    (λ (t : ((count == s) ≡ true) × (count ≡ s)). absurd (omega (arith, h, t.1)))
    (λ (t : ((count == s) ≡ false) × (count ≢ s)). let o = none (omega (arith, h)) in ap (λ (c : Bool). before + (if c then 1 else 0)) t.0 ∙ omega (arith, o))
    (eqb_tells count s)

pub spawned_more : (count : ℕ) (history : List Entry) (entry : Entry) → Spawned count history → ((s : ℕ) → spawns_of_outs s entry.outs ≡ spawns_by count entry.cause s) → Spawned (count + starts_of entry.cause) (history ++ entry ∷ [])
spawned_more count history entry f by = record {
  once = λ s h. spawns_more s history entry ∙ ap (λ n. spawns s history + n) (by s) ∙ once_by count s (spawns s history) (is_start entry.cause) (f.once s) (f.none s) h;
  none = λ s h. spawns_more s history entry ∙ ap (λ n. spawns s history + n) (by s) ∙ none_by count s (spawns s history) (is_start entry.cause) (f.none s) h;
}

pub spawned_next : (count next : ℕ) (history : List Entry) (entry : Entry) → next ≡ count + starts_of entry.cause → Spawned count history → ((s : ℕ) → spawns_of_outs s entry.outs ≡ spawns_by count entry.cause s) → Spawned next (history ++ entry ∷ [])
spawned_next count next history entry is f by = subst (λ (n : ℕ). Spawned n (history ++ entry ∷ [])) (sym is) (spawned_more count history entry f by)

below_or : (s count : ℕ) → (s < count) ⊎ (count ≤ s)
below_or s zero = inr (omega arith)
below_or zero (suc count) = inl (omega arith)
below_or (suc s) (suc count) = ⊎_elim (λ h. inl (omega (arith, h))) (λ h. inr (omega (arith, h))) (below_or s count)

-- none was spawned twice
pub once_only : (count s : ℕ) (history : List Entry) → Spawned count history → spawns s history ≤ 1
once_only count s history f = ⊎_elim (λ h. let o = f.once s h in omega (arith, o)) (λ h. let o = f.none s h in omega (arith, o)) (below_or s count)
