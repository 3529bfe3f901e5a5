-- The editors that outs go to: they rise, and which are among them.
use Rattle.std.proofs.Common.{◌≡◌, ℕ, ◌+◌, ◌<◌, ◌≤◌, Bool, true, false, ◌||◌, List, [], ◌∷◌, fold, nat_eq, refl, ◌∙◌, ap, arith}
use Rattle.std.specs.BTreeSet.{insert_key}
use Rattle.std.specs.Cmp.{ranks}
use Rattle.std.specs.List.{list_any}
use Rattle.std.specs.declared.cmp.Ordering.{Ordering}
use Rattle.std.specs.declared.cmp.Ordering.TheVariants.{Less, Equal, Greater}
use Rattle.std.specs.Ordering.{MatchOrdering, match_ordering, nat_cmp}
use Rattle.std.proofs.lemmas.Bool.Decides.{nat_tests}
use Rattle.event_model.proofs.Frames.{never}
use Rattle.mux_history.specs.declared.out.Out.{Out}
use Rattle.mux_history.specs.declared.out.Out.TheVariants.{ToEditor}
use Rattle.number_index.specs.Numbers.{with_number}
use Rattle.mux_slow.specs.Told.{told_in, told_next}

-- from this one on
abbrev pub Rises : ℕ → List ℕ → Type 0
Rises low [] = Unit {0}
Rises low (e ∷ es) = (low ≤ e) × Rises (e + 1) es

with_rises : (low n : ℕ) (es : List ℕ) → low ≤ n → Rises low es → Rises low (insert_key nat_cmp es n)
with_rises low n [] h r = (h, tt)
with_rises low n (e ∷ es) h r = go (nat_cmp n e) (ranks n e) (λ above. with_rises (e + 1) n es above r.1)
  where
    go : (o : Ordering) → MatchOrdering o (n < e) (n ≡ e) (e < n) → (e + 1 ≤ n → Rises (e + 1) (insert_key nat_cmp es n)) → Rises low (match_ordering o (n ∷ e ∷ es) (e ∷ es) (e ∷ insert_key nat_cmp es n))
    go Less k rest = (h, (omega (arith, k), r.1))
    go Equal k rest = r
    go Greater k rest = (r.0, rest (omega (arith, k)))

told_rises : (es : List ℕ) (outs : List Out) → Rises 0 es → Rises 0 (fold told_next es outs)
told_rises es [] r = r
told_rises es (ToEditor e body ∷ outs) r = told_rises (with_number e es) outs (with_rises 0 e es (omega arith) r)
told_rises es (other ∷ outs) r = told_rises es outs r

pub in_rises : (outs : List Out) → Rises 0 (told_in outs)
in_rises outs = told_rises [] outs tt

-- none is below the first one
pub below : (k low : ℕ) (es : List ℕ) → k < low → Rises low es → list_any (nat_eq k) es ≡ false
below k low [] h r = refl
below k low (e ∷ es) h r = go (nat_eq k e) refl (let first : low ≤ e = r.0 in below k (e + 1) es (omega (arith, h, first)) r.1)
  where
    go : (b : Bool) → nat_eq k e ≡ b → list_any (nat_eq k) es ≡ false → (b || list_any (nat_eq k) es) ≡ false
    go true same rest = absurd (let is : k ≡ e = grind (arith, nat_tests) in let first : low ≤ e = r.0 in omega (arith, is, h, first))
    go false other rest = rest

or_parts : (a b : Bool) → (a || b) ≡ false → (a ≡ false) × (b ≡ false)
or_parts true b h = never h
or_parts false b h = (refl, h)

-- which ones are among them
with_any : (k n : ℕ) (es : List ℕ) → list_any (nat_eq k) (insert_key nat_cmp es n) ≡ false → (nat_eq k n ≡ false) × (list_any (nat_eq k) es ≡ false)
with_any k n [] h = or_parts (nat_eq k n) false h
with_any k n (e ∷ es) h = go (nat_cmp n e) (ranks n e) (λ off. with_any k n es off) h
  where
    go : (o : Ordering) → MatchOrdering o (n < e) (n ≡ e) (e < n) → (list_any (nat_eq k) (insert_key nat_cmp es n) ≡ false → (nat_eq k n ≡ false) × (list_any (nat_eq k) es ≡ false)) → list_any (nat_eq k) (match_ordering o (n ∷ e ∷ es) (e ∷ es) (e ∷ insert_key nat_cmp es n)) ≡ false → (nat_eq k n ≡ false) × (list_any (nat_eq k) (e ∷ es) ≡ false)
    go Less below rest h = or_parts (nat_eq k n) (list_any (nat_eq k) (e ∷ es)) h
    go Equal same rest h = (ap (nat_eq k) same ∙ (or_parts (nat_eq k e) (list_any (nat_eq k) es) h).0, h)
    go Greater above rest h = let p = or_parts (nat_eq k e) (list_any (nat_eq k) (insert_key nat_cmp es n)) h in
        let q = rest p.1 in
        (q.0, both (nat_eq k e) (list_any (nat_eq k) es) p.0 q.1)
      where
        both : (a b : Bool) → a ≡ false → b ≡ false → (a || b) ≡ false
        both false b off rest = rest
        both true b off rest = never off

-- an out that doesn't go to it
abbrev pub IsElse : ℕ → Out → Type 0
IsElse k (ToEditor e body) = nat_eq e k ≡ false
IsElse k other = Unit {0}

abbrev pub AllElse : ℕ → List Out → Type 0
AllElse k [] = Unit {0}
AllElse k (out ∷ outs) = IsElse k out × AllElse k outs

turned : (k e : ℕ) → nat_eq k e ≡ false → nat_eq e k ≡ false
turned k e h = grind (arith, nat_tests)

else_from : (k : ℕ) (es : List ℕ) (outs : List Out) → list_any (nat_eq k) (fold told_next es outs) ≡ false → (list_any (nat_eq k) es ≡ false) × AllElse k outs
else_from k es [] h = (h, tt)
else_from k es (ToEditor e body ∷ outs) h = let r = else_from k (with_number e es) outs h in let p = with_any k e es r.0 in (p.1, (turned k e p.0, r.1))
else_from k es (other ∷ outs) h = let r = else_from k es outs h in (r.0, (tt, r.1))

-- of one that isn't among them none goes to it
pub else_of : (k : ℕ) (outs : List Out) → list_any (nat_eq k) (told_in outs) ≡ false → AllElse k outs
else_of k outs h = (else_from k [] outs h).1
