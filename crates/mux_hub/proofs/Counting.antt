-- The count of causes and outs: behind one more entry, and where it would be too great.
use Rattle.std.proofs.Common.{◌≡◌, ℕ, ◌+◌, ◌≤◌, Bool, true, false, List, [], ◌∷◌, ◌++◌, length, map, nat_lt, if◌then◌else◌, refl, ap, ap₂, sym, ◌∙◌, arith, length-append}
use Rattle.std.specs.Prelude.{Some, None}
use Rattle.std.proofs.lemmas.Bool.Decides.{nat_tests}
use Rattle.std.proofs.lemmas.List.{length-map}
use Rattle.std.proofs.lemmas.List.Sums.{fold-append}
use Rattle.mux_history.specs.declared.cause.Cause.{Cause}
use Rattle.mux_history.specs.declared.entry.Entry.{Entry}
use Rattle.mux_history.specs.declared.out.Out.{Out}
use Rattle.event_model.specs.Event.{heard, said, with_cause, with_entry, events_of}
use Rattle.event_model.specs.Settings.{Settings}
use Rattle.mux_hub.specs.Entries.{emits, most_events, passes}

-- one more entry is its cause and its outs
pub entry_counts : (history : List Entry) (entry : Entry) → length (events_of (history ++ entry ∷ [])) ≡ length (events_of history) + (1 + length entry.outs)
entry_counts history entry =
    let f : events_of (history ++ entry ∷ []) ≡ with_entry (events_of history) entry = fold-append with_entry [] history (entry ∷ []) in
    let a : length (with_entry (events_of history) entry) ≡ length (with_cause (events_of history) entry.cause) + length (map said entry.outs) = length-append (with_cause (events_of history) entry.cause) (map said entry.outs) in
    let b : length (with_cause (events_of history) entry.cause) ≡ length (events_of history) + 1 = length-append (events_of history) (heard entry.cause ∷ []) in
    let m : length (map said entry.outs) ≡ length entry.outs = length-map entry.outs said in
    ap length f ∙ omega (arith, a, b, m)

-- the answer of the count
pub at_most : (n m : ℕ) → Some m ≡ (if nat_lt most_events n then None else Some n) → (m ≡ n) × (nat_lt most_events n ≡ false)
at_most n m e = go (nat_lt most_events n) refl e
  where
    go : (b : Bool) → nat_lt most_events n ≡ b → Some m ≡ (if b then None else Some n) → (m ≡ n) × (nat_lt most_events n ≡ false)
    go true t s = absurd cc
    go false t s = (cc, t)

pub too_many : (n : ℕ) → None ≡ (if nat_lt most_events n then None else Some n) → nat_lt most_events n ≡ true
too_many n e = go (nat_lt most_events n) refl e
  where
    go : (b : Bool) → nat_lt most_events n ≡ b → None ≡ (if b then None else Some n) → nat_lt most_events n ≡ true
    go true t s = t
    go false t s = absurd cc

pub few_of : (n : ℕ) → nat_lt most_events n ≡ false → n ≤ most_events
few_of n e = grind (arith, nat_tests)

-- what is counted is what the history has
pub passes_by : (settings : Settings) (history : List Entry) (cause : Cause) (events : ℕ) (xs : List Out) (b : Bool) → events ≡ length (events_of history) → xs ≡ emits settings history cause → nat_lt most_events (events + (1 + length xs)) ≡ b
    → passes settings history cause ≡ b
passes_by settings history cause events xs b e x p = ap₂ (λ n (ys : List Out). nat_lt most_events (n + (1 + length ys))) (sym e) (sym x) ∙ p
