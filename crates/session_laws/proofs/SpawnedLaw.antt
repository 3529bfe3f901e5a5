-- No start is spawned twice: each gets the number of those that were spawned before.
use Rattle.std.proofs.Common.{◌≡◌, ℕ, ◌+◌, ◌≤◌, Bool, true, false, ◌<◌, ◌==◌, ◌≢◌, nat_lt, List, [], ◌∷◌, ◌++◌, fold, map, if◌then◌else◌, refl, sym, ◌∙◌, ap, subst, arith}
use Rattle.std.proofs.lemmas.Bool.Decides.{nat_tests}
use Rattle.std.proofs.lemmas.List.Sums.{fold-append}
use Rattle.mux_history.specs.Cores.{spawns, spawns_of_outs}
use Rattle.mux_history.specs.declared.cause.Cause.{Cause}
use Rattle.mux_history.specs.declared.cause.Cause.TheVariants.{Joined}
use Rattle.mux_history.specs.declared.entry.Entry.{Entry}
use Rattle.mux_history.specs.declared.out.Out.{Out}
use Rattle.mux_history.specs.declared.out.Out.TheVariants.{ToEditor, ToServer, Spawn, CloseEditor, EndServer}
use Rattle.event_model.specs.Event.{Event, did, heard, said, with_cause, with_entry, events_of}
use Rattle.event_model.specs.Spawns.{starts_of, starts_behind}
use Rattle.mux_facts.proofs.Folds.{starts_more}
use Rattle.mux_facts.proofs.Words.{number_same, other_number}

-- how often a start was spawned
abbrev pub spawned_behind : ℕ → ℕ → Event → ℕ
spawned_behind s n (did (Spawn k g) m) = n + (if k == s then 1 else 0)
spawned_behind s n other = n

abbrev pub spawned : ℕ → List Event → ℕ
spawned s events = fold (spawned_behind s) 0 events

spawned_more : (s : ℕ) (events : List Event) (event : Event) → spawned s (events ++ event ∷ []) ≡ spawned_behind s (spawned s events) event
spawned_more s events event = fold-append (spawned_behind s) 0 events (event ∷ [])

pub heard_still : (s n : ℕ) (cause : Cause) → spawned_behind s n (heard cause) ≡ n
heard_still s n (Joined e) = refl
heard_still s n cause = refl

pub heard_starts : (n : ℕ) (cause : Cause) → starts_behind n (heard cause) ≡ n
heard_starts n (Joined e) = refl
heard_starts n cause = refl

-- over the entries of a history it is the same count

outs_count : (s n : ℕ) (outs : List Out) → fold (spawned_behind s) n (map said outs) ≡ n + spawns_of_outs s outs
outs_count s n [] = omega arith
outs_count s n (Spawn k g ∷ outs) = let r = outs_count s (n + (if k == s then 1 else 0)) outs in omega (arith, r)
outs_count s n (ToEditor e body ∷ outs) = let r = outs_count s n outs in omega (arith, r)
outs_count s n (ToServer k body ∷ outs) = let r = outs_count s n outs in omega (arith, r)
outs_count s n (CloseEditor e ∷ outs) = let r = outs_count s n outs in omega (arith, r)
outs_count s n (EndServer k ∷ outs) = let r = outs_count s n outs in omega (arith, r)

entry_count : (s : ℕ) (events : List Event) (entry : Entry) → spawned s (with_entry events entry) ≡ spawned s events + spawns_of_outs s entry.outs
entry_count s events entry = fold-append (spawned_behind s) 0 (with_cause events entry.cause) (map said entry.outs)
    ∙ (outs_count s (spawned s (with_cause events entry.cause)) entry.outs
    ∙ ap (λ n. n + spawns_of_outs s entry.outs) (spawned_more s events (heard entry.cause) ∙ heard_still s (spawned s events) entry.cause))

history_count : (s : ℕ) (history : List Entry) (events : List Event) → spawned s (fold with_entry events history) ≡ spawned s events + spawns s history
history_count s [] events = omega arith
history_count s (entry ∷ history) events = let r = history_count s history (with_entry events entry) in let e = entry_count s events entry in omega (arith, r, e)

-- a start whose number came was spawned once, and any other never
pub record Once (events : List Event) : Type 0 where
  pub earlier : (s : ℕ) → s < starts_of events → spawned s events ≡ 1
  pub later : (s : ℕ) → starts_of events ≤ s → spawned s events ≡ 0

pub none_spawned : Once []
none_spawned = record { earlier = λ s l. absurd (omega arith); later = λ s l. refl }

pub still : (events : List Event) (event : Event) → ((s n : ℕ) → spawned_behind s n event ≡ n) → ((n : ℕ) → starts_behind n event ≡ n) → Once events → Once (events ++ event ∷ [])
still events event f g h = record {
  earlier = λ s l. spawned_more s events event ∙ (f s (spawned s events) ∙ h.earlier s (subst (λ n. s < n) (starts_more events event ∙ g (starts_of events)) l));
  later = λ s l. spawned_more s events event ∙ (f s (spawned s events) ∙ h.later s (subst (λ n. n ≤ s) (starts_more events event ∙ g (starts_of events)) l));
}

apart : (n s : ℕ) → (n == s) ≡ false → n ≡ s → ⊥
apart n s e same = let equal : (n == s) ≡ true = grind (arith, nat_tests) in clash (sym e ∙ equal)
  where
    clash : false ≡ true → ⊥
    clash h = absurd cc

pub one_more : (events : List Event) (g : ℕ) → Once events → Once (events ++ said (Spawn (starts_of events) g) ∷ [])
one_more events g h = record {
  earlier = λ s l. spawned_more s events (said (Spawn (starts_of events) g)) ∙ once s (starts_of events == s) refl (subst (λ n. s < n) (starts_more events (said (Spawn (starts_of events) g))) l);
  later = λ s l. spawned_more s events (said (Spawn (starts_of events) g)) ∙ never s (subst (λ n. n ≤ s) (starts_more events (said (Spawn (starts_of events) g))) l);
}
  where
    once : (s : ℕ) (b : Bool) → (starts_of events == s) ≡ b → s < starts_of events + 1 → spawned s events + (if b then 1 else 0) ≡ 1
    once s true e l = let same : starts_of events ≡ s = number_same (starts_of events) s e in let none : spawned s events ≡ 0 = h.later s (omega arith) in omega (arith, none)
    once s false e l = let other : starts_of events ≢ s = apart (starts_of events) s e in let c : spawned s events ≡ 1 = h.earlier s (omega (arith, other)) in omega (arith, c)

    never : (s : ℕ) → starts_of events + 1 ≤ s → spawned s events + (if starts_of events == s then 1 else 0) ≡ 0
    never s l = let other : (starts_of events == s) ≡ false = other_number (starts_of events) s (omega arith) in
        let none : spawned s events ≡ 0 = h.later s (omega arith) in
        ap (λ b. spawned s events + (if b then 1 else 0)) other ∙ omega (arith, none)

-- so in the history
counted : (s : ℕ) (history : List Entry) → spawned s (events_of history) ≡ spawns s history
counted s history = let e : spawned s (events_of history) ≡ 0 + spawns s history = history_count s history [] in omega (arith, e)

pub counts_below : (history : List Entry) (s : ℕ) → Once (events_of history) → s < starts_of (events_of history) → spawns s history ≡ 1
counts_below history s h l = sym (counted s history) ∙ h.earlier s l

pub counts_above : (history : List Entry) (s : ℕ) → Once (events_of history) → starts_of (events_of history) ≤ s → spawns s history ≡ 0
counts_above history s h l = sym (counted s history) ∙ h.later s l

pub once_counts : (history : List Entry) (s : ℕ) → Once (events_of history) → spawns s history ≤ 1
once_counts history s h = go (nat_lt s (starts_of (events_of history))) refl
  where
    go : (b : Bool) → nat_lt s (starts_of (events_of history)) ≡ b → spawns s history ≤ 1
    go true e = let below : s < starts_of (events_of history) = grind (arith, nat_tests) in let one = counts_below history s h below in omega (arith, one)
    go false e = let above : starts_of (events_of history) ≤ s = grind (arith, nat_tests) in let none = counts_above history s h above in omega (arith, none)
