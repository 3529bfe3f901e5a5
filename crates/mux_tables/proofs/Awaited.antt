-- The starts whose answer to `shutdown` is awaited, one event further.
use Rattle.std.proofs.Common.{◌≡◌, ℕ, zero, suc, ◌+◌, ◌<◌, ◌≤◌, Bool, true, false, not, ◌&&◌, cond, List, [], ◌∷◌, ◌++◌, filter, get_or, length, nat_eq, nat_lt, codes, if◌then◌else◌, inl, inr, refl, ap, sym, subst, ◌∙◌, arith, append-nil}
use Rattle.std.specs.List.{AllByRecursion, insert, range_with_len}
use Rattle.std.specs.List.Sorted.{IsPartitionPoint, IsPartitionedBy}
use Rattle.std.proofs.lemmas.Bool.{cases_lt, ne_eqb}
use Rattle.std.proofs.lemmas.Bool.Decides.{nat_tests}
use Rattle.std.proofs.lemmas.List.{length-append}
use Rattle.std.proofs.lemmas.List.Elements.{filter-append}
use Rattle.mux_history.specs.declared.out.Out.TheVariants.{ToServer, Spawn}
use Rattle.rpc_message.specs.Message.{Message, message_of}
use Rattle.event_model.specs.declared.stage.Stage.{Stage}
use Rattle.event_model.specs.declared.stage.Stage.TheVariants.{Initializing, Ready, Spawning, Stopping}
use Rattle.event_model.specs.Event.{Event, did, requests, said}
use Rattle.event_model.specs.Spawns.{starts_behind, starts_of}
use Rattle.event_model.specs.Stages.{Life, is_first_result, life_behind, life_of, stage_hears, stage_started, stage_told}
use Rattle.event_model.proofs.Frames.{never, one_more}
use Rattle.group_laws.specs.mux_model.specs.Rows.{below}
use Rattle.group_laws.specs.group_rows.specs.Ticks.{is_stopping, stopping_of}
use Rattle.group_laws.specs.group_rows.proofs.Stops.{filter_both, range_below}
use Rattle.mux_tables.specs.declared.tables.Tables.{Tables}
use Rattle.mux_tables.specs.Stands.{unstopped}
use Rattle.mux_tables.proofs.Frames.{itself, life_alone, names_start, spawns, starts_alone}

number_same : (m n : ℕ) → nat_eq m n ≡ true → m ≡ n
number_same m n h = grind (arith, nat_tests)

-- two tests that agree
pub filter_agree : (p q : ℕ → Bool) → ((n : ℕ) → p n ≡ q n) → (xs : List ℕ) → filter p xs ≡ filter q xs
filter_agree p q same [] = refl
filter_agree p q same (x ∷ xs) = ap (λ b. cond b (x ∷ filter p xs) (filter p xs)) (same x) ∙ ap (λ ys. cond (q x) (x ∷ ys) ys) (filter_agree p q same xs)

abbrev stops_at : ℕ → List Event → Bool
stops_at n events = is_stopping (life_of n events).stage

module _ (events : List Event) (ev : Event) where
  abbrev later : List Event
  later = events ++ ev ∷ []

  stops_by : (n : ℕ) → stops_at n later ≡ is_stopping (life_behind n (life_of n events) ev).stage
  stops_by n = ap (λ (l : Life). is_stopping l.stage) (one_more (life_behind n) _ _ events ev refl)

  by_tests : (p : ℕ → Bool) → spawns ev ≡ false → ((n : ℕ) → is_stopping (life_behind n (life_of n events) ev).stage ≡ p n) → stopping_of later ≡ filter p (range_with_len 0 (starts_of events))
  by_tests p k same = ap (λ m. filter (λ n. stops_at n later) (range_with_len 0 m)) (one_more starts_behind _ _ events ev refl ∙ starts_alone _ ev k)
      ∙ filter_agree (λ n. stops_at n later) p (λ n. stops_by n ∙ same n) (range_with_len 0 (starts_of events))

  -- none begins or ceases to be awaited
  pub stopping_more : spawns ev ≡ false → ((n : ℕ) → is_stopping (life_behind n (life_of n events) ev).stage ≡ stops_at n events) → stopping_of later ≡ stopping_of events
  stopping_more k same = by_tests (λ n. stops_at n events) k same

  -- that of one start isn't awaited any more
  pub stopping_less : (n : ℕ) → spawns ev ≡ false → ((m : ℕ) → names_start m ev ≡ nat_eq n m) → is_stopping (life_behind n (life_of n events) ev).stage ≡ false → stopping_of later ≡ unstopped n (stopping_of events)
  stopping_less n k one over = by_tests (λ m. stops_at m events && not (nat_eq n m)) k (λ m. go m (nat_eq n m) refl)
      ∙ sym (filter_both (λ m. not (nat_eq n m)) (λ m. stops_at m events) (range_with_len 0 (starts_of events)))
    where
      and_off : (b : Bool) → false ≡ (b && false)
      and_off true = refl
      and_off false = refl

      and_on : (b : Bool) → b ≡ (b && true)
      and_on true = refl
      and_on false = refl

      go : (m : ℕ) (b : Bool) → nat_eq n m ≡ b → is_stopping (life_behind m (life_of m events) ev).stage ≡ (stops_at m events && not b)
      go m true same = subst (λ i. is_stopping (life_behind i (life_of i events) ev).stage ≡ false) (number_same n m same) over ∙ and_off (stops_at m events)
      go m false other = ap (λ (l : Life). is_stopping l.stage) (life_alone m (life_of m events) ev (one m ∙ other)) ∙ and_on (stops_at m events)

-- what moves the list that is kept
abbrev pub StopsMove : Tables → Tables → List Event → Event → Type 0
StopsMove t u events ev = stopping_of events ≡ t.origins.stopping.items → stopping_of (events ++ ev ∷ []) ≡ u.origins.stopping.items

pub stops_kept : (t u : Tables) (events : List Event) (ev : Event) → u.origins.stopping ≡ t.origins.stopping → spawns ev ≡ false → ((n : ℕ) → is_stopping (life_behind n (life_of n events) ev).stage ≡ stops_at n events) → StopsMove t u events ev
stops_kept t u events ev os k same h = stopping_more events ev k same ∙ h ∙ ap (λ v. v.items) (sym os)

-- a start begins, gives its first result, or is told something else than `shutdown`
pub same_either : (b : Bool) (x y : Life) → is_stopping x.stage ≡ is_stopping y.stage → is_stopping (if b then x else y).stage ≡ is_stopping y.stage
same_either true x y h = h
same_either false x y h = refl

pub started_same : (stage : Stage) → is_stopping (stage_started stage) ≡ is_stopping stage
started_same Spawning = refl
started_same other = refl

pub hears_same : (stage : Stage) (m : Message) → is_stopping (stage_hears stage m) ≡ is_stopping stage
hears_same Initializing m = go (is_first_result m)
  where
    go : (b : Bool) → is_stopping (if b then Ready else Initializing) ≡ false
    go true = refl
    go false = refl
hears_same other m = refl

pub told_same : (stage : Stage) (m : Message) → requests (codes "shutdown") m ≡ false → is_stopping (stage_told stage m) ≡ is_stopping stage
told_same Ready m h = ap (λ b. is_stopping (if b then Stopping else Ready)) h
told_same other m h = refl

pub told_stops : (t u : Tables) (events : List Event) (s : ℕ) (body : List ℕ) → u.origins.stopping ≡ t.origins.stopping → requests (codes "shutdown") (message_of body) ≡ false → StopsMove t u events (said (ToServer s body))
told_stops t u events s body os quiet = stops_kept t u events (said (ToServer s body)) os refl
    (λ n. same_either (nat_eq s n) (record { stage = stage_told (life_of n events).stage (message_of body); started = (life_of n events).started }) (life_of n events) (told_same (life_of n events).stage (message_of body) quiet))

-- A start is sent `shutdown`

-- the list of one more, which has its place among these
record Split (p q : ℕ → Bool) (n : ℕ) (xs : List ℕ) : Type 0 where
  low : List ℕ
  high : List ℕ
  old : filter p xs ≡ low ++ high
  new : filter q xs ≡ low ++ n ∷ high
  under : AllByRecursion (λ k. k < n) low
  over : AllByRecursion (λ k. n < k) high

module _ (p q : ℕ → Bool) (n : ℕ) (off : p n ≡ false) (on : q n ≡ true) (others : (k : ℕ) → nat_eq n k ≡ false → q k ≡ p k) where
  apart : (k : ℕ) → (n ≡ k → ⊥) → nat_eq n k ≡ false
  apart k less = ne_eqb n k less

  above_all : (a m : ℕ) → n < a → AllByRecursion (λ k. n < k) (filter p (range_with_len a m))
  above_all a zero less = tt
  above_all a (suc m) less = go (p a) (above_all (a + 1) m (omega (arith, less)))
    where
      go : (b : Bool) → AllByRecursion (λ k. n < k) (filter p (range_with_len (a + 1) m)) → AllByRecursion (λ k. n < k) (cond b (a ∷ filter p (range_with_len (a + 1) m)) (filter p (range_with_len (a + 1) m)))
      go true rest = (less, rest)
      go false rest = rest

  above_same : (a m : ℕ) → n < a → filter q (range_with_len a m) ≡ filter p (range_with_len a m)
  above_same a zero less = refl
  above_same a (suc m) less = ap (λ b. cond b (a ∷ filter q (range_with_len (a + 1) m)) (filter q (range_with_len (a + 1) m))) (others a (apart a (λ is. omega (arith, is, less))))
      ∙ ap (λ ys. cond (p a) (a ∷ ys) ys) (above_same (a + 1) m (omega (arith, less)))

  split_here : (a m : ℕ) → a ≡ n → Split p q n (range_with_len a (suc m))
  split_here a m at = record {
    low = [];
    high = filter p (range_with_len (a + 1) m);
    old = ap (λ b. cond b (a ∷ filter p (range_with_len (a + 1) m)) (filter p (range_with_len (a + 1) m))) (ap p at ∙ off);
    new = ap (λ b. cond b (a ∷ filter q (range_with_len (a + 1) m)) (filter q (range_with_len (a + 1) m))) (ap q at ∙ on)
        ∙ ap (λ ys. a ∷ ys) (above_same (a + 1) m (omega (arith, at))) ∙ ap (λ k. k ∷ filter p (range_with_len (a + 1) m)) at;
    under = tt;
    over = above_all (a + 1) m (omega (arith, at));
  }

  split_next : (a m : ℕ) → a < n → Split p q n (range_with_len (a + 1) m) → Split p q n (range_with_len a (suc m))
  split_next a m less k = go (p a) (others a (apart a (λ is. omega (arith, is, less)))) refl
    where
      go : (b : Bool) → q a ≡ p a → p a ≡ b → Split p q n (range_with_len a (suc m))
      go true same is = record {
        low = a ∷ k.low;
        high = k.high;
        old = ap (λ c. cond c (a ∷ filter p (range_with_len (a + 1) m)) (filter p (range_with_len (a + 1) m))) is ∙ ap (λ ys. a ∷ ys) k.old;
        new = ap (λ c. cond c (a ∷ filter q (range_with_len (a + 1) m)) (filter q (range_with_len (a + 1) m))) (same ∙ is) ∙ ap (λ ys. a ∷ ys) k.new;
        under = (less, k.under);
        over = k.over;
      }
      go false same is = record {
        low = k.low;
        high = k.high;
        old = ap (λ c. cond c (a ∷ filter p (range_with_len (a + 1) m)) (filter p (range_with_len (a + 1) m))) is ∙ k.old;
        new = ap (λ c. cond c (a ∷ filter q (range_with_len (a + 1) m)) (filter q (range_with_len (a + 1) m))) (same ∙ is) ∙ k.new;
        under = k.under;
        over = k.over;
      }

  split_in : (a m : ℕ) → a ≤ n → n < a + m → Split p q n (range_with_len a m)
  split_in a zero low high = absurd (omega (arith, low, high))
  split_in a (suc m) low high = go (nat_eq a n) refl (λ l. split_in (a + 1) m (omega (arith, l)) (omega (arith, high)))
    where
      less : (a ≡ n → ⊥) → a < n
      less f = omega (arith, low, f)

      go : (b : Bool) → nat_eq a n ≡ b → (a < n → Split p q n (range_with_len (a + 1) m)) → Split p q n (range_with_len a (suc m))
      go true same rest = split_here a m (number_same a n same)
      go false other rest = let l = less (λ is. never (sym (subst (λ k. nat_eq a k ≡ true) is (itself a)) ∙ other)) in split_next a m l (rest l)

-- the starts that are awaited before this one is, and with it
pub record Added (events : List Event) (n : ℕ) (body : List ℕ) : Type 0 where
  pub low : List ℕ
  pub high : List ℕ
  pub was : stopping_of events ≡ low ++ high
  pub now : stopping_of (events ++ said (ToServer n body) ∷ []) ≡ low ++ n ∷ high
  pub under : AllByRecursion (λ k. k < n) low
  pub over : AllByRecursion (λ k. n < k) high

-- each start's answer is awaited, where this body goes to one
abbrev stops_told : List Event → ℕ → List ℕ → ℕ → Bool
stops_told events n body m = is_stopping (life_behind m (life_of m events) (said (ToServer n body))).stage

told_here : (events : List Event) (n : ℕ) (body : List ℕ) → (life_of n events).stage ≡ Ready → requests (codes "shutdown") (message_of body) ≡ true → stops_told events n body n ≡ true
told_here events n body ready asks = ap (λ b. is_stopping (if b then record { stage = stage_told (life_of n events).stage (message_of body); started = (life_of n events).started } else life_of n events).stage) (itself n)
    ∙ ap (λ z. is_stopping (stage_told z (message_of body))) ready ∙ ap (λ b. is_stopping (if b then Stopping else Ready)) asks

told_others : (events : List Event) (n : ℕ) (body : List ℕ) (m : ℕ) → nat_eq n m ≡ false → stops_told events n body m ≡ stops_at m events
told_others events n body m other = ap (λ (l : Life). is_stopping l.stage) (life_alone m (life_of m events) (said (ToServer n body)) other)

pub stop_added : (events : List Event) (n : ℕ) (body : List ℕ) → n < starts_of events → (life_of n events).stage ≡ Ready → requests (codes "shutdown") (message_of body) ≡ true → Added events n body
stop_added events n body there ready asks =
    let k : Split (λ m. stops_at m events) (stops_told events n body) n (range_with_len 0 (starts_of events)) =
    split_in (λ m. stops_at m events) (stops_told events n body) n (ap is_stopping ready) (told_here events n body ready asks) (told_others events n body) 0 (starts_of events) (omega arith) (omega (arith, there)) in
    record { low = k.low; high = k.high; was = k.old; now = by_tests events (said (ToServer n body)) (stops_told events n body) refl (λ m. refl) ∙ k.new; under = k.under; over = k.over }

-- A start is spawned

abbrev spawned_at : List Event → ℕ → ℕ → Message → List Event
spawned_at events n g m = events ++ did (Spawn n g) m ∷ []

spawned_same : (events : List Event) (n g : ℕ) (m : Message) → is_stopping (life_of n events).stage ≡ false → (i : ℕ) → is_stopping (life_behind i (life_of i events) (did (Spawn n g) m)).stage ≡ stops_at i events
spawned_same events n g m off i = go (nat_eq n i) refl
  where
    go : (b : Bool) → nat_eq n i ≡ b → is_stopping (if b then record { stage = Spawning; started = false } else life_of i events).stage ≡ stops_at i events
    go true same = sym off ∙ ap (λ k. stops_at k events) (number_same n i same)
    go false other = refl

pub stopping_spawned : (events : List Event) (n g : ℕ) (m : Message) → starts_of events ≡ n → is_stopping (life_of n events).stage ≡ false → stopping_of (events ++ did (Spawn n g) m ∷ []) ≡ stopping_of events
stopping_spawned events n g m next off =
    let count : starts_of (spawned_at events n g m) ≡ suc n = one_more starts_behind _ _ events (did (Spawn n g) m) next ∙ omega arith in
    ap (λ k. filter (λ i. stops_at i (spawned_at events n g m)) (range_with_len 0 k)) count
    ∙ ap (filter (λ i. stops_at i (spawned_at events n g m))) (range_below (suc n)) ∙ filter-append (λ i. stops_at i (spawned_at events n g m)) (below n) (n ∷ [])
    ∙ ap (λ b. filter (λ i. stops_at i (spawned_at events n g m)) (below n) ++ cond b (n ∷ []) []) (stops_by events (did (Spawn n g) m) n ∙ spawned_same events n g m off n ∙ off)
    ∙ append-nil (filter (λ i. stops_at i (spawned_at events n g m)) (below n))
    ∙ filter_agree (λ i. stops_at i (spawned_at events n g m)) (λ i. stops_at i events) (λ i. stops_by events (did (Spawn n g) m) i ∙ spawned_same events n g m off i) (below n)
    ∙ ap (filter (λ i. stops_at i events)) (sym (range_below n)) ∙ ap (λ k. filter (λ i. stops_at i events) (range_with_len 0 k)) (sym next)

-- One that goes to its place in the list

module _ (s : ℕ) where
  under_at : (low high : List ℕ) (i d : ℕ) → AllByRecursion (λ k. k < s) low → i < length low → get_or (low ++ high) i d < s
  under_at [] high i d h within = absurd (omega (arith, within))
  under_at (x ∷ low) high zero d h within = h.0
  under_at (x ∷ low) high (suc i) d h within = under_at low high i d h.1 (omega (arith, within))

  over_at : (low high : List ℕ) (i d : ℕ) → AllByRecursion (λ k. s < k) high → length low ≤ i → i < length (low ++ high) → s < get_or (low ++ high) i d
  over_at [] [] i d h past within = absurd (omega (arith, within))
  over_at [] (x ∷ high) zero d h past within = h.0
  over_at [] (x ∷ high) (suc i) d h past within = over_at [] high i d h.1 (omega arith) (omega (arith, within))
  over_at (x ∷ low) high zero d h past within = absurd (omega (arith, past))
  over_at (x ∷ low) high (suc i) d h past within = over_at low high i d h (omega (arith, past)) (omega (arith, within))

  parted : (low high : List ℕ) → AllByRecursion (λ k. k < s) low → AllByRecursion (λ k. s < k) high → IsPartitionedBy (λ n. nat_lt n s) (low ++ high)
  parted low high under over i j d le within pass = elim (cases_lt i (length low)) [
    | inl l ↦ let less : get_or (low ++ high) i d < s = under_at low high i d under l in grind (arith, nat_tests)
    | inr l ↦ absurd (let more : s < get_or (low ++ high) j d = over_at low high j d over (omega (arith, l, le)) within in let less : get_or (low ++ high) j d < s = lower (get_or (low ++ high) j d) pass in omega (arith, more, less))
  ]
    where
      lower : (n : ℕ) → nat_lt n s ≡ true → n < s
      lower n h = grind (arith, nat_tests)

  place_is : (low high : List ℕ) (at : ℕ) → AllByRecursion (λ k. k < s) low → AllByRecursion (λ k. s < k) high → at ≤ length (low ++ high) → IsPartitionPoint (λ n. nat_lt n s ≡ true) (λ n. nat_lt n s ≡ false) (low ++ high) at → at ≡ length low
  place_is low high at under over inside p = elim (cases_lt at (length low)) [
    | inl l ↦ absurd (not_under (get_or (low ++ high) at 0) (under_at low high at 0 under l) (p.1 at 0 (omega arith) (omega (arith, l, length-append low high))))
    | inr l ↦ elim (cases_lt (length low) at) [
      | inl m ↦ absurd (not_over (get_or (low ++ high) (length low) 0) (over_at low high (length low) 0 over (omega arith) (omega (arith, m, inside))) (p.0 (length low) 0 (omega arith) m))
      | inr m ↦ omega (arith, l, m)
    ]
  ]
    where
      not_under : (n : ℕ) → n < s → nat_lt n s ≡ false → ⊥
      not_under n less off = grind (arith, nat_tests)

      not_over : (n : ℕ) → s < n → nat_lt n s ≡ true → ⊥
      not_over n more on = grind (arith, nat_tests)

  placed_there : (low high : List ℕ) → insert (low ++ high) (length low) s ≡ low ++ s ∷ high
  placed_there [] high = refl
  placed_there (x ∷ low) high = ap (λ ys. x ∷ ys) (placed_there low high)

  pub goes_between : (xs low high : List ℕ) (at : ℕ) → at ≤ length xs → (IsPartitionedBy (λ n. nat_lt n s) xs → IsPartitionPoint (λ n. nat_lt n s ≡ true) (λ n. nat_lt n s ≡ false) xs at)
      → xs ≡ low ++ high → AllByRecursion (λ k. k < s) low → AllByRecursion (λ k. s < k) high → insert xs at s ≡ low ++ s ∷ high
  goes_between xs low high at inside part is under over =
      let here : at ≤ length (low ++ high) = subst (λ ys. at ≤ length ys) is inside in
      let point = subst (λ ys. IsPartitionedBy (λ n. nat_lt n s) ys → IsPartitionPoint (λ n. nat_lt n s ≡ true) (λ n. nat_lt n s ≡ false) ys at) is part (parted low high under over) in
      ap (λ ys. insert ys at s) is ∙ ap (λ k. insert (low ++ high) k s) (place_is low high at under over here point) ∙ placed_there low high
