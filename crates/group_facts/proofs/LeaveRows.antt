-- L1: what a start is sent where an editor of its group leaves has its reasons, wherever it stands in the entry.
use Rattle.std.proofs.Common.{◌≡◌, ℕ, ◌+◌, ◌<◌, ◌≤◌, ◌^◌, Bool, true, false, not, ◌&&◌, ◌||◌, List, [], ◌∷◌, ◌++◌, append-nil, append_assoc, map, filter, nat_eq, bytes_eq, decimal, if◌then◌else◌, Some, refl, sym, ◌∙◌, ap, ap₂, subst, arith}
use Rattle.std.specs.List.{AllByRecursion, list_any}
use Rattle.std.proofs.lemmas.Bool.{and_parts}
use Rattle.std.proofs.lemmas.Fmt.{decimal_injective}
use Rattle.std.proofs.lemmas.Slice.Eq.{bytes_eq-Decides}
use Rattle.json_text.specs.Bare.{nowhere}
use Rattle.json_text.specs.Json.{number}
use Rattle.document_model.specs.Opens.{Open}
use Rattle.mux_history.specs.declared.cause.Cause.{Cause}
use Rattle.mux_history.specs.declared.out.Out.{Out}
use Rattle.mux_history.specs.declared.out.Out.TheVariants.{ToServer}
use Rattle.event_model.specs.declared.stage.Stage.TheVariants.{Ready}
use Rattle.event_model.specs.Event.{Event, behind, said}
use Rattle.event_model.specs.Row.{Row, choose, each, nothing, on, outs, ◌⨾◌}
use Rattle.event_model.specs.Settings.{Settings}
use Rattle.event_model.specs.Spawns.{start_of}
use Rattle.event_model.specs.Stages.{is_ready, life_of}
use Rattle.mux_model.specs.Documents.{held_at}
use Rattle.mux_model.specs.Rows.{to_start}
use Rattle.mux_facts.specs.Ranges.{InRange}
use Rattle.mux_facts.proofs.DocumentRow.{ready_is}
use Rattle.mux_facts.proofs.Lists.{all_filtered, all_of}
use Rattle.mux_facts.proofs.Reasons.{Because, Reasons, by_nothing, by_on, by_then}
use Rattle.mux_facts.proofs.Words.{number_same, same_id_itself, same_number, still_open}
use Rattle.rpc_message.specs.Message.{same_id}
use Rattle.rpc_message.specs.Texts.{error_text, request_failed}
use Rattle.rpc_message.specs.ValueTexts.{IsIdText}
use Rattle.rpc_message.proofs.Fixed.{error_law, id_as_response}
use Rattle.event_model.specs.Requests.{answered_id, is_open, without}
use Rattle.group_rows.specs.Forwarded.{Forwarded, Forwarding, cancelled_by, first_sender, forwarding_of, forwards, is_of}
use Rattle.group_rows.specs.Asks.{Ask, asks_of, is_under, is_with}
use Rattle.group_rows.specs.Leaves.{cancel, cancel_text, cancels, closings, leave_bodies, leave_row, refusals, refuse, uncancelled_of}
use Rattle.group_rows.specs.Texts.{texts_of}
use Rattle.group_rows.proofs.Cancels.{cancel_says}
use Rattle.group_facts.specs.Facts.{AllDiffer, Asks, Bounded, IsAsked, Opened, asked_by, is_up}
use Rattle.group_facts.proofs.Asks.{asked_by_more, differ_filtered}
use Rattle.group_facts.specs.Why.{Why, is_uncancelled, moves, stays}
use Rattle.group_rows.proofs.Frames.{forwarding_more}
use Rattle.group_facts.proofs.Forwards.{still_now, zip_all}
use Rattle.group_facts.proofs.Sent.{Rising, below_next, rising_filtered, rising_of}
use Rattle.group_facts.proofs.SharedRows.{AllTold, Held, leave_told}
use Rattle.group_facts.proofs.Tellings.{Calm, Tells, cancel_names, cancel_told, refuse_told, tells_both, tells_none, tells_row, to}

-- The numbers of open requests are small

abbrev pub IsSmall : ℕ → Type 0
IsSmall n = n < 2 ^ 64

all_small : (low next : ℕ) (fs : List Forwarded) → next < 2 ^ 64 → Rising low next fs → AllByRecursion (λ (f : Forwarded). IsSmall f.number) fs
all_small low next [] bound h = tt
all_small low next (f ∷ fs) bound h = (let le : f.number + 1 ≤ next = below_next (f.number + 1) next fs h.1 in omega (arith, le, bound), all_small (f.number + 1) next fs bound h.1)

-- those of a start that is ready
pub numbers_small : (settings : Settings) → InRange settings → (before : List Event) → Bounded settings before → (s : ℕ) → (life_of s before).stage ≡ Ready → AllByRecursion (λ (f : Forwarded). IsSmall f.number) (forwarding_of settings s before).open_requests
numbers_small settings range before bounded s was = all_small 2 (forwarding_of settings s before).next (forwarding_of settings s before).open_requests bound (rising_of settings s before)
  where
    bound : (forwarding_of settings s before).next < 2 ^ 64
    bound = let b = bounded s (ap is_up was) in
        let second : (forwarding_of settings s before).next ≤ settings.limits.requests + 2 = b.1 in
        let wide : settings.limits.requests < 2 ^ 32 = range.requests in
        omega (arith, second, wide)

all_numbers : (Q : ℕ → Type 0) (fs : List Forwarded) → AllByRecursion (λ (f : Forwarded). Q f.number) fs → AllByRecursion Q (map (λ (f : Forwarded). f.number) fs)
all_numbers Q [] h = tt
all_numbers Q (f ∷ fs) h = (h.0, all_numbers Q fs h.1)

-- what holds of all open requests that weren't cancelled holds of an editor's
uncancelled_all : (Q : ℕ → Type 0) (e : ℕ) (fs : List Forwarded) → AllByRecursion (λ (f : Forwarded). not f.cancelled ≡ true → Q f.number) fs → AllByRecursion Q (uncancelled_of e fs)
uncancelled_all Q e fs h = all_numbers Q (filter (is_of e) (filter (λ (f : Forwarded). not f.cancelled) fs))
    (all_filtered (λ (f : Forwarded). Q f.number) (λ (f : Forwarded). Q f.number) (is_of e) (λ f t k. k) (filter (λ (f : Forwarded). not f.cancelled) fs)
    (all_filtered (λ (f : Forwarded). not f.cancelled ≡ true → Q f.number) (λ (f : Forwarded). Q f.number) (λ (f : Forwarded). not f.cancelled) (λ f t k. k t) fs h))

uncancelled_small : (e : ℕ) (fs : List Forwarded) → AllByRecursion (λ (f : Forwarded). IsSmall f.number) fs → AllByRecursion IsSmall (uncancelled_of e fs)
uncancelled_small e fs h = uncancelled_all IsSmall e fs (all_of (λ (f : Forwarded). IsSmall f.number) (λ (f : Forwarded). not f.cancelled ≡ true → IsSmall f.number) (λ f k t. k) fs h)

-- They rise

Ascends : List ℕ → Type 0
Ascends [] = Unit {0}
Ascends (n ∷ ns) = AllByRecursion (λ k. n < k) ns × Ascends ns

all_above : (low next : ℕ) (fs : List Forwarded) → Rising low next fs → AllByRecursion (λ k. low ≤ k) (map (λ (f : Forwarded). f.number) fs)
all_above low next [] h = tt
all_above low next (f ∷ fs) h = (h.0, all_of (λ k. f.number + 1 ≤ k) (λ k. low ≤ k) (λ k le. let first : low ≤ f.number = h.0 in omega (arith, le, first)) (map (λ (f : Forwarded). f.number) fs) (all_above (f.number + 1) next fs h.1))

ascends : (low next : ℕ) (fs : List Forwarded) → Rising low next fs → Ascends (map (λ (f : Forwarded). f.number) fs)
unfolding Ascends
ascends low next [] h = tt
ascends low next (f ∷ fs) h = (all_of (λ k. f.number + 1 ≤ k) (λ k. f.number < k) (λ k le. omega (arith, le)) (map (λ (f : Forwarded). f.number) fs) (all_above (f.number + 1) next fs h.1), ascends (f.number + 1) next fs h.1)

uncancelled_ascends : (e low next : ℕ) (fs : List Forwarded) → Rising low next fs → Ascends (uncancelled_of e fs)
uncancelled_ascends e low next fs h = ascends low next (filter (is_of e) (filter (λ (f : Forwarded). not f.cancelled) fs))
    (rising_filtered low next (is_of e) (filter (λ (f : Forwarded). not f.cancelled) fs) (rising_filtered low next (λ (f : Forwarded). not f.cancelled) fs h))

-- Each waits, and still does where another one is cancelled

abbrev Waits : List Forwarded → ℕ → Type 0
Waits fs n = list_any (is_uncancelled n) fs ≡ true

or_first : (a b : Bool) → a ≡ true → (a || b) ≡ true
or_first true b h = refl
or_first false b h = absurd (cc)

or_second : (a b : Bool) → b ≡ true → (a || b) ≡ true
or_second true b h = refl
or_second false b h = h

itself : (fs : List Forwarded) → AllByRecursion (λ (f : Forwarded). not f.cancelled ≡ true → Waits fs f.number) fs
itself [] = tt
itself (f ∷ fs) = (
  λ t. or_first (is_uncancelled f.number f) (list_any (is_uncancelled f.number) fs) (ap (λ b. b && not f.cancelled) (same_number f.number) ∙ t),
  all_of (λ (g : Forwarded). not g.cancelled ≡ true → Waits fs g.number) (λ (g : Forwarded). not g.cancelled ≡ true → Waits (f ∷ fs) g.number) (λ g k t. or_second (is_uncancelled g.number f) (list_any (is_uncancelled g.number) fs) (k t)) fs (itself fs),
)

other_waits : (n k : ℕ) → n < 2 ^ 64 → k < 2 ^ 64 → n < k → (fs : List Forwarded) → Waits fs k → Waits (map (cancelled_by (Some (number nowhere (decimal n)))) fs) k
other_waits n k low high less [] h = h
other_waits n k low high less (f ∷ fs) h = go (is_uncancelled k f) refl (λ e. other_waits n k low high less fs e) h
  where
    unwritten : (b : Bool) → bytes_eq (decimal n) (decimal f.number) ≡ b → nat_eq f.number k ≡ true → b ≡ false
    unwritten false e same = refl
    unwritten true e same = absurd (let is : f.number ≡ k = number_same f.number k same in
        let clash : n ≡ k = decimal_injective n k low high ((bytes_eq-Decides (decimal n) (decimal f.number)).0 e ∙ ap decimal is) in let never : ⊥ = omega (arith, clash, less) in never)

    stays : is_uncancelled k f ≡ true → is_uncancelled k (cancelled_by (Some (number nowhere (decimal n))) f) ≡ true
    stays t = ap (λ b. is_uncancelled k (if b then record f { cancelled = true } else f))
        (unwritten (bytes_eq (decimal n) (decimal f.number)) refl (and_parts (nat_eq f.number k) (not f.cancelled) t).0) ∙ t

    go : (b : Bool) → is_uncancelled k f ≡ b → (Waits fs k → Waits (map (cancelled_by (Some (number nowhere (decimal n)))) fs) k) → (b || list_any (is_uncancelled k) fs) ≡ true → Waits (map (cancelled_by (Some (number nowhere (decimal n)))) (f ∷ fs)) k
    go true t more e = or_first (is_uncancelled k (cancelled_by (Some (number nowhere (decimal n))) f)) (list_any (is_uncancelled k) (map (cancelled_by (Some (number nowhere (decimal n)))) fs)) (stays t)
    go false t more e = or_second (is_uncancelled k (cancelled_by (Some (number nowhere (decimal n))) f)) (list_any (is_uncancelled k) (map (cancelled_by (Some (number nowhere (decimal n)))) fs)) (more e)

-- the row of cancels sends these bodies
pub cancels_outs : (s : ℕ) (ns : List ℕ) (events : List Event) → outs (each (cancel s) ns) events ≡ map (λ b. ToServer s b) (map cancel_text ns)
cancels_outs s [] events = refl
cancels_outs s (n ∷ ns) events = ap (λ xs. ToServer s (cancel_text n) ∷ xs) (cancels_outs s ns (behind events (ToServer s (cancel_text n) ∷ [])))

-- The requests of the start that wait for its answers

abbrev pub refusal_of : Ask → List ℕ
refusal_of a = error_text a.bytes request_failed

pub refusals_outs : (s : ℕ) (xs : List Ask) (events : List Event) → outs (each (refuse s) xs) events ≡ map (λ b. ToServer s b) (map refusal_of xs)
refusals_outs s [] events = refl
refusals_outs s (a ∷ xs) events = ap (λ ys. ToServer s (refusal_of a) ∷ ys) (refusals_outs s xs (behind events (ToServer s (refusal_of a) ∷ [])))

-- one of these
record IsListed (all : List Ask) (a : Ask) : Type 0 where
  text : IsIdText a.id a.bytes
  listed : list_any (is_under (Some a.id)) all ≡ true

pub each_listed : (xs : List Ask) → AllByRecursion (λ (a : Ask). list_any (is_under (Some a.id)) xs ≡ true) xs
each_listed [] = tt
each_listed (a ∷ xs) = (
  or_first (same_id a.id a.id) (list_any (is_under (Some a.id)) xs) (same_id_itself a.id),
  all_of (λ (b : Ask). list_any (is_under (Some b.id)) xs ≡ true) (λ (b : Ask). list_any (is_under (Some b.id)) (a ∷ xs) ≡ true) (λ b k. or_second (same_id b.id a.id) (list_any (is_under (Some b.id)) xs) k) xs (each_listed xs),
)

-- At a place where each start is what it was before the entry

module _ (settings : Settings) (range : InRange settings) (before : List Event) (cause : Cause) (opened : Opened settings before) (bounded : Bounded settings before) (place : List Event)
    (rests : (s : ℕ) → moves before cause s ≡ false) (stage_still : (s : ℕ) → (life_of s place).stage ≡ (life_of s before).stage) (held_still : (s : ℕ) (u : List ℕ) → held_at s u place ≡ held_at s u before)
    (open_still : (s : ℕ) → (forwarding_of settings s place).open_requests ≡ (forwarding_of settings s before).open_requests) (asks : Asks settings before) (asked_still : (s : ℕ) → asked_by s place ≡ asked_by s before) (e : ℕ) where
  abbrev R : List Event → Out → Type 0
  R events out = Why settings before cause events out

  abbrev Right : Row → Type 0
  Right row = Because R place row

  module _ (g s : ℕ) where
    abbrev ns : List ℕ
    ns = uncancelled_of e (forwarding_of settings s before).open_requests

    abbrev opens : List Open
    opens = (texts_of settings g before).opens

    abbrev bodies : List (List ℕ)
    bodies = leave_bodies settings.limits.versions (λ u. held_at s u before) e opens opens

    abbrev AllAlone : List Event → List (List ℕ) → Type 0
    AllAlone events xs = Tells settings range before cause place s (λ w. Unit {0}) events xs

    abbrev Mine : List Event → Type 0
    Mine events = Calm settings range before cause place s events

    abbrev sends : List (List ℕ) → List Out
    sends xs = to settings range before cause place s xs

    -- behind the cancel of another request
    still_waits : (events : List Event) (n k : ℕ) → n < 2 ^ 64 → k < 2 ^ 64 → n < k → Waits (forwarding_of settings s events).open_requests k → Waits (forwarding_of settings s (behind events (sends (cancel_text n ∷ [])))).open_requests k
    still_waits events n k low high less h = subst (λ (x : Forwarding). Waits x.open_requests k)
        (sym (forwarding_more settings s events (said (ToServer s (cancel_text n))) ∙ ap₂ (λ b m. if b then forwards (first_sender settings s events) (forwarding_of settings s events) m else forwarding_of settings s events) (same_number s) (cancel_says n low)))
        (subst (λ i. Waits (map (cancelled_by i) (forwarding_of settings s events).open_requests) k) (sym (cancel_names n)) (other_waits n k low high less (forwarding_of settings s events).open_requests h))

    later_wait : (events : List Event) (n : ℕ) → n < 2 ^ 64 → (ns : List ℕ) → AllByRecursion IsSmall ns → AllByRecursion (λ k. n < k) ns → AllByRecursion (Waits (forwarding_of settings s events).open_requests) ns
        → AllByRecursion (Waits (forwarding_of settings s (behind events (sends (cancel_text n ∷ [])))).open_requests) ns
    later_wait events n low [] small above h = tt
    later_wait events n low (k ∷ ns) small above h = (still_waits events n k low small.0 above.0 h.0, later_wait events n low ns small.1 above.1 h.1)

    cancels_told : (ns : List ℕ) → AllByRecursion IsSmall ns → Ascends ns → (events : List Event) → AllByRecursion (Waits (forwarding_of settings s events).open_requests) ns → Mine events → AllAlone events (map cancel_text ns)
    unfolding Ascends
    cancels_told [] small rises events waits calm = tells_none settings range before cause place s events calm
    cancels_told (n ∷ ns) small rises events waits calm =
        let one : AllAlone events (cancel_text n ∷ []) = cancel_told settings range before cause place s events n small.0 (rests s) waits.0 calm in
        tells_both settings range before cause place s events (cancel_text n ∷ []) (map cancel_text ns) one
        (cancels_told ns small.1 rises.1 (behind events (sends (cancel_text n ∷ []))) (later_wait events n small.0 ns small.1 rises.0 waits.1) one.calm)

    -- cancels leave its requests open
    asked_cancelled : (ns : List ℕ) → AllByRecursion IsSmall ns → (events : List Event) → asked_by s (behind events (sends (map cancel_text ns))) ≡ asked_by s events
    asked_cancelled [] small events = ap (asked_by s) (append-nil events)
    asked_cancelled (n ∷ ns) small events = ap (asked_by s) (sym (append_assoc events (said (ToServer s (cancel_text n)) ∷ []) (map said (sends (map cancel_text ns)))))
        ∙ asked_cancelled ns small.1 (events ++ said (ToServer s (cancel_text n)) ∷ [])
        ∙ asked_by_more s events (said (ToServer s (cancel_text n))) ∙ ap₂ (λ b m. if b then without (answered_id m) (asked_by s events) else asked_by s events) (same_number s) (cancel_says n small.0)

    abbrev asked : List Ask
    asked = filter (is_with e) (asks_of settings s before)

    -- behind the refusal of another one
    still_asked : (events : List Event) (a b : Ask) → IsIdText a.id a.bytes → same_id a.id b.id ≡ false → is_open b.id (asked_by s events) ≡ true → is_open b.id (asked_by s (behind events (sends (refusal_of a ∷ [])))) ≡ true
    still_asked events a b text other waits = ap (is_open b.id) (asked_by_more s events (said (ToServer s (refusal_of a)))
        ∙ ap₂ (λ c m. if c then without (answered_id m) (asked_by s events) else asked_by s events) (same_number s) (error_law (Some a.id) a.bytes request_failed (id_as_response a.id a.bytes text)))
        ∙ still_open a.id b.id (asked_by s events) waits other

    refusals_told : (xs : List Ask) → AllDiffer xs → AllByRecursion (IsListed (asks_of settings s before)) xs → (events : List Event) → AllByRecursion (λ (a : Ask). is_open a.id (asked_by s events) ≡ true) xs → Mine events → AllAlone events (map refusal_of xs)
    refusals_told [] differ listed events waits calm = tells_none settings range before cause place s events calm
    refusals_told (a ∷ xs) differ listed events waits calm =
        let one : AllAlone events (refusal_of a ∷ []) = refuse_told settings range before cause place s events a (listed.0).text (listed.0).listed (rests s) waits.0 calm in
        tells_both settings range before cause place s events (refusal_of a ∷ []) (map refusal_of xs) one
        (refusals_told xs differ.1 listed.1 (behind events (sends (refusal_of a ∷ [])))
        (zip_all (λ (b : Ask). same_id a.id b.id ≡ false) (λ (b : Ask). is_open b.id (asked_by s events) ≡ true) (λ (b : Ask). is_open b.id (asked_by s (behind events (sends (refusal_of a ∷ [])))) ≡ true)
        (λ b other w. still_asked events a b (listed.0).text other w) xs differ.0 waits.1) one.calm)

    module _ (ready : is_ready (life_of s before).stage ≡ true) where
      was : (life_of s before).stage ≡ Ready
      was = ready_is (life_of s before).stage ready

      calm : Mine place
      calm = record { still = still_now settings place s (stage_still s ∙ was); turn = stays (rests s) }

      small : AllByRecursion IsSmall ns
      small = uncancelled_small e (forwarding_of settings s before).open_requests (numbers_small settings range before bounded s was)

      waiting : AllByRecursion (Waits (forwarding_of settings s place).open_requests) ns
      waiting = subst (λ fs. AllByRecursion (Waits fs) ns) (sym (open_still s)) (uncancelled_all (Waits (forwarding_of settings s before).open_requests) e (forwarding_of settings s before).open_requests (itself (forwarding_of settings s before).open_requests))

      told : AllAlone place (map cancel_text ns)
      told = cancels_told ns small (uncancelled_ascends e 2 (forwarding_of settings s before).next (forwarding_of settings s before).open_requests (rising_of settings s before)) place waiting calm

      abbrev cancelled : List Event
      cancelled = behind place (sends (map cancel_text ns))

      listed_all : AllByRecursion (λ (a : Ask). IsListed (asks_of settings s before) a × (is_open a.id (asked_by s cancelled) ≡ true)) asked
      listed_all = all_filtered (λ (a : Ask). IsListed (asks_of settings s before) a × (is_open a.id (asked_by s cancelled) ≡ true)) (λ (a : Ask). IsListed (asks_of settings s before) a × (is_open a.id (asked_by s cancelled) ≡ true)) (is_with e) (λ a t k. k) (asks_of settings s before)
          (zip_all (IsAsked s before) (λ (a : Ask). list_any (is_under (Some a.id)) (asks_of settings s before) ≡ true) (λ (a : Ask). IsListed (asks_of settings s before) a × (is_open a.id (asked_by s cancelled) ≡ true))
          (λ a k l. (record { text = k.text; listed = l }, ap (is_open a.id) (asked_cancelled ns small place ∙ asked_still s) ∙ k.waits)) (asks_of settings s before) (asks s).asked (each_listed (asks_of settings s before)))

      refused : AllAlone cancelled (map refusal_of asked)
      refused = refusals_told asked (differ_filtered (is_with e) (asks_of settings s before) (asks s).differ) (all_of (λ (a : Ask). IsListed (asks_of settings s before) a × (is_open a.id (asked_by s cancelled) ≡ true)) (IsListed (asks_of settings s before)) (λ a k. k.0) asked listed_all) cancelled
          (all_of (λ (a : Ask). IsListed (asks_of settings s before) a × (is_open a.id (asked_by s cancelled) ≡ true)) (λ (a : Ask). is_open a.id (asked_by s cancelled) ≡ true) (λ a k. k.1) asked listed_all) told.calm

      abbrev parted : List Event
      parted = behind cancelled (sends (map refusal_of asked))

      all_held : (os : List Open) → Held settings range before cause place s (λ u. held_at s u before) e parted os
      all_held [] = tt
      all_held (o ∷ os) = (λ k. refused.others o.uri tt ∙ told.others o.uri tt ∙ held_still s o.uri, all_held os)

      closed : AllTold settings range before cause place s parted bodies
      closed = leave_told settings range before cause place s (λ u. held_at s u before) e opens (opened g).spelt opens (opened g).orderly.once (opened g).spelt parted refused.calm (all_held opens)

      cancels_why : Reasons R place (outs (each (cancel s) ns) place)
      cancels_why = subst (Reasons R place) (sym (cancels_outs s ns place)) told.why

      parted_why : Because R cancelled (each (refuse s) asked ⨾ to_start s bodies)
      parted_why = by_then (record { why = subst (Reasons R cancelled) (sym (refusals_outs s asked cancelled)) refused.why })
          (record { why = subst (λ xs. Reasons R (behind cancelled xs) (outs (to_start s bodies) (behind cancelled xs))) (sym (refusals_outs s asked cancelled)) (tells_row settings range before cause place s parted bodies closed).why })

      all_why : Right (each (cancel s) ns ⨾ (each (refuse s) asked ⨾ to_start s bodies))
      all_why = by_then (record { why = cancels_why }) (subst (λ xs. Because R (behind place xs) (each (refuse s) asked ⨾ to_start s bodies)) (sym (cancels_outs s ns place)) parted_why)

    by_ready : (b : Bool) → is_ready (life_of s before).stage ≡ b → Right (choose b (each (cancel s) ns) nothing ⨾ (choose b (each (refuse s) asked) nothing ⨾ choose b (to_start s bodies) nothing))
    by_ready true ready = record { why = (all_why ready).why }
    by_ready false not_ready = record { why = tt }

  by_group : (g : ℕ) → Right (on (start_of g before) nothing (λ s. cancels settings before s e ⨾ (refusals settings before s e ⨾ closings settings before g s e)))
  by_group g = by_on (λ none. by_nothing) (λ s start. by_ready g s (is_ready (life_of s before).stage) refl)

  pub leave_why : Right (leave_row settings before e)
  leave_why = by_on (λ none. by_nothing) (λ g home. by_group g)
