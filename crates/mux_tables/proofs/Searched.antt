-- Which ask has an id, and which editor the last open request is of, as they are kept.
use Rattle.std.proofs.Common.{◌≡◌, ℕ, ◌<◌, Bool, true, false, ◌||◌, cond, List, [], ◌∷◌, filter, find, map, length, get_or, refl, ap, ap₂, sym, subst, ◌∙◌, nat_eq, arith}
use Rattle.std.specs.Prelude.{IfSome, Option, Some, None, option_map, slice_get}
use Rattle.std.specs.List.{AllByRecursion, Contains, last_or, list_any}
use Rattle.std.proofs.lemmas.Bool.Decides.{nat_tests}
use Rattle.std.proofs.lemmas.Map.Views.{Contains-from_any}
use Rattle.ask_route.specs.declared.ask.Seat.{Seat}
use Rattle.ask_route.specs.Tables as asks
use Rattle.rpc_message.specs.Message.{Id, id_bytes}
use Rattle.rpc_message.specs.ValueTexts.{IsIdText}
use Rattle.event_model.specs.declared.stage.Stage.TheVariants.{Ready}
use Rattle.event_model.specs.Event.{Event}
use Rattle.event_model.specs.Settings.{Settings}
use Rattle.group_laws.specs.group_rows.specs.AskRows.{is_among, last_among}
use Rattle.group_laws.specs.group_rows.specs.Asks.{Ask, Parked, asking_of, asks_of, is_taken, is_under, parked_of, waits_under}
use Rattle.group_laws.specs.group_rows.specs.Forwarded.{Forwarded, forwarding_of}
use Rattle.id_rewrite.specs.declared.pending.Numbered.{Numbered}
use Rattle.id_rewrite.specs.Tables as tables
use Rattle.id_rewrite.proofs.Finding.{texts_same}
use Rattle.mux_tables.specs.declared.tables.Start.{Start}
use Rattle.mux_tables.specs.declared.tables.Tables.{Tables}
use Rattle.mux_tables.specs.Refusals.{seat_from}
use Rattle.mux_tables.specs.Stands.{AsksStand, HasText, MayWait, ParkedStand, Stands, forwarded_of, kept_ask, kept_parked, number_in, of_asks, of_ids, of_parked}
use Rattle.mux_tables.proofs.IdMoves.{filter_mapped}
use Rattle.mux_tables.proofs.Refusing.{ready_asks}
use Rattle.mux_tables.proofs.Starts.{read_here, read_same, start_at_place}
use Rattle.mux_tables.proofs.Waiting.{parked_text, ready_parked}

-- the ask of an id
module _ (i : Id) (id : List ℕ) (own : IsIdText i id) where
  same_under : (a : Ask) → HasText a → asks.is_under id (kept_ask a) ≡ is_under (Some i) a
  same_under a text = texts_same i a.id id a.bytes own text

  found_under : (qs : List Ask) → AllByRecursion HasText qs → asks.seat_in (find (asks.is_under id) (map kept_ask qs)) ≡ option_map seat_from (find (is_under (Some i)) qs)
  found_under [] h = refl
  found_under (a ∷ qs) h = ap (λ b. asks.seat_in (cond b (Some (kept_ask a)) (find (asks.is_under id) (map kept_ask qs)))) (same_under a h.0) ∙ go (is_under (Some i) a) (found_under qs h.1)
    where
      go : (b : Bool) → asks.seat_in (find (asks.is_under id) (map kept_ask qs)) ≡ option_map seat_from (find (is_under (Some i)) qs) → asks.seat_in (cond b (Some (kept_ask a)) (find (asks.is_under id) (map kept_ask qs))) ≡ option_map seat_from (cond b (Some a) (find (is_under (Some i)) qs))
      go true k = refl
      go false k = k

  any_under : (qs : List Ask) → AllByRecursion HasText qs → list_any (asks.is_under id) (map kept_ask qs) ≡ list_any (is_under (Some i)) qs
  any_under [] h = refl
  any_under (a ∷ qs) h = ap₂ (λ b c. b || c) (same_under a h.0) (any_under qs h.1)

  any_waiting : (ps : List Parked) → AllByRecursion MayWait ps → list_any (asks.is_under id) (map kept_parked ps) ≡ list_any (waits_under (Some i)) ps
  any_waiting [] h = refl
  any_waiting (p ∷ ps) h = ap₂ (λ b c. b || c) (texts_same i p.id id (id_bytes p.body) own (parked_text p h.0)) (any_waiting ps h.1)

-- the last start of a group, which is ready
module _ (settings : Settings) (t : Tables) (events : List Event) (g : ℕ) (x z : Start) (at : slice_get t.lasts.items g ≡ Some x) (within : g < length t.lasts.items) (read : z ≡ get_or t.lasts.items g z) (ready : x.life.stage ≡ Ready) (st : Stands settings t events) where
  kept : AsksStand events (asks_of settings x.life.start events) x.asks
  kept = ready_asks x.life.stage events (asks_of settings x.life.start events) x.asks ready ((st.lasts.each g x at).parts of_asks)

  here : z.asks ≡ map kept_ask (asks_of settings x.life.start events)
  here = ap (λ (w : Start). w.asks) (read_same t.lasts.items g z x within read at) ∙ kept.same

  pub seat_seen : (i : Id) (id : List ℕ) (o : Option Seat) → IsIdText i id → o ≡ asks.seat_in (find (asks.is_under id) z.asks) → o ≡ option_map seat_from (find (is_under (Some i)) (asks_of settings x.life.start events))
  seat_seen i id o own is = is ∙ (ap (λ ks. asks.seat_in (find (asks.is_under id) ks)) here ∙ found_under i id own (asks_of settings x.life.start events) kept.texts)

  waits : ParkedStand (asks_of settings x.life.start events) (parked_of settings x.life.start events) x.parked
  waits = ready_parked x.life.stage (asks_of settings x.life.start events) (parked_of settings x.life.start events) x.parked ready ((st.lasts.each g x at).parts of_parked)

  there : z.parked ≡ map kept_parked (parked_of settings x.life.start events)
  there = ap (λ (w : Start). w.parked) (read_same t.lasts.items g z x within read at) ∙ waits.same

  pub open_seen : (i : Id) (id : List ℕ) (b : Bool) → IsIdText i id → b ≡ (list_any (asks.is_under id) z.asks || list_any (asks.is_under id) z.parked) → b ≡ is_taken (Some i) (asking_of settings x.life.start events)
  open_seen i id b own is = is ∙ ap₂ (λ c d. c || d) (ap (list_any (asks.is_under id)) here ∙ any_under i id own (asks_of settings x.life.start events) kept.texts)
      (ap (list_any (asks.is_under id)) there ∙ any_waiting i id own (parked_of settings x.life.start events) waits.bodies)

-- it is of one of them
last_passes : (p : Numbered → Bool) (o : Option Numbered) (rs : List Numbered) → IfSome o (λ r. p r ≡ true) → IfSome (last_or o (filter p rs)) (λ r. p r ≡ true)
last_passes p o [] h = h
last_passes p o (r ∷ rs) h = go (p r) refl (last_passes p (Some r) rs) (last_passes p o rs h)
  where
    go : (b : Bool) → p r ≡ b → (p r ≡ true → IfSome (last_or (Some r) (filter p rs)) (λ r. p r ≡ true)) → IfSome (last_or o (filter p rs)) (λ r. p r ≡ true) → IfSome (last_or o (cond b (r ∷ filter p rs) (filter p rs))) (λ r. p r ≡ true)
    go true is taken left = taken is
    go false is taken left = left

one_is : (a b : ℕ) → nat_eq b a ≡ true → a ≡ b
one_is a b h = grind (arith, nat_tests)

pub last_inside : (es : List ℕ) (rs : List Numbered) (o : Option ℕ) → o ≡ tables.last_editor es rs → IfSome o (λ e. Contains es e)
last_inside es rs o is = subst (λ (w : Option ℕ). IfSome w (λ e. Contains es e)) (sym is) (go (last_or None (filter (tables.is_among es) rs)) (last_passes (tables.is_among es) None rs tt))
  where
    go : (w : Option Numbered) → IfSome w (λ r. tables.is_among es r ≡ true) → IfSome (option_map (λ (r : Numbered). r.pending.editor) w) (λ e. Contains es e)
    go None h = tt
    go (Some r) h = Contains-from_any {eq = λ a b. nat_eq b a} one_is r.pending.editor es h

-- the last open request of some editors
flip : (a b : ℕ) → nat_eq a b ≡ nat_eq b a
flip a b = grind (arith, nat_tests)

among_same : (es : List ℕ) (r : Numbered) → is_among es (forwarded_of r) ≡ tables.is_among es r
among_same [] r = refl
among_same (e ∷ es) r = ap₂ (λ b c. b || c) (flip r.pending.editor e) (among_same es r)

filter_alike : (p q : Numbered → Bool) → ((r : Numbered) → p r ≡ q r) → (rs : List Numbered) → filter p rs ≡ filter q rs
filter_alike p q h [] = refl
filter_alike p q h (r ∷ rs) = ap₂ (λ b ys. cond b (r ∷ ys) ys) (h r) (filter_alike p q h rs)

last_mapped : (o : Option Numbered) (rs : List Numbered) → last_or (option_map forwarded_of o) (map forwarded_of rs) ≡ option_map forwarded_of (last_or o rs)
last_mapped o [] = refl
last_mapped o (r ∷ rs) = last_mapped (Some r) rs

editor_mapped : (o : Option Numbered) → option_map (λ (f : Forwarded). f.editor) (option_map forwarded_of o) ≡ option_map (λ (r : Numbered). r.pending.editor) o
editor_mapped None = refl
editor_mapped (Some r) = refl

last_same : (es : List ℕ) (rs : List Numbered) → last_among es (map forwarded_of rs) ≡ tables.last_editor es rs
last_same es rs = ap (λ fs. option_map (λ (f : Forwarded). f.editor) (last_or None fs)) (filter_mapped forwarded_of (is_among es) rs ∙ ap (map forwarded_of) (filter_alike (λ r. is_among es (forwarded_of r)) (tables.is_among es) (among_same es) rs))
    ∙ (ap (option_map (λ (f : Forwarded). f.editor)) (last_mapped None (filter (tables.is_among es) rs)) ∙ editor_mapped (last_or None (filter (tables.is_among es) rs)))

pub last_seen : (settings : Settings) (t : Tables) (events : List Event) (g s : ℕ) (es : List ℕ) (z : Start) (o : Option ℕ) → slice_get (map number_in t.lasts.items) g ≡ Some s → g < length t.lasts.items → z ≡ get_or t.lasts.items g z → o ≡ tables.last_editor es z.ids.requests → Stands settings t events
    → o ≡ last_among es (forwarding_of settings s events).open_requests
last_seen settings t events g s es z o at within read is st =
    let here = read_here t.lasts.items g z within read in
    let own : z.life.start ≡ s = start_at_place t.lasts.items g s z here at in
    is ∙ (sym (last_same es z.ids.requests) ∙ ap (last_among es) (sym ((st.lasts.each g z here).parts of_ids).open_requests ∙ ap (λ n. (forwarding_of settings n events).open_requests) own))
