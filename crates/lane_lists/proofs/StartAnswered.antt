-- What the history says of starts that went by a failed write was said in a lane's queues.
use Rattle.std.proofs.Common.{◌≡◌, ◌≢◌, ℕ, zero, suc, ◌+◌, ◌==◌, ◌<◌, ◌≤◌, List, [], ◌∷◌, ◌++◌, Bool, true, false, if◌then◌else◌, length, slice_get, refl, sym, ap, ◌∙◌, subst, ◌⊎◌, inl, inr, ⊎_elim, arith, Option, append_assoc}
use Rattle.std.specs.Prelude.{⊤}
use Rattle.std.specs.declared.option.Option.TheVariants.{Some, None}
use Rattle.mux_history.specs.declared.entry.Entry.{Entry}
use Rattle.std.proofs.lemmas.Bool.Decides.{eqb_tells}
use Rattle.mux_history.specs.declared.out.Out.{Out}
use Rattle.mux_history.specs.declared.cause.Cause.{Cause}
use Rattle.mux_history.specs.declared.cause.Cause.TheVariants as cause
use Rattle.mux_history.specs.Cores.{spawns}
use Rattle.lane_lists.specs.declared.item.LaneName.{LaneName}
use Rattle.lane_lists.specs.declared.item.LaneName.TheVariants as lane
use Rattle.lane_lists.specs.declared.item.Posted.TheVariants as posted
use Rattle.lane_lists.specs.declared.item.Item.{Item}
use Rattle.lane_lists.specs.declared.item.Item.TheVariants as item
use Rattle.lane_lists.specs.declared.item.Order.{Order}
use Rattle.lane_lists.specs.declared.item.Side.{Side}
use Rattle.lane_lists.specs.declared.item.Side.TheVariants as side
use Rattle.lane_lists.specs.Seats.{Seat, Seats, meaning, seat_at, seat_cause, seat_item}
use Rattle.lane_lists.specs.Deeds.{Deed, FairFrom, Meant, behind, entries_by, entries_in, gather_from, given, only, orders_by, same_lane, sides_by, start}
use Rattle.lane_lists.specs.Origins.{AllIn, IsIn}
use Rattle.lane_lists.specs.Sides.{answers}
use Rattle.lane_lists.specs.Starts.{start_of}
use Rattle.lane_lists.specs.StartHistory.{tried_by, tried_of, went_by, went_in, went_of}
use Rattle.lane_lists.specs.StartSides.{BeginOnce, StartFailedAnswered, Unbegun}
use Rattle.lane_lists.proofs.Moves.{did}
use Rattle.lane_lists.proofs.BySession.{all_free, many_free}
use Rattle.lane_lists.proofs.Tally.{deed_total, none_seated, seated_one, spawns_append, total}
use Rattle.lane_lists.proofs.StartMoves.{StartWays, by_try, held, held_at, held_seat, start_acted, start_acted_none, start_at}
use Rattle.lane_lists.proofs.ByStart.{item_held, other_lane, server_len, start_here}
use Rattle.lane_lists.proofs.Answered.{at_behind, at_either}
use Rattle.lane_lists.proofs.OrderStarts.{deed_lined, first, first_len, lined, self, told, told_lined}
use Rattle.lane_lists.proofs.StartOwing.{AllOf, OwesAll, all_owe, all_up, done_bare, once_bare, owing, unbegun_bare}
use Rattle.lane_lists.proofs.StartAnswering.{Adds, adds, went_items}

-- a start that waits in no line and is spawned no more begins no more
module _ (i : ℕ) where
  abbrev later_orders : Seats → List Deed → List Order
  later_orders seats deeds = gather_from (orders_by (lane.Server i)) seats deeds

  gave_all : (seats : Seats) (l : LaneName) (x : Item) (en : Entry) → i < length seats.servers → OwesAll i (λ s. ⊤) en.outs (first seats l x en.cause)
  gave_all seats l x en within = all_owe i (λ s. ⊤) en.outs (first seats l x en.cause) (let n = first_len seats l x en.cause in omega arith)

  deed_unbegun : (seats : Seats) (l : LaneName) (x : Item) (entry : Option Entry) (os : List Order) (s : ℕ) → i < length seats.servers → lined s seats + spawns s (entries_in entry) ≡ 0 → Unbegun s os
      → Unbegun s (only (lane.Server i) (given seats (did l x entry)).orders ++ os)
  deed_unbegun seats l x None os s within none u = u
  deed_unbegun seats l x (Some en) os s within none u =
      let g = gave_all seats l x en within in
      let t = told_lined s seats l x en.cause en.outs in
      let zero_lined : lined s (told seats l x en.cause en.outs).seats ≡ 0 = omega (arith, t, none) in
      let done = only (lane.Server i) (first seats l x en.cause).orders in
      subst (λ l. Unbegun s l) (sym (append_assoc done g.more os) ∙ ap (λ r. r ++ os) (sym g.orders)) (unbegun_bare s done (g.more ++ os) (done_bare i seats l x en.cause) (g.unbegun s os zero_lined u))

  pub unbegun_from : (deeds : List Deed) (seats : Seats) (s : ℕ) → i < length seats.servers → lined s seats + spawns s (gather_from entries_by seats deeds) ≡ 0 → Unbegun s (later_orders seats deeds)
  unbegun_from [] seats s within none = tt
  unbegun_from (d ∷ deeds) seats s within none =
      let after = behind seats d in
      let e = spawns_append s (entries_in d.entry) (gather_from entries_by after deeds) in
      let len = server_len d.lane d.item d.entry seats in
      let line = deed_lined s seats d.lane d.item d.entry in
      deed_unbegun seats d.lane d.item d.entry (later_orders after deeds) s within (omega (arith, e, none)) (unbegun_from deeds after s (omega (arith, len, within)) (omega (arith, e, none, line)))

  -- no start begins twice
  deed_once : (seats : Seats) (l : LaneName) (x : Item) (entry : Option Entry) (os : List Order) → i < length seats.servers → ((s : ℕ) → start_at i (behind seats (did l x entry)) ≡ Some s → Unbegun s os) → BeginOnce os
      → BeginOnce (only (lane.Server i) (given seats (did l x entry)).orders ++ os)
  deed_once seats l x None os within later u = u
  deed_once seats l x (Some en) os within later u =
      let g = gave_all seats l x en within in
      let done = only (lane.Server i) (first seats l x en.cause).orders in
      subst (λ l. BeginOnce l) (sym (append_assoc done g.more os) ∙ ap (λ r. r ++ os) (sym g.orders)) (once_bare done (g.more ++ os) (done_bare i seats l x en.cause) (g.once os later u))

  pub once_from : (deeds : List Deed) (seats : Seats) → i < length seats.servers → FairFrom seats deeds → ((s : ℕ) → total s seats + spawns s (gather_from entries_by seats deeds) ≤ 1) → BeginOnce (later_orders seats deeds)
  once_from [] seats within fair once = tt
  once_from (d ∷ deeds) seats within fair once =
      let after = behind seats d in
      let rest = gather_from entries_by after deeds in
      let len = server_len d.lane d.item d.entry seats in
      let still : i < length after.servers = omega (arith, len, within) in
      let less : (s : ℕ) → total s after + spawns s rest ≤ 1 = λ s. (let h = once s in let e = spawns_append s (entries_in d.entry) rest in let g = deed_total s seats d.lane d.item d.entry fair.0 in omega (arith, h, e, g)) in
      deed_once seats d.lane d.item d.entry (later_orders after deeds) within
      (λ s at. unbegun_from deeds after s still (let h = less s in let one = seated_one s after.servers i at in omega (arith, h, one)))
      (once_from deeds after still fair.1 less)

-- a start that won't begin any more
abbrev Past : Seats → List Deed → ℕ → Type 0
Past seats deeds s = lined s seats + spawns s (gather_from entries_by seats deeds) ≡ 0

past_up : (d : Deed) (deeds : List Deed) (seats : Seats) (s : ℕ) → Past seats (d ∷ deeds) s → Past (behind seats d) deeds s
past_up d deeds seats s none =
    let e = spawns_append s (entries_in d.entry) (gather_from entries_by (behind seats d) deeds) in
    let line = deed_lined s seats d.lane d.item d.entry in omega (arith, e, none, line)

-- all answers of a lane, from some deed on
abbrev said_from : ℕ → Seats → List Deed → List ((ℕ × ℕ) × Side)
said_from i seats deeds = answers (gather_from (sides_by (lane.Server i)) seats deeds) (owing (seat_at i seats.servers) (gather_from (orders_by (lane.Server i)) seats deeds))

-- behind a deed a start is up in a lane where it was before, or where this deed tried it
abbrev Comes : ℕ → Seats → LaneName → Item → Option Entry → ℕ → Type 0
Comes i seats l x entry s = held_at i (behind seats (did l x entry)) ≡ Some s → (held_at i seats ≡ Some s) ⊎ ((if same_lane (lane.Server i) l then tried_of entry else []) ≡ s ∷ [])

module _ (seats : Seats) (i : ℕ) (within : i < length seats.servers) (s : ℕ) where
  abbrev OwnComes : Item → Option Entry → Option ℕ → Bool → Type 0
  OwnComes x entry now up = now ≡ start_at i seats → up ≡ (seat_at i seats.servers).up → held_at i (behind seats (did (lane.Server i) x entry)) ≡ Some s → (held_at i seats ≡ Some s) ⊎ (tried_of entry ≡ s ∷ [])

  -- what is up there behind a cause, and behind none
  up_behind : (x : Item) (c : Cause) (outs : List Out) → held_at i (behind seats (did (lane.Server i) x (Some (record { cause = c; outs = outs })))) ≡ Some s → held_seat (seat_cause (seat_item (seat_at i seats.servers) x) x c) ≡ Some s
  up_behind x c outs h = sym ((start_acted seats i x c outs).here within).0 ∙ h

  none_behind : (x : Item) → held_at i (behind seats (did (lane.Server i) x None)) ≡ Some s → held_at i seats ≡ Some s
  none_behind x h = sym (item_held x (seat_at i seats.servers)) ∙ sym ((start_acted_none seats i x).here within).0 ∙ h

  come_ways : StartWays (λ x entry now up tail. OwnComes x entry now up)
  come_ways = record {
    up = λ n outs is u h. let now : held (start_at i seats) true ≡ Some s = up_behind (item.Posted posted.Up) (cause.Started n) outs h in let same : Some n ≡ Some s = ap (λ (o : Option ℕ). held o true) is ∙ now in let one : n ≡ s = cc in inr (ap (λ (k : ℕ). k ∷ []) one);
    failed = λ n outs is u h. let f : None ≡ Some s = up_behind (item.Posted posted.NoStart) (cause.StartFailed n) outs h in absurd cc;
    word = λ n tail body outs is u h. inl (up_behind (item.Posted (posted.Body body)) (cause.FromServer n body) outs h);
    over = λ n tail w outs real is u h. let f : None ≡ Some s = up_behind (item.Posted (posted.Ended w)) (cause.ServerGone n) outs h in absurd cc;
    broke = λ n tail outs is u h. let f : None ≡ Some s = up_behind (item.Side side.Broke) (cause.ServerGone n) outs h in absurd cc;
    idle = λ sd now up tail is u h. inl (none_behind (item.Side sd) h);
    late = λ body now up free is u h. inl (none_behind (item.Posted (posted.Body body)) h);
    late_end = λ w now up free is u h. inl (none_behind (item.Posted (posted.Ended w)) h);
  }

  far_comes : (l : LaneName) (x : Item) (entry : Option Entry) → l ≢ lane.Server i → Comes i seats l x entry s
  far_comes l x entry off h = inl (sym (other_lane l x entry seats i off).held ∙ h)

  pub comes : (l : LaneName) (x : Item) (entry : Option Entry) → Meant (meaning seats l x) entry → Comes i seats l x entry s
  comes (lane.Editor j) x entry m = far_comes (lane.Editor j) x entry (λ e. absurd cc)
  comes lane.Ticker x entry m = far_comes lane.Ticker x entry (λ e. absurd cc)
  comes (lane.Server j) x entry m = ⊎_elim
      (λ (t : ((i == j) ≡ true) × (i ≡ j)).
      subst (λ (b : Bool). held_at i (behind seats (did (lane.Server j) x entry)) ≡ Some s → (held_at i seats ≡ Some s) ⊎ ((if b then tried_of entry else []) ≡ s ∷ [])) (sym t.0)
      (subst (λ (k : ℕ). Meant (meaning seats (lane.Server k) x) entry → held_at i (behind seats (did (lane.Server k) x entry)) ≡ Some s → (held_at i seats ≡ Some s) ⊎ (tried_of entry ≡ s ∷ [])) t.1
      (λ m. by_try (λ x entry now up tail. OwnComes x entry now up) come_ways seats i x entry m refl refl) m))
      (λ (t : ((i == j) ≡ false) × (i ≢ j)). far_comes (lane.Server j) x entry (λ e. let same : j ≡ i = cc in t.1 (sym same)))
      (eqb_tells i j)

  -- a start that goes by a deed is up in its lane
  abbrev IsUp : Item → Option Entry → Option ℕ → Bool → Type 0
  IsUp x entry now up = now ≡ start_at i seats → up ≡ (seat_at i seats.servers).up → (q : ℕ) (y : Item) → slice_get (went_of s x entry) q ≡ Some y → held_at i seats ≡ Some s

  was_up : (x : Item) (c : Cause) (n : ℕ) → c ≡ cause.ServerGone n → Some n ≡ start_at i seats → true ≡ (seat_at i seats.servers).up → (q : ℕ) (y : Item) → slice_get (went_in s x c) q ≡ Some y → held_at i seats ≡ Some s
  was_up x c n gone is u q y at =
      let w : cause.ServerGone n ≡ cause.ServerGone s = sym gone ∙ (went_items s x c q y at).1 in
      let same : n ≡ s = cc in
      ap (λ (o : Option ℕ). held o (seat_at i seats.servers).up) (sym is) ∙ ap (λ (b : Bool). held (Some n) b) (sym u) ∙ ap Some same

  up_ways : StartWays (λ x entry now up tail. IsUp x entry now up)
  up_ways = record {
    up = λ n outs is u q y at. absurd cc;
    failed = λ n outs is u q y at. absurd cc;
    word = λ n tail body outs is u q y at. absurd cc;
    over = λ n tail w outs real is u q y at. was_up (item.Posted (posted.Ended w)) (cause.ServerGone n) n refl is u q y at;
    broke = λ n tail outs is u q y at. was_up (item.Side side.Broke) (cause.ServerGone n) n refl is u q y at;
    idle = λ sd now up tail is u q y at. absurd cc;
    late = λ body now up free is u q y at. absurd cc;
    late_end = λ w now up free is u q y at. absurd cc;
  }

  pub went_up : (x : Item) (entry : Option Entry) → Meant (meaning seats (lane.Server i) x) entry → (q : ℕ) (y : Item) → slice_get (went_of s x entry) q ≡ Some y → held_at i seats ≡ Some s
  went_up x entry m q y at = by_try (λ x entry now up tail. IsUp x entry now up) up_ways seats i x entry m refl refl q y at

-- each start that is up was tried before in its lane
abbrev AllTried : ℕ → Seats → (ℕ → List ℕ) → Type 0
AllTried m seats before = (i s : ℕ) → i < m → held_at i seats ≡ Some s → (k : ℕ) × (slice_get (before i) k ≡ Some s)

at_front : (xs ys : List ℕ) (k x : ℕ) → slice_get xs k ≡ Some x → slice_get (xs ++ ys) k ≡ Some x
at_front [] ys k x at = absurd cc
at_front (y ∷ xs) ys zero x at = at
at_front (y ∷ xs) ys (suc k) x at = at_front xs ys k x at

abbrev with_tried : (ℕ → List ℕ) → Seats → Deed → ℕ → List ℕ
with_tried before seats d i = before i ++ tried_by (lane.Server i) seats d

record Found (m : ℕ) (seats : Seats) (before : ℕ → List ℕ) (deeds : List Deed) (s : ℕ) : Type 0 where
  pub number : ℕ
  pub within : number < m
  pub place : ℕ
  pub bytes : ℕ
  pub at : slice_get (said_from number seats deeds) place ≡ Some ((s, bytes), side.Broke)
  pub tried : ℕ
  pub tried_at : slice_get (before number ++ gather_from (tried_by (lane.Server number)) seats deeds) tried ≡ Some s

-- the lane of the deed by which a start went
went_lane : (seats : Seats) (l : LaneName) (x : Item) (entry : Option Entry) (s q : ℕ) (y : Item) → Meant (meaning seats l x) entry → slice_get (went_of s x entry) q ≡ Some y → (j : ℕ) × (l ≡ lane.Server j)
went_lane seats l x None s q y m at = absurd cc
went_lane seats l x (Some en) s q y m at =
    let w = went_items s x en.cause q y at in
    let h = start_here seats l x en s m (ap start_of w.1) in (h.place, h.lane)

found : (n m : ℕ) (deeds : List Deed) (seats : Seats) (before : ℕ → List ℕ) → AllTried m seats before → FairFrom seats deeds → AllIn n m deeds → length seats.servers ≡ m → ((s : ℕ) → total s seats + spawns s (gather_from entries_by seats deeds) ≤ 1)
    → ((i : ℕ) → i < m → AllOf (Past seats deeds) (seat_at i seats.servers).owed) → (s p : ℕ) → slice_get (gather_from (went_by s) seats deeds) p ≡ Some (item.Side side.Broke) → Found m seats before deeds s
found n m [] seats before known fair ins len once low s p at = absurd cc
found n m (d ∷ deeds) seats before known fair ins len once low s p at =
    let after = behind seats d in
    let rest = gather_from entries_by after deeds in
    let same = server_len d.lane d.item d.entry seats in
    ⊎_elim (λ t. here t.0 t.1)
    (λ t. there (found n m deeds after (with_tried before seats d) still_known fair.1 ins.1 (same ∙ len) (λ s. let h = once s in let e = spawns_append s (entries_in d.entry) rest in let g = deed_total s seats d.lane d.item d.entry fair.0 in omega (arith, h, e, g))
    (λ i h. all_up (Past seats (d ∷ deeds)) (Past after deeds) (seat_at i after.servers).owed (λ s none. past_up d deeds seats s none) (more i h).owed) s t.0 t.1))
    (at_either (went_of s d.item d.entry) (gather_from (went_by s) after deeds) p (item.Side side.Broke) at)
  where
    within : (i : ℕ) → i < m → i < length seats.servers
    within i h = omega (arith, len, h)

    still_known : AllTried m (behind seats d) (with_tried before seats d)
    still_known i s h up = ⊎_elim
        (λ was. let k = known i s h was in (k.0, at_front (before i) (tried_by (lane.Server i) seats d) k.0 s k.1))
        (λ here. (length (before i) + 0, at_behind (before i) (tried_by (lane.Server i) seats d) 0 (length (before i) + 0) s refl (ap (λ l. slice_get l 0) here)))
        (comes seats i (within i h) s d.lane d.item d.entry fair.0 up)

    now_past : (i e : ℕ) → start_at i seats ≡ Some e → Past seats (d ∷ deeds) e
    now_past i e at = let h = once e in let one = seated_one e seats.servers i at in omega (arith, h, one)

    more : (i : ℕ) (h : i < m) → Adds seats i (within i h) (Past seats (d ∷ deeds)) (low i h) (now_past i) d.lane d.item d.entry
    more i h = adds seats i (within i h) (Past seats (d ∷ deeds)) (low i h) (now_past i) d.lane d.item d.entry fair.0

    all : (i : ℕ) (h : i < m) → said_from i seats (d ∷ deeds) ≡ (more i h).added ++ said_from i (behind seats d) deeds
    all i h = (more i h).are (gather_from (orders_by (lane.Server i)) (behind seats d) deeds) (gather_from (sides_by (lane.Server i)) (behind seats d) deeds) (λ e none. unbegun_from i (d ∷ deeds) seats e (within i h) none)

    here : (q : ℕ) → slice_get (went_of s d.item d.entry) q ≡ Some (item.Side side.Broke) → Found m seats before (d ∷ deeds) s
    here q at =
        let e = went_lane seats d.lane d.item d.entry s q (item.Side side.Broke) fair.0 at in
        let h : e.0 < m = subst (λ (l : LaneName). IsIn n m l) e.1 ins.0 in
        let own : same_lane (lane.Server e.0) d.lane ≡ true = ap (same_lane (lane.Server e.0)) e.1 ∙ self e.0 in
        let o = (more e.0 h).says own s q at in
        let k = known e.0 s h (went_up seats e.0 (within e.0 h) s d.item d.entry (subst (λ (l : LaneName). Meant (meaning seats l d.item) d.entry) e.1 fair.0) q (item.Side side.Broke) at) in
        record { number = e.0; within = h; place = 0; bytes = o.0; at = ap (λ l. slice_get l 0) (all e.0 h ∙ ap (λ l. l ++ said_from e.0 (behind seats d) deeds) o.1); tried = k.0; tried_at = at_front (before e.0) (gather_from (tried_by (lane.Server e.0)) seats (d ∷ deeds)) k.0 s k.1 }

    there : Found m (behind seats d) (with_tried before seats d) deeds s → Found m seats before (d ∷ deeds) s
    there r =
        let added = (more r.number r.within).added in
        record {
          number = r.number;
          within = r.within;
          place = length added + r.place;
          bytes = r.bytes;
          at = ap (λ l. slice_get l (length added + r.place)) (all r.number r.within) ∙ at_behind added (said_from r.number (behind seats d) deeds) r.place (length added + r.place) ((s, r.bytes), side.Broke) refl r.at;
          tried = r.tried;
          tried_at = ap (λ l. slice_get l r.tried) (sym (append_assoc (before r.number) (tried_by (lane.Server r.number) seats d) (gather_from (tried_by (lane.Server r.number)) (behind seats d) deeds))) ∙ r.tried_at;
        }

pub start_failed_answered : StartFailedAnswered
start_failed_answered n m deeds fair ins once s k at =
    let seats = start n m in
    let count : length seats.servers ≡ m = many_free m in
    let all : (s : ℕ) → total s seats + spawns s (gather_from entries_by seats deeds) ≤ 1 = λ s. (let h = once s in let z = none_seated s m in omega (arith, h, z)) in
    let free : (i : ℕ) → AllOf (Past seats deeds) (seat_at i seats.servers).owed = λ i. subst (λ (t : Seat). AllOf (Past seats deeds) t.owed) (sym (all_free m i)) tt in
    let r = found n m deeds seats (λ i. []) (λ i s h up. let none : None ≡ Some s = sym (ap held_seat (all_free m i)) ∙ up in absurd cc) fair ins count all (λ i h. free i) s k at in (
      r.bytes,
      record {
        number = r.number;
        within = r.within;
        place = r.place;
        at = subst (λ t. slice_get (answers (gather_from (sides_by (lane.Server r.number)) seats deeds) (owing t (gather_from (orders_by (lane.Server r.number)) seats deeds))) r.place ≡ Some ((s, r.bytes), side.Broke)) (all_free m r.number) r.at;
        once = once_from r.number deeds seats (let h = r.within in omega (arith, h, count)) fair all;
        tried = r.tried;
        tried_at = r.tried_at;
      },
    )
