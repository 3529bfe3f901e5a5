-- What one turn leaves: a deed more, or a spent deck.
use Rattle.std.proofs.Common.{◌≡◌, ◌≢◌, ℕ, zero, suc, ◌+◌, ◌<◌, ◌≤◌, ◌==◌, ◌⊎◌, inl, inr, ⊎_elim, if◌then◌else◌, List, [], ◌∷◌, ◌++◌, Bool, true, false, not, IsTrue, fold, length, map, refl, sym, ap, ◌∙◌, subst, arith, append-nil, Option, Some, None}
use Rattle.std.proofs.lemmas.Option.{slice_get_within}
use Rattle.std.proofs.lemmas.Bool.{and_parts}
use Rattle.std.proofs.lemmas.Bool.Decides.{nat_tests}
use Rattle.std.specs.List.{position_or_len}
use Rattle.std.proofs.lemmas.Grind.{common_steps}
use Rattle.std.proofs.lemmas.List.Sums.{fails_before_first}
use Rattle.std.proofs.lemmas.List.Sums.{fold-append}
use Rattle.mux_history.specs.declared.cause.Cause.{Cause}
use Rattle.mux_history.specs.declared.cause.Cause.TheVariants as cause
use Rattle.mux_history.specs.declared.entry.Entry.{Entry}
use Rattle.mux_history.specs.declared.out.Out.{Out}
use Rattle.mux_history.specs.Cores.{joined, spawns}
use Rattle.mux_steps.specs.declared.fault.StepFault.{StepFault}
use Rattle.mux_steps.specs.declared.fault.StepFault.TheVariants as fault
use Rattle.lane_lists.specs.declared.item.LaneName.{LaneName}
use Rattle.lane_lists.specs.declared.item.LaneName.TheVariants as lane
use Rattle.lane_lists.specs.declared.item.Item.{Item}
use Rattle.lane_lists.specs.declared.item.Item.TheVariants as item
use Rattle.lane_lists.specs.declared.item.Posted.TheVariants as posted
use Rattle.lane_lists.specs.declared.item.Side.TheVariants as side
use Rattle.lane_lists.specs.declared.item.Meaning.TheVariants as meant
use Rattle.lane_lists.specs.Seats as lists
use Rattle.lane_lists.specs.Seats.{Seat, Seats, free_seat, give_out, meaning, on_seat, seat_at, seat_item, seat_of}
use Rattle.lane_lists.specs.Deeds.{Deed, Fair, behind, begin_all, entries, entries_by, entries_in, given, given_entry, only, orders, orders_by, posted_in, posts, posts_by, same_lane, seats_of, side_in, sides, sides_by, start, with_done}
use Rattle.lane_lists.proofs.Gathers.{fair_more, gather_more}
use Rattle.lane_queue.specs.Ends.{HubSide}
use Rattle.lane_desk.specs.declared.kinds.Kind.{Kind}
use Rattle.lane_desk.specs.declared.kinds.Kind.TheVariants as kind
use Rattle.lane_desk.specs.declared.kinds.Mark.{Mark}
use Rattle.lane_desk.specs.Kinds.{done_if, is_side, kind_of, mark_of, marked, moved}
use Rattle.lane_desk.specs.Givens.{given_by}
use Rattle.lane_lists.specs.Origins.{AllIn, IsIn}
use Rattle.lane_lists.proofs.LastJoined.{last_more, last_new}
use Rattle.lane_desk.specs.Places.{name, place}
use Rattle.lane_desk.specs.Stops.{has_no_editor, is_last, last_behind, taken_place}
use Rattle.lane_desk.specs.Desks.{Acted, Became, Dealt, Did, Each, EndsAre, Failed, Kept, OwnLast, Pairwise, Same, Took, ids, posted_at, side_at}
use Rattle.lane_desk.proofs.Ends.{all_same, became, same_ids, tells, through}

-- an item and a cause by what they leave
side_same : (i : Item) → is_side (mark_of i) ≡ lists.is_side i
side_same (item.Side side.Wrote) = refl
side_same (item.Side side.Broke) = refl
side_same (item.Posted posted.Link) = refl
side_same (item.Posted posted.Up) = refl
side_same (item.Posted posted.NoStart) = refl
side_same (item.Posted (posted.Body body)) = refl
side_same (item.Posted (posted.Ended w)) = refl
side_same (item.Posted (posted.Tick t)) = refl

pub item_marked : (i : Item) (l : LaneName) (s : Seats) → on_seat l (λ x. seat_item x i) s ≡ on_seat l (marked (mark_of i)) s
item_marked (item.Side side.Wrote) l s = refl
item_marked (item.Side side.Broke) l s = refl
item_marked (item.Posted posted.Link) l s = refl
item_marked (item.Posted posted.Up) l s = refl
item_marked (item.Posted posted.NoStart) l s = refl
item_marked (item.Posted (posted.Body body)) l s = refl
item_marked (item.Posted (posted.Ended w)) l s = refl
item_marked (item.Posted (posted.Tick t)) l s = refl

module _ (i : Item) (l : LaneName) (s : Seats) (outs : List Out) where
  abbrev gone : Bool → lists.Given
  gone b = begin_all (fold give_out (with_done (done_if kind.Goes (seat_of l s).closed) l (record (on_seat l (moved b kind.Goes) s) { joined = s.joined })) outs)

  pub given_is : (c : Cause) → given_entry s l i (Some record { cause = c; outs = outs }) ≡ given_by s l (is_side (mark_of i)) (kind_of c) outs
  given_is (cause.Joined e) = refl
  given_is (cause.FromEditor e body) = refl
  given_is (cause.EditorGone e w) = sym (ap gone (side_same i))
  given_is (cause.Started n) = refl
  given_is (cause.StartFailed n) = sym (ap gone (side_same i))
  given_is (cause.FromServer n body) = refl
  given_is (cause.ServerGone n) = sym (ap gone (side_same i))
  given_is (cause.Drained e k) = refl
  given_is (cause.Tick t) = refl

-- an item taken of one lane
pub record TookAt (l taken : LaneName) (x : Item) (p q : HubSide) : Type 0 where
  pub posted : q.posted.taken ≡ p.posted.taken ++ (if same_lane l taken then posted_in x else [])
  pub sides : q.sides.taken ≡ p.sides.taken ++ (if same_lane l taken then side_in x else [])
  pub pushed : q.orders.pushed ≡ p.orders.pushed

same_test : (i j : ℕ) → j ≡ i → (i == j) ≡ true
same_test i j h = grind (arith, nat_tests)

other_test : (i j : ℕ) → j ≢ i → (j == i) ≡ false
other_test i j h = grind (arith, nat_tests)

module _ (n m : ℕ) (l : LaneName) (x : Item) (k : IsIn n m l) where
  pub took_each : (old new : List HubSide) → length old ≡ n + m + 1 → Became (place n m l) (Took x) old new → Pairwise (λ i. TookAt (name n m i) l x) old new
  took_each old new e b = became (place n m l) (Took x) (λ i. TookAt (name n m i) l x) old new b
      (λ p q at t.
      let here : same_lane (name n m (place n m l)) l ≡ true = tells n m (place n m l) l (let h = slice_get_within old (place n m l) p at in omega arith) k ∙ same_test (place n m l) (place n m l) refl in
      record { posted = t.posted ∙ ap (λ b. p.posted.taken ++ (if b then posted_in x else [])) (sym here); sides = t.sides ∙ ap (λ b. p.sides.taken ++ (if b then side_in x else [])) (sym here); pushed = t.pushed })
      (λ j p apart at.
      let there : same_lane (name n m j) l ≡ false = tells n m j l (let h = slice_get_within old j p at in omega arith) k ∙ other_test (place n m l) j apart in
      record { posted = sym (append-nil p.posted.taken) ∙ ap (λ b. p.posted.taken ++ (if b then posted_in x else [])) (sym there); sides = sym (append-nil p.sides.taken) ∙ ap (λ b. p.sides.taken ++ (if b then side_in x else [])) (sym there); pushed = refl })

-- what one more deed adds
module _ (n m : ℕ) (deeds : List Deed) (l : LaneName) (x : Item) (entry : Option Entry) where
  abbrev deed : Deed
  deed = record { lane = l; item = x; entry = entry }

  more_posts : (k : LaneName) → posts n m k (deeds ++ deed ∷ []) ≡ posts n m k deeds ++ (if same_lane k l then posted_in x else [])
  more_posts k = gather_more (posts_by k) (start n m) deeds deed

  more_sides : (k : LaneName) → sides n m k (deeds ++ deed ∷ []) ≡ sides n m k deeds ++ (if same_lane k l then side_in x else [])
  more_sides k = gather_more (sides_by k) (start n m) deeds deed

  more_orders : (k : LaneName) → orders n m k (deeds ++ deed ∷ []) ≡ orders n m k deeds ++ only k (given (seats_of n m deeds) deed).orders
  more_orders k = gather_more (orders_by k) (start n m) deeds deed

  more_seats : seats_of n m (deeds ++ deed ∷ []) ≡ (given (seats_of n m deeds) deed).seats
  more_seats = fold-append behind (start n m) deeds (deed ∷ [])

-- each deed is of a lane that is there
pub all_in_more : (n m : ℕ) (deeds : List Deed) (deed : Deed) → AllIn n m deeds → IsIn n m deed.lane → AllIn n m (deeds ++ deed ∷ [])
all_in_more n m [] deed all here = (here, tt)
all_in_more n m (d ∷ deeds) deed all here = (all.0, all_in_more n m deeds deed all.1 here)

-- the last editor that joined, a deed on
pub own_more : (n m : ℕ) (deeds : List Deed) (deed : Deed) → joined (entries_in deed.entry) ≡ 0 → OwnLast n m deeds → OwnLast n m (deeds ++ deed ∷ [])
own_more n m deeds deed none o = record { number = o.number; is_last = o.is_last; joined = last_more n m o.number deeds deed none o.joined }

-- no lane has an editor
seat_or : (l : List Seat) (k : ℕ) → (k < length l) ⊎ (seat_at k l ≡ free_seat)
seat_or [] k = inr refl
seat_or (x ∷ xs) zero = inl (omega arith)
seat_or (x ∷ xs) (suc k) = ⊎_elim (λ w. inl (omega arith)) (λ e. inr e) (seat_or xs k)

is_none_is : (o : Option ℕ) → lists.is_none o ≡ true → o ≡ None
is_none_is None h = refl
is_none_is (Some n) h = absurd cc

not_taken : (o : Option ℕ) → not (lists.is_none o) ≡ false → o ≡ None
not_taken None h = refl
not_taken (Some n) h = absurd cc

none_there : (l : List Seat) (k : ℕ) → lists.is_none (taken_place l) ≡ true → (seat_at k l).now ≡ None
none_there l k h =
    let free : taken_place l ≡ None = is_none_is (taken_place l) h in
    let none : length l ≤ position_or_len (λ (seat : Seat). not (lists.is_none seat.now)) l = grind (arith, common_steps) in
    ⊎_elim
    (λ w. not_taken (seat_at k l).now (fails_before_first (λ (seat : Seat). not (lists.is_none seat.now)) l k free_seat (omega arith)))
    (λ e. ap (λ (s : Seat). s.now) e)
    (seat_or l k)

own_behind : (n m : ℕ) (deeds : List Deed) (l : LaneName) (x : Item) (c : Cause) (outs : List Out) (was_last : Bool) → Fair n m deeds → AllIn n m deeds → meaning (seats_of n m deeds) l x ≡ meant.Means c
    → last_behind n (seats_of n m deeds) l (kind_of c) was_last ≡ true → (was_last ≡ true → OwnLast n m deeds) → OwnLast n m (deeds ++ record { lane = l; item = x; entry = Some record { cause = c; outs = outs } } ∷ [])
own_behind n m deeds (lane.Editor i) x (cause.Joined e) outs was_last fair lanes means h own =
    let p = and_parts (is_last n (lane.Editor i)) (has_no_editor (seats_of n m deeds)) h in
    record {
      number = i;
      is_last = (let t = p.0 in grind (arith, nat_tests));
      joined = last_new n m i deeds x (Some record { cause = cause.Joined e; outs = outs }) fair lanes means (λ k. none_there (seats_of n m deeds).editors k p.1) refl;
    }
own_behind n m deeds (lane.Server i) x (cause.Joined e) outs was_last fair lanes means h own = absurd cc
own_behind n m deeds lane.Ticker x (cause.Joined e) outs was_last fair lanes means h own = absurd cc
own_behind n m deeds l x (cause.FromEditor e body) outs was_last fair lanes means h own = own_more n m deeds (record { lane = l; item = x; entry = Some record { cause = cause.FromEditor e body; outs = outs } }) refl (own h)
own_behind n m deeds l x (cause.EditorGone e w) outs was_last fair lanes means h own = own_more n m deeds (record { lane = l; item = x; entry = Some record { cause = cause.EditorGone e w; outs = outs } }) refl (own h)
own_behind n m deeds l x (cause.Started s) outs was_last fair lanes means h own = own_more n m deeds (record { lane = l; item = x; entry = Some record { cause = cause.Started s; outs = outs } }) refl (own h)
own_behind n m deeds l x (cause.StartFailed s) outs was_last fair lanes means h own = own_more n m deeds (record { lane = l; item = x; entry = Some record { cause = cause.StartFailed s; outs = outs } }) refl (own h)
own_behind n m deeds l x (cause.FromServer s body) outs was_last fair lanes means h own = own_more n m deeds (record { lane = l; item = x; entry = Some record { cause = cause.FromServer s body; outs = outs } }) refl (own h)
own_behind n m deeds l x (cause.ServerGone s) outs was_last fair lanes means h own = own_more n m deeds (record { lane = l; item = x; entry = Some record { cause = cause.ServerGone s; outs = outs } }) refl (own h)
own_behind n m deeds l x (cause.Drained e k) outs was_last fair lanes means h own = own_more n m deeds (record { lane = l; item = x; entry = Some record { cause = cause.Drained e k; outs = outs } }) refl (own h)
own_behind n m deeds l x (cause.Tick t) outs was_last fair lanes means h own = own_more n m deeds (record { lane = l; item = x; entry = Some record { cause = cause.Tick t; outs = outs } }) refl (own h)

module _ {K : Type 0} (stands : K → List Entry → Type 0) (too_many : List Entry → Type 0) (n m : ℕ) where
  -- a deck of which it isn't known whether the last editor is of the last lane
  none_last : {all : Bool} {last last' : Bool} {why : Option StepFault} (core : K) (ends : List HubSide) (seats : Seats) → (last' ≡ true → ⊥) → Kept stands too_many n m all last why core ends seats → Kept stands too_many n m all last' why core ends seats
  none_last core ends seats no_last k = record {
    deeds = k.deeds;
    fair = k.fair;
    lanes = k.lanes;
    own_last = λ e. absurd (no_last e);
    stands_for = k.stands_for;
    once = k.once;
    numbers = k.numbers;
    more = k.more;
    none_more = k.none_more;
    ends_are = k.ends_are;
    seats_are = k.seats_are;
  }

  -- a deck that goes on no more
  pub kept_over : (last : Bool) (why : Option StepFault) (core : K) (ends : List HubSide) (seats seats' : Seats) → Kept stands too_many n m true last why core ends seats → Kept stands too_many n m false last why core ends seats'
  kept_over last why core ends seats seats' k = record {
    deeds = k.deeds;
    fair = k.fair;
    lanes = k.lanes;
    own_last = k.own_last;
    stands_for = k.stands_for;
    once = k.once;
    numbers = k.numbers;
    more = k.more;
    none_more = λ e. absurd cc;
    ends_are = λ i x at. let w = k.ends_are i x at in record { posted = w.posted; sides = w.sides; rest = w.rest; pushed = w.pushed; whole = λ e. absurd cc };
    seats_are = λ e. absurd cc;
  }

  -- nothing was there
  pub kept_same : (last : Bool) (core : K) (place : ℕ) (old new : List HubSide) (seats : Seats) → Became place Same old new → Kept stands too_many n m true last None core old seats → Kept stands too_many n m true last None core new seats
  kept_same last core place old new seats b k = record {
    deeds = k.deeds;
    fair = k.fair;
    lanes = k.lanes;
    own_last = k.own_last;
    stands_for = k.stands_for;
    once = k.once;
    numbers = k.numbers;
    more = k.more;
    none_more = k.none_more;
    ends_are = through (λ i x. EndsAre n m k.deeds k.more true (name n m i) x) (λ i x. EndsAre n m k.deeds k.more true (name n m i) x) (λ _. Same) old new (all_same place old new b) k.ends_are
        (λ i p q within s w. record { posted = s.posted ∙ w.posted; sides = s.sides ∙ w.sides; rest = w.rest; pushed = w.pushed ∙ ap (λ ys. ys ++ w.rest) (sym s.pushed); whole = w.whole });
    seats_are = k.seats_are;
  }

  module _ (l : LaneName) (x : Item) (is_in : IsIn n m l) (old new : List HubSide) (size : length old ≡ n + m + 1) (b : Became (place n m l) (Took x) old new) where
    abbrev each : Pairwise (λ i. TookAt (name n m i) l x) old new
    each = took_each n m l x is_in old new size b

    -- an item that gave nothing
    pub kept_stray : (last : Bool) (why : Option StepFault) (core core' : K) (seats seats' : Seats) → (why ≡ Some fault.Numbers → (history : List Entry) → stands core history → too_many history) → ((history : List Entry) → stands core history → stands core' history)
        → Kept stands too_many n m true last None core old seats → Kept stands too_many n m false last why core' new seats'
    kept_stray last why core core' seats seats' numbers go k = record {
      deeds = k.deeds;
      fair = k.fair;
      lanes = k.lanes;
      own_last = k.own_last;
      stands_for = go (entries n m k.deeds) k.stands_for;
      once = k.once;
      numbers = λ e. numbers e (entries n m k.deeds) k.stands_for;
      more = Some (l, x);
      none_more = λ e. absurd cc;
      ends_are = through (λ i z. EndsAre n m k.deeds k.more true (name n m i) z) (λ i z. EndsAre n m k.deeds (Some (l, x)) false (name n m i) z) (λ i. TookAt (name n m i) l x) old new each k.ends_are
          (λ i p q within t w. record {
            posted = t.posted ∙ ap (λ ys. ys ++ (if same_lane (name n m i) l then posted_in x else [])) (w.posted ∙ ap (λ o. posts n m (name n m i) k.deeds ++ posted_at (name n m i) o) (k.none_more refl) ∙ append-nil (posts n m (name n m i) k.deeds));
            sides = t.sides ∙ ap (λ ys. ys ++ (if same_lane (name n m i) l then side_in x else [])) (w.sides ∙ ap (λ o. sides n m (name n m i) k.deeds ++ side_at (name n m i) o) (k.none_more refl) ∙ append-nil (sides n m (name n m i) k.deeds));
            rest = w.rest;
            pushed = w.pushed ∙ ap (λ ys. ys ++ w.rest) (sym t.pushed);
            whole = λ e. absurd cc;
          });
      seats_are = λ e. absurd cc;
    }

    -- the ends behind a deed, whose orders are still to be pushed
    pub record Behind (deeds : List Deed) (entry : Option Entry) (k : LaneName) (q : HubSide) : Type 0 where
      pub posted : q.posted.taken ≡ posts n m k (deeds ++ record { lane = l; item = x; entry = entry } ∷ [])
      pub sides : q.sides.taken ≡ sides n m k (deeds ++ record { lane = l; item = x; entry = entry } ∷ [])
      pub pushed : q.orders.pushed ++ only k (given (seats_of n m deeds) record { lane = l; item = x; entry = entry }).orders ≡ orders n m k (deeds ++ record { lane = l; item = x; entry = entry } ∷ [])

    pub ends_behind : (last : Bool) (core : K) (seats : Seats) (entry : Option Entry) (k : Kept stands too_many n m true last None core old seats) → Each (λ i q. Behind k.deeds entry (name n m i) q) new
    ends_behind last core seats entry k = through (λ i z. EndsAre n m k.deeds k.more true (name n m i) z) (λ i q. Behind k.deeds entry (name n m i) q) (λ i. TookAt (name n m i) l x) old new each k.ends_are
        (λ i p q within t w. record {
          posted = t.posted ∙ ap (λ ys. ys ++ (if same_lane (name n m i) l then posted_in x else [])) (w.posted ∙ ap (λ o. posts n m (name n m i) k.deeds ++ posted_at (name n m i) o) (k.none_more refl) ∙ append-nil (posts n m (name n m i) k.deeds)) ∙ sym (more_posts n m k.deeds l x entry (name n m i));
          sides = t.sides ∙ ap (λ ys. ys ++ (if same_lane (name n m i) l then side_in x else [])) (w.sides ∙ ap (λ o. sides n m (name n m i) k.deeds ++ side_at (name n m i) o) (k.none_more refl) ∙ append-nil (sides n m (name n m i) k.deeds)) ∙ sym (more_sides n m k.deeds l x entry (name n m i));
          pushed = ap (λ ys. ys ++ only (name n m i) (given (seats_of n m k.deeds) record { lane = l; item = x; entry = entry }).orders) (t.pushed ∙ sym (w.pushed ∙ ap (λ ys. p.orders.pushed ++ ys) (w.whole refl) ∙ append-nil p.orders.pushed)) ∙ sym (more_orders n m k.deeds l x entry (name n m i));
        })

    -- a late item
    pub kept_silent : (last : Bool) (core : K) (seats seats' : Seats) → meaning seats l x ≡ meant.Silent → seats' ≡ on_seat l (marked (mark_of x)) seats → Kept stands too_many n m true last None core old seats → Kept stands too_many n m true last None core new seats'
    kept_silent last core seats seats' silent s k =
        let deed : Deed = record { lane = l; item = x; entry = None } in
        let was : seats ≡ seats_of n m k.deeds = k.seats_are refl in record {
          deeds = k.deeds ++ deed ∷ [];
          fair = fair_more (start n m) k.deeds deed k.fair (subst (λ (z : Seats). meaning z l x ≡ meant.Silent) was silent);
          lanes = all_in_more n m k.deeds deed k.lanes is_in;
          own_last = λ e. own_more n m k.deeds deed refl (k.own_last e);
          stands_for = subst (λ (h : List Entry). stands core h) (sym (gather_more entries_by (start n m) k.deeds deed ∙ append-nil (entries n m k.deeds))) k.stands_for;
          once = λ s. subst (λ (h : List Entry). spawns s h ≤ 1) (sym (gather_more entries_by (start n m) k.deeds deed ∙ append-nil (entries n m k.deeds))) (k.once s);
          numbers = λ e. absurd cc;
          more = None;
          none_more = λ _. refl;
          ends_are = λ i q at. let w = ends_behind last core seats None k i q at in record {
            posted = w.posted ∙ sym (append-nil (posts n m (name n m i) (k.deeds ++ deed ∷ [])));
            sides = w.sides ∙ sym (append-nil (sides n m (name n m i) (k.deeds ++ deed ∷ [])));
            rest = [];
            pushed = sym w.pushed;
            whole = λ _. refl;
          };
          seats_are = λ _. s ∙ sym (item_marked x l seats) ∙ ap (λ z. on_seat l (λ y. seat_item y x) z) was ∙ sym (more_seats n m k.deeds l x None);
        }

    -- what the core did
    pub kept_acted : (c : Cause) (all was_last last : Bool) (why : Option StepFault) (core core' : K) (given_ends : List HubSide) (seats seats' : Seats) → meaning seats l x ≡ meant.Means c → (last ≡ true → (all ≡ true) × (last_behind n seats l (kind_of c) was_last ≡ true))
        → Acted stands too_many n m l (mark_of x) c all why core core' new given_ends seats seats' → Kept stands too_many n m true was_last None core old seats → Kept stands too_many n m all last why core' given_ends seats'
    kept_acted c all was_last last why core core' given_ends seats seats' means own (Failed a numbers go same) k =
        subst (λ (b : Bool). Kept stands too_many n m b last why core' given_ends seats') (sym a)
        (subst (λ (z : List HubSide). Kept stands too_many n m false last why core' z seats') (sym same) (none_last core' new seats' (λ e. let f : true ≡ false = sym (own e).0 ∙ a in absurd cc) (kept_stray was_last why core core' seats seats' numbers go k)))
    kept_acted c all was_last last why core core' given_ends seats seats' means own (Did calm outs go few dealt lanes) k =
        let entry : Entry = record { cause = c; outs = outs } in
        let deed : Deed = record { lane = l; item = x; entry = Some entry } in
        let was : seats ≡ seats_of n m k.deeds = k.seats_are refl in
        let gives : given_by (on_seat l (marked (mark_of x)) seats) l (is_side (mark_of x)) (kind_of c) outs ≡ given (seats_of n m k.deeds) deed =
        ap (λ z. given_by z l (is_side (mark_of x)) (kind_of c) outs) (sym (item_marked x l seats)) ∙ sym (given_is x l (on_seat l (λ y. seat_item y x) seats) outs c) ∙ ap (λ z. given z deed) was in
        let meant_so : meaning (seats_of n m k.deeds) l x ≡ meant.Means c = subst (λ (z : Seats). meaning z l x ≡ meant.Means c) was means in
        record {
          deeds = k.deeds ++ deed ∷ [];
          fair = fair_more (start n m) k.deeds deed k.fair meant_so;
          lanes = all_in_more n m k.deeds deed k.lanes is_in;
          own_last = λ e. own_behind n m k.deeds l x c outs was_last k.fair k.lanes meant_so (subst (λ (z : Seats). last_behind n z l (kind_of c) was_last ≡ true) was (own e).1) k.own_last;
          stands_for = subst (λ (h : List Entry). stands core' h) (sym (gather_more entries_by (start n m) k.deeds deed)) (go (entries n m k.deeds) k.stands_for);
          once = λ s. subst (λ (h : List Entry). spawns s h ≤ 1) (sym (gather_more entries_by (start n m) k.deeds deed)) (few (entries n m k.deeds) s k.stands_for);
          numbers = λ e. let f : None ≡ Some fault.Numbers = sym calm ∙ e in absurd cc;
          more = None;
          none_more = λ _. refl;
          ends_are = through (λ i q. Behind k.deeds (Some entry) (name n m i) q) (λ i q. EndsAre n m (k.deeds ++ deed ∷ []) None all (name n m i) q)
              (λ i. Dealt (name n m i) (given_by (on_seat l (marked (mark_of x)) seats) l (is_side (mark_of x)) (kind_of c) outs).orders [] all) new given_ends dealt (ends_behind was_last core seats (Some entry) k)
              (λ i q r within d w. record {
                posted = d.posted ∙ w.posted ∙ sym (append-nil (posts n m (name n m i) (k.deeds ++ deed ∷ [])));
                sides = d.sides ∙ w.sides ∙ sym (append-nil (sides n m (name n m i) (k.deeds ++ deed ∷ [])));
                rest = d.rest;
                pushed = sym w.pushed ∙ ap (λ (g : lists.Given). q.orders.pushed ++ only (name n m i) g.orders) (sym gives) ∙ sym d.pushed ∙ append-nil (r.orders.pushed ++ d.rest);
                whole = d.whole;
              });
          seats_are = λ a. lanes a ∙ ap (λ (g : lists.Given). g.seats) gives ∙ sym (more_seats n m k.deeds l x (Some entry));
        }

-- the core gave an entry, and its orders were given
pub did_give : {K : Type 0} (stands : K → List Entry → Type 0) (too_many : List Entry → Type 0) (n m : ℕ) (l : LaneName) (x : Mark) (c : Cause) (gave spent : Bool) (why : Option StepFault) (core core' : K) (old new : List HubSide) (seats mid seats' : Seats) (k : Kind) (outs : List Out)
    → not spent ≡ gave → why ≡ None → mid ≡ on_seat l (marked x) seats → k ≡ kind_of c → ((history : List Entry) → stands core history → stands core' (history ++ record { cause = c; outs = outs } ∷ []))
    → ((history : List Entry) (s : ℕ) → stands core history → spawns s (history ++ record { cause = c; outs = outs } ∷ []) ≤ 1)
    → Pairwise (λ i. Dealt (name n m i) (given_by mid l (is_side x) k outs).orders [] gave) old new → (IsTrue gave → seats' ≡ (given_by mid l (is_side x) k outs).seats)
    → Acted stands too_many n m l x c (not spent) why core core' old new seats seats'
did_give stands too_many n m l x c gave spent why core core' old new seats mid seats' k outs s calm e f go few dealt lanes =
    let d : Pairwise (λ i. Dealt (name n m i) (given_by (on_seat l (marked x) seats) l (is_side x) (kind_of c) outs).orders [] gave) old new =
    subst (λ (z : Seats). Pairwise (λ i. Dealt (name n m i) (given_by z l (is_side x) (kind_of c) outs).orders [] gave) old new) e (subst (λ (y : Kind). Pairwise (λ i. Dealt (name n m i) (given_by mid l (is_side x) y outs).orders [] gave) old new) f dealt) in
    subst (λ (b : Bool). Acted stands too_many n m l x c b why core core' old new seats seats') (sym s)
    (Did calm outs go few d (λ t. lanes t ∙ ap (λ (g : lists.Given). g.seats) (ap (λ z. given_by z l (is_side x) k outs) e ∙ ap (λ y. given_by (on_seat l (marked x) seats) l (is_side x) y outs) f)))

pub acted_ids : {K : Type 0} (stands : K → List Entry → Type 0) (too_many : List Entry → Type 0) (n m : ℕ) (l : LaneName) (x : Mark) (c : Cause) (all : Bool) (why : Option StepFault) (core core' : K) (old new : List HubSide) (seats seats' : Seats) → Acted stands too_many n m l x c all why core core' old new seats seats' → map ids new ≡ map ids old
acted_ids stands too_many n m l x c all why core core' old new seats seats' (Did calm outs go few dealt lanes) = same_ids (λ i. Dealt (name n m i) (given_by (on_seat l (marked x) seats) l (is_side x) (kind_of c) outs).orders [] all) old new dealt (λ i p q d. d.ids)
acted_ids stands too_many n m l x c all why core core' old new seats seats' (Failed a numbers go same) = ap (map ids) same
