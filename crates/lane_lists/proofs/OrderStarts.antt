-- The orders of a servers' lane, from some deed on and from the start.
use Rattle.std.proofs.Common.{◌≡◌, ◌≢◌, ℕ, ◌+◌, ◌==◌, ◌<◌, ◌≤◌, List, [], ◌∷◌, ◌++◌, Bool, true, false, not, if◌then◌else◌, fold, length, refl, sym, ap, ◌∙◌, subst, ◌⊎◌, inl, inr, ⊎_elim, arith, Option, append_assoc, append-nil}
use Rattle.std.specs.Prelude.{⊤}
use Rattle.std.specs.declared.option.Option.TheVariants.{Some, None}
use Rattle.std.proofs.lemmas.Bool.Decides.{eqb_tells}
use Rattle.mux_history.specs.declared.entry.Entry.{Entry}
use Rattle.mux_history.specs.declared.out.Out.{Out}
use Rattle.mux_history.specs.declared.out.Out.TheVariants as out
use Rattle.mux_history.specs.declared.cause.Cause.{Cause}
use Rattle.mux_history.specs.declared.cause.Cause.TheVariants as cause
use Rattle.mux_history.specs.Cores.{spawns, spawns_of_out, spawns_of_outs}
use Rattle.lane_lists.specs.declared.item.LaneName.{LaneName}
use Rattle.lane_lists.specs.declared.item.LaneName.TheVariants as lane
use Rattle.lane_lists.specs.declared.item.Posted.TheVariants as posted
use Rattle.lane_lists.specs.declared.item.Order.{Order}
use Rattle.lane_lists.specs.declared.item.Order.TheVariants as order
use Rattle.lane_lists.specs.declared.item.Item.{Item}
use Rattle.lane_lists.specs.declared.item.Item.TheVariants as item
use Rattle.lane_lists.specs.Seats.{Seat, Seats, seat_at, is_now, is_none, meaning, seat_cause, seat_item, place_of, on_seat, seat_of, done_at, Given, body_seat, close_seat, give, to_editor, to_server, drop_waiting, give_out, begin_seat, free_place, begin_at, begin_from}
use Rattle.lane_lists.specs.Sessions.{chain}
use Rattle.lane_lists.specs.Deeds.{Deed, start, behind, given, gather_from, same_lane, only, with_done, begin_all, entries_in, orders_by, entries_by, FairFrom, Meant, entries}
use Rattle.lane_lists.specs.History.{AllZip, Mark, Enters, Told, Closed, Leaves, entered}
use Rattle.lane_lists.specs.Starts.{start_of, next_seats, Matched}
use Rattle.lane_lists.specs.StartOrders.{start_mark_in, start_out_mark, start_out_marks, lane_mark, start_marks, began_in, began_from, began, StartOrders}
use Rattle.lane_lists.proofs.Ahead.{zip_map}
use Rattle.std.proofs.lemmas.List.{length-set}
use Rattle.lane_lists.proofs.Moves.{foreign, caused, did, set_like, twice, twice_either, twice_here}
use Rattle.lane_lists.proofs.BySession.{all_free, many_free}
use Rattle.lane_lists.proofs.ByOrders.{kept, Open, open_at, place_none, place_some, is_now_is}
use Rattle.lane_lists.proofs.Tally.{seated, waits, total, item_keeps, deed_total, seated_one, seated_apart, waits_append, waits_filter, spawns_append, none_seated}
use Rattle.lane_lists.proofs.StartLanes.{by_start, one_go, zip_place, zip_at, free_faces}
use Rattle.lane_lists.proofs.StartMoves.{start_at}
use Rattle.lane_lists.proofs.ByStart.{start_here, server_len}
use Rattle.lane_lists.proofs.ToStarts.{shut_at, outs_seated, begin_stay, Single, outs_gave, NoneBegun, OneBegun, begun}

-- the starts that wait grow by what is spawned alone
abbrev pub lined : ℕ → Seats → ℕ
lined s seats = waits s seats.waiting

to_editor_lined : (s : ℕ) (p : Option ℕ) (o : Order) (f : Seat → Seat) (g : Given) → lined s (to_editor p o f g).seats ≤ lined s g.seats
to_editor_lined s None o f g = omega arith
to_editor_lined s (Some i) o f g = elim ((seat_at i g.seats.editors).closed) as (λ b. lined s (if b then g else give (lane.Editor i) o f g).seats ≤ lined s g.seats) [ true ↦ omega arith | false ↦ omega arith ]

to_server_lined : (s : ℕ) (p : Option ℕ) (o : Order) (f : Seat → Seat) (g : Given) → lined s (to_server p o f g).seats ≤ lined s g.seats
to_server_lined s None o f g = omega arith
to_server_lined s (Some i) o f g = elim ((seat_at i g.seats.servers).closed) as (λ b. lined s (if b then g else give (lane.Server i) o f g).seats ≤ lined s g.seats) [ true ↦ omega arith | false ↦ omega arith ]

out_lined : (s : ℕ) (o : Out) (g : Given) → lined s (give_out g o).seats ≤ lined s g.seats + spawns_of_out s o
out_lined s (out.ToEditor e body) g = let r = to_editor_lined s (place_of e g.seats.editors) (order.Body body) (body_seat e body) g in omega arith
out_lined s (out.CloseEditor e) g = let r = to_editor_lined s (place_of e g.seats.editors) order.Close close_seat g in omega arith
out_lined s (out.ToServer n body) g = let r = to_server_lined s (place_of n g.seats.servers) (order.Body body) (body_seat n body) g in omega arith
out_lined s (out.EndServer n) g =
    let h : Given = record g { seats = drop_waiting n g.seats } in
    let r = to_server_lined s (place_of n g.seats.servers) order.Close close_seat h in
    let w = waits_filter s (λ w. not (w == n)) g.seats.waiting in omega arith
out_lined s (out.Spawn n group) g = let r = waits_append s g.seats.waiting (n ∷ []) in omega arith

outs_lined : (s : ℕ) (outs : List Out) (g : Given) → lined s (fold give_out g outs).seats ≤ lined s g.seats + spawns_of_outs s outs
outs_lined s [] g = omega arith
outs_lined s (o ∷ outs) g = let r = outs_lined s outs (give_out g o) in let q = out_lined s o g in omega arith

begin_at_lined : (s : ℕ) (p : Option ℕ) (n : ℕ) (rest : List ℕ) (g : Given) (more : Given → Given) → ((h : Given) → lined s (more h).seats ≤ waits s rest) → lined s (begin_at p n rest g more).seats ≤ waits s (n ∷ rest)
begin_at_lined s None n rest g more f = omega arith
begin_at_lined s (Some i) n rest g more f = let r = f (give (lane.Server i) (order.Begin n) (begin_seat n) g) in omega arith

begin_lined : (s : ℕ) (starts : List ℕ) (g : Given) → lined s (begin_from starts g).seats ≤ waits s starts
begin_lined s [] g = omega arith
begin_lined s (n ∷ rest) g = begin_at_lined s (free_place g.seats.servers) n rest g (λ h. begin_from rest h) (λ h. begin_lined s rest h)

-- the state behind the cause of an entry, with the orders that this gives, before the outs
abbrev pub marked : Seats → LaneName → Item → Seats
marked seats l x = on_seat l (λ s. seat_item s x) seats

abbrev pub first : Seats → LaneName → Item → Cause → Given
first seats l x c = with_done (done_at (seat_of l (marked seats l x)) c) l (caused (marked seats l x) l x c)

abbrev pub told : Seats → LaneName → Item → Cause → List Out → Given
told seats l x c outs = fold give_out (first seats l x c) outs

pub done_seats : (ds : List Order) (l : LaneName) (s : Seats) → (with_done ds l s).seats ≡ s
done_seats [] l s = refl
done_seats (o ∷ os) l s = refl

on_waiting : (l : LaneName) (f : Seat → Seat) (seats : Seats) → (on_seat l f seats).waiting ≡ seats.waiting
on_waiting (lane.Editor j) f seats = refl
on_waiting (lane.Server j) f seats = refl
on_waiting lane.Ticker f seats = refl

first_waiting : (seats : Seats) (l : LaneName) (x : Item) (c : Cause) → (first seats l x c).seats.waiting ≡ seats.waiting
first_waiting seats l x c =
    ap (λ (s : Seats). s.waiting) (done_seats (done_at (seat_of l (marked seats l x)) c) l (caused (marked seats l x) l x c)) ∙ on_waiting l (λ s. seat_cause s x c) (marked seats l x) ∙ on_waiting l (λ s. seat_item s x) seats

pub told_lined : (s : ℕ) (seats : Seats) (l : LaneName) (x : Item) (c : Cause) (outs : List Out) → lined s (told seats l x c outs).seats ≤ lined s seats + spawns_of_outs s outs
told_lined s seats l x c outs = let a = outs_lined s outs (first seats l x c) in let b : lined s (first seats l x c).seats ≡ lined s seats = ap (waits s) (first_waiting seats l x c) in omega arith

pub deed_lined : (s : ℕ) (seats : Seats) (l : LaneName) (x : Item) (entry : Option Entry) → lined s (behind seats (did l x entry)) ≤ lined s seats + spawns s (entries_in entry)
deed_lined s seats l x None = let e : lined s (marked seats l x) ≡ lined s seats = ap (waits s) (on_waiting l (λ s. seat_item s x) seats) in omega arith
deed_lined s seats l x (Some en) =
    let h : Given = told seats l x en.cause en.outs in
    let a = told_lined s seats l x en.cause en.outs in
    let b = begin_lined s h.seats.waiting h in omega arith

-- what is ahead
pub record LaterBegun (seats t : Seats) (history : List Entry) (s : ℕ) (part : List Order) : Type 0 where
  pub from : 1 ≤ lined s seats + spawns s history
  pub is : part ≡ order.Begin s ∷ kept (entered (start_marks s t history))

pub record OrdersAhead (seats t : Seats) (i : ℕ) (history : List Entry) (items : List Order) (ids : List ℕ) : Type 0 where
  pub front : List Order
  pub made : List (List Order)
  pub is : items ≡ front ++ chain made
  pub opened : Open (start_at i seats) (shut_at i seats) (λ s. start_marks s t history) front
  pub each : AllZip (LaterBegun seats t history) ids made

-- whether a start has a lane
unplaced : (s : ℕ) (l : List Seat) (p : Option ℕ) → place_of s l ≡ p → seated s l ≡ 0 → p ≡ None
unplaced s l None e none = refl
unplaced s l (Some k) e none = let one = seated_one s l k (place_some l s k e) in absurd (omega arith)

placed : (s i : ℕ) (l : List Seat) (p : Option ℕ) → place_of s l ≡ p → (seat_at i l).now ≡ Some s → is_none p ≡ false
placed s i l None e is = absurd (place_none l s i e is)
placed s i l (Some k) e is = refl

lane_none : (s : ℕ) (a t : Seats) → Matched a t → seated s a.servers ≡ 0 → lane_mark s t ≡ []
lane_none s a t m none =
    ap (λ (p : Option ℕ). if is_none p then [] else Enters ∷ []) (sym (zip_place (λ o. is_now o s) a.servers t.servers m.servers) ∙ unplaced s a.servers (place_of s a.servers) refl none)

lane_some : (s i : ℕ) (a t : Seats) → Matched a t → start_at i a ≡ Some s → lane_mark s t ≡ Enters ∷ []
lane_some s i a t m is =
    ap (λ (p : Option ℕ). if is_none p then [] else Enters ∷ []) (sym (zip_place (λ o. is_now o s) a.servers t.servers m.servers)) ∙ ap (λ (b : Bool). if b then [] else Enters ∷ []) (placed s i a.servers (place_of s a.servers) refl is)

kept_lane : (s : ℕ) (t : Seats) (ms : List Mark) → kept (lane_mark s t ++ ms) ≡ kept ms
kept_lane s t ms = elim (is_none (place_of s t.servers)) as (λ b. kept ((if b then [] else Enters ∷ []) ++ ms) ≡ kept ms) [ true ↦ refl | false ↦ refl ]

-- a start enters by its lane alone
entered_cause : (s : ℕ) (c : Cause) (ms : List Mark) → entered (start_mark_in s c ++ ms) ≡ entered ms
entered_cause s (cause.StartFailed n) ms = elim (n == s) as (λ b. entered ((if b then Leaves ∷ [] else []) ++ ms) ≡ entered ms) [ true ↦ refl | false ↦ refl ]
entered_cause s (cause.ServerGone n) ms = elim (n == s) as (λ b. entered ((if b then Leaves ∷ [] else []) ++ ms) ≡ entered ms) [ true ↦ refl | false ↦ refl ]
entered_cause s (cause.Started n) ms = refl
entered_cause s (cause.FromServer n body) ms = refl
entered_cause s (cause.Joined e) ms = refl
entered_cause s (cause.FromEditor e body) ms = refl
entered_cause s (cause.EditorGone e w) ms = refl
entered_cause s (cause.Drained e k) ms = refl
entered_cause s (cause.Tick t) ms = refl

entered_out : (s : ℕ) (o : Out) (ms : List Mark) → entered (start_out_mark s o ++ ms) ≡ entered ms
entered_out s (out.ToServer n body) ms = elim (n == s) as (λ b. entered ((if b then Told body ∷ [] else []) ++ ms) ≡ entered ms) [ true ↦ refl | false ↦ refl ]
entered_out s (out.EndServer n) ms = elim (n == s) as (λ b. entered ((if b then Closed ∷ [] else []) ++ ms) ≡ entered ms) [ true ↦ refl | false ↦ refl ]
entered_out s (out.ToEditor e body) ms = refl
entered_out s (out.CloseEditor e) ms = refl
entered_out s (out.Spawn n group) ms = refl

entered_outs : (s : ℕ) (outs : List Out) (ms : List Mark) → entered (start_out_marks s outs ++ ms) ≡ entered ms
entered_outs s [] ms = refl
entered_outs s (o ∷ outs) ms = ap entered (append_assoc (start_out_mark s o) (start_out_marks s outs) ms) ∙ entered_out s o (start_out_marks s outs ++ ms) ∙ entered_outs s outs ms

-- the marks of an entry, up to the lane behind it
entered_entry : (s : ℕ) (t : Seats) (en : Entry) (history : List Entry) → entered (start_marks s t (en ∷ history)) ≡ entered (lane_mark s (next_seats t en) ++ start_marks s (next_seats t en) history)
entered_entry s t en history =
    let rest = lane_mark s (next_seats t en) ++ start_marks s (next_seats t en) history in
    entered_cause s en.cause (start_out_marks s en.outs ++ rest) ∙ entered_outs s en.outs rest

-- causes that end no start of this number
unmarked : (s : ℕ) (c : Cause) → (start_of c ≡ Some s → ⊥) → start_mark_in s c ≡ []
unmarked s (cause.StartFailed n) off = ap (λ (b : Bool). if b then Leaves ∷ [] else []) (⊎_elim (λ t. absurd (off (ap Some t.1))) (λ t. t.0) (eqb_tells n s))
unmarked s (cause.ServerGone n) off = ap (λ (b : Bool). if b then Leaves ∷ [] else []) (⊎_elim (λ t. absurd (off (ap Some t.1))) (λ t. t.0) (eqb_tells n s))
unmarked s (cause.Started n) off = refl
unmarked s (cause.FromServer n body) off = refl
unmarked s (cause.Joined e) off = refl
unmarked s (cause.FromEditor e body) off = refl
unmarked s (cause.EditorGone e w) off = refl
unmarked s (cause.Drained e k) off = refl
unmarked s (cause.Tick t) off = refl

pub began_same : (now : Option ℕ) → began_in now now ≡ []
began_same None = refl
began_same (Some s) = let self : is_now (Some s) s ≡ true = grind arith in ap (λ (b : Bool). if b then [] else s ∷ []) self

pub began_new : (before : Option ℕ) (s : ℕ) → (before ≡ Some s → ⊥) → began_in before (Some s) ≡ s ∷ []
began_new before s off = (elim (is_now before s) as (λ b. is_now before s ≡ b → (if b then [] else s ∷ []) ≡ s ∷ []) [
  | true ↦ λ is. absurd (off (is_now_is before s is))
  | false ↦ λ is. refl
]) refl

open_says : (now : Option ℕ) (closed : Bool) (says says' : ℕ → List Mark) (items : List Order) → ((e : ℕ) → kept (says' e) ≡ kept (says e)) → Open now closed says items → Open now closed says' items
open_says None closed says says' items f o = o
open_says (Some e) true says says' items f o = o
open_says (Some e) false says says' items f o = o ∙ sym (f e)

on_len : (l : LaneName) (f : Seat → Seat) (seats : Seats) → length (on_seat l f seats).servers ≡ length seats.servers
on_len (lane.Editor j) f seats = refl
on_len (lane.Server j) f seats = length-set seats.servers j (f (seat_at j seats.servers))
on_len lane.Ticker f seats = refl

pub first_len : (seats : Seats) (l : LaneName) (x : Item) (c : Cause) → length (first seats l x c).seats.servers ≡ length seats.servers
first_len seats l x c =
    ap (λ (s : Seats). length s.servers) (done_seats (done_at (seat_of l (marked seats l x)) c) l (caused (marked seats l x) l x c)) ∙ on_len l (λ s. seat_cause s x c) (marked seats l x) ∙ on_len l (λ s. seat_item s x) seats

pub done_none : (i : ℕ) (ds : List Order) (l : LaneName) (s : Seats) → same_lane (lane.Server i) l ≡ false → only (lane.Server i) (with_done ds l s).orders ≡ []
done_none i [] l s f = refl
done_none i (o ∷ os) l s f = ap (λ (b : Bool). if b then o ∷ [] else []) f

pub self : (e : ℕ) → (e == e) ≡ true
self e = ⊎_elim (λ t. t.0) (λ t. absurd (t.1 refl)) (eqb_tells e e)

done_open : (i : ℕ) (b : Bool) (e : ℕ) (says : ℕ → List Mark) (rest : List Mark) (s : Seats) → says e ≡ Leaves ∷ rest → Open (Some e) b says (only (lane.Server i) (with_done (if b then [] else order.Done ∷ []) (lane.Server i) s).orders)
done_open i true e says rest s is = refl
done_open i false e says rest s is = ap (λ (b : Bool). if b then order.Done ∷ [] else []) (self i) ∙ ap kept (sym is)

item_closed : (x : Item) (s : Seat) → (seat_item s x).closed ≡ s.closed
item_closed (item.Side t) s = refl
item_closed (item.Posted posted.Link) s = refl
item_closed (item.Posted posted.Up) s = refl
item_closed (item.Posted posted.NoStart) s = refl
item_closed (item.Posted (posted.Body body)) s = refl
item_closed (item.Posted (posted.Ended w)) s = refl
item_closed (item.Posted (posted.Tick t)) s = refl

module _ (seats t : Seats) (i : ℕ) (within : i < length seats.servers) (matched : Matched seats t) (history : List Entry) (items : List Order) (ids : List ℕ) where
  -- one entry
  module _ (l : LaneName) (x : Item) (c : Cause) (outs : List Out) (means : Meant (meaning seats l x) (Some (record { cause = c; outs = outs }))) (once : (s : ℕ) → total s seats + (spawns_of_outs s outs + spawns s history) ≤ 1) where
    abbrev en : Entry
    en = record { cause = c; outs = outs }

    abbrev after : Seats
    after = behind seats (did l x (Some en))

    abbrev t' : Seats
    t' = next_seats t en

    abbrev g0 : Given
    g0 = first seats l x c

    abbrev g1 : Given
    g1 = told seats l x c outs

    matched' : Matched after t'
    matched' = one_go seats t l x (Some en) means (λ s. let h = once s in omega arith) matched

    after_once : (s : ℕ) → total s after + spawns s history ≤ 1
    after_once s = let h = once s in let d = deed_total s seats l x (Some en) means in omega arith

    -- what is to begin later has no lane yet
    later_same : (s : ℕ) (part : List Order) → LaterBegun after t' history s part → LaterBegun seats t (en ∷ history) s part
    later_same s part later =
        let f = later.from in let h = after_once s in let d = deed_lined s seats l x (Some en) in
        let off : lane_mark s t' ≡ [] = lane_none s after t' matched' (omega arith) in record {
          from = omega arith;
          is = later.is ∙ ap (λ ms. order.Begin s ∷ kept ms) (sym (entered_entry s t en history ∙ ap (λ ms. entered (ms ++ start_marks s t' history)) off));
        }

    single : Single g0.seats.servers
    single =
        let a = outs_seated outs g0 in
        let b = begin_stay g1.seats.waiting g1 in record {
          apart = λ j k s hj hk. seated_apart s after.servers j k (let h = after_once s in omega arith) (b.now j s (a.now j ∙ hj)) (b.now k s (a.now k ∙ hk));
        }

    -- the orders of the starts that begin, and of the outs
    pub record Mid : Type 0 where
      pub more : List Order
      pub front : List Order
      pub made : List (List Order)
      pub orders : only (lane.Server i) (given seats (did l x (Some en))).orders ≡ only (lane.Server i) g0.orders ++ more
      pub is : more ++ items ≡ front ++ chain made
      pub opened : Open (start_at i g0.seats) (shut_at i g0.seats) (λ s. start_out_marks s outs ++ (lane_mark s t' ++ start_marks s t' history)) front
      pub each : AllZip (LaterBegun seats t (en ∷ history)) (began_in (start_at i seats) (start_at i after) ++ ids) made

    within0 : i < length g0.seats.servers
    within0 = let n = first_len seats l x c in omega arith

    pub within1 : i < length g1.seats.servers
    within1 = let a = outs_seated outs g0 in let n = a.len in let h = within0 in omega arith

    pub told_now : start_at i g1.seats ≡ start_at i g0.seats
    told_now = (outs_seated outs g0).now i

    -- the marks behind the outs
    abbrev says : ℕ → List Mark
    says s = lane_mark s t' ++ start_marks s t' history

    later_each : (made : List (List Order)) → AllZip (LaterBegun after t' history) ids made → AllZip (LaterBegun seats t (en ∷ history)) ids made
    later_each made z = zip_map (LaterBegun after t' history) (LaterBegun seats t (en ∷ history)) ids made later_same z

    none_mid : (start_at i g0.seats ≡ start_at i seats) ⊎ (start_at i g0.seats ≡ None) → NoneBegun i g1 (begin_all g1) → OrdersAhead after t' i history items ids → Mid
    none_mid before b a =
        let now : start_at i after ≡ start_at i g1.seats = ap (λ (s : Seat). s.now) b.seat in
        let r = outs_gave i outs g0 says a.front single within0
        (open_says (start_at i g1.seats) (shut_at i g1.seats) (λ s. start_marks s t' history) says a.front (λ s. kept_lane s t' (start_marks s t' history))
        (open_at (start_at i g1.seats) (start_at i after) (shut_at i g1.seats) (shut_at i after) (λ s. start_marks s t' history) (λ s. start_marks s t' history) a.front now (ap (λ (s : Seat). s.closed) b.seat) (λ _ _ _. refl) a.opened)) in
        let none : began_in (start_at i seats) (start_at i after) ≡ [] = ⊎_elim
        (λ (e : start_at i g0.seats ≡ start_at i seats). ap (began_in (start_at i seats)) (now ∙ told_now ∙ e) ∙ began_same (start_at i seats))
        (λ (e : start_at i g0.seats ≡ None). ap (began_in (start_at i seats)) (now ∙ told_now ∙ e)) before in record {
          more = r.more;
          front = r.more ++ a.front;
          made = a.made;
          orders = b.orders ∙ r.orders;
          is = ap (λ l. r.more ++ l) a.is ∙ sym (append_assoc r.more a.front (chain a.made));
          opened = r.opened;
          each = subst (λ (new : List ℕ). AllZip (LaterBegun seats t (en ∷ history)) (new ++ ids) a.made) (sym none) (later_each a.made a.each);
        }

    one_mid : OneBegun i g1.seats.waiting g1 (begin_all g1) → OrdersAhead after t' i history items ids → Mid
    one_mid b a =
        let s = b.start in
        let now : start_at i after ≡ Some s = ap (λ (s : Seat). s.now) b.seat in
        let r = outs_gave i outs g0 says [] single within0 (open_at (start_at i g1.seats) None (shut_at i g1.seats) (shut_at i g1.seats) says says [] (sym b.free) refl (λ _ _ _. refl) refl) in
        let part : a.front ≡ kept (start_marks s t' history) =
        open_at (Some s) (start_at i after) false (shut_at i after) (λ s. start_marks s t' history) (λ s. start_marks s t' history) a.front now (ap (λ (s : Seat). s.closed) b.seat) (λ _ _ _. refl) a.opened in
        let w : 1 ≤ lined s seats + spawns_of_outs s outs = let h = b.waits in let d = told_lined s seats l x c outs in omega arith in
        let new : began_in (start_at i seats) (start_at i after) ≡ s ∷ [] = ap (began_in (start_at i seats)) now
        ∙ began_new (start_at i seats) s (λ is. let q = seated_one s seats.servers i is in let h = once s in absurd (omega arith)) in
        let enters : entered (start_marks s t (en ∷ history)) ≡ start_marks s t' history = entered_entry s t en history ∙ ap (λ ms. entered (ms ++ start_marks s t' history)) (lane_some s i after t' matched' now) in record {
          more = r.more ++ order.Begin s ∷ [];
          front = r.more ++ [];
          made = (order.Begin s ∷ a.front) ∷ a.made;
          orders = b.orders ∙ ap (λ l. l ++ order.Begin s ∷ []) r.orders ∙ append_assoc (only (lane.Server i) g0.orders) r.more (order.Begin s ∷ []);
          is = append_assoc r.more (order.Begin s ∷ []) items ∙ ap (λ l. r.more ++ order.Begin s ∷ l) a.is ∙ ap (λ l. l ++ order.Begin s ∷ (a.front ++ chain a.made)) (sym (append-nil r.more));
          opened = r.opened;
          each = subst (λ (new : List ℕ). AllZip (LaterBegun seats t (en ∷ history)) (new ++ ids) ((order.Begin s ∷ a.front) ∷ a.made)) (sym new)
              (record { from = omega arith; is = ap (λ l. order.Begin s ∷ l) (part ∙ ap kept (sym enters)) }, later_each a.made a.each);
        }

    mid : (start_at i g0.seats ≡ start_at i seats) ⊎ (start_at i g0.seats ≡ None) → OrdersAhead after t' i history items ids → Mid
    mid before a = ⊎_elim (λ b. none_mid before b a) (λ b. one_mid b a) (begun i g1.seats.waiting g1 within1)

    abbrev now_ahead : Type 0
    now_ahead = OrdersAhead seats t i (en ∷ history) (only (lane.Server i) (given seats (did l x (Some en))).orders ++ items) (began_in (start_at i seats) (start_at i after) ++ ids)

    -- a cause that ends no start of this lane
    calm : only (lane.Server i) g0.orders ≡ [] → start_at i g0.seats ≡ start_at i seats → shut_at i g0.seats ≡ shut_at i seats → ((s : ℕ) → start_at i seats ≡ Some s → start_mark_in s c ≡ []) → OrdersAhead after t' i history items ids → now_ahead
    calm none n cl mute a =
        let m = mid (inl n) a in record {
          front = m.front;
          made = m.made;
          is = ap (λ o. o ++ items) (m.orders ∙ ap (λ o. o ++ m.more) none) ∙ m.is;
          opened = open_at (start_at i seats) (start_at i g0.seats) (shut_at i seats) (shut_at i g0.seats) (λ s. start_out_marks s outs ++ says s) (λ s. start_marks s t (en ∷ history)) m.front n cl
              (λ s is _. ap (λ ms. ms ++ (start_out_marks s outs ++ says s)) (mute s is)) m.opened;
          each = m.each;
        }

    -- a cause that ends the start of this lane
    ended : (e : ℕ) (b : Bool) → start_at i seats ≡ Some e → shut_at i seats ≡ b → start_at i g0.seats ≡ None → start_mark_in e c ≡ Leaves ∷ []
        → Open (Some e) b (λ s. start_marks s t (en ∷ history)) (only (lane.Server i) g0.orders) → OrdersAhead after t' i history items ids → now_ahead
    ended e b is cl free leaves op a =
        let m = mid (inr free) a in
        let done = only (lane.Server i) g0.orders in
        let shut : m.front ≡ [] = open_at None (start_at i g0.seats) (shut_at i g0.seats) (shut_at i g0.seats) (λ s. start_out_marks s outs ++ says s) (λ s. start_out_marks s outs ++ says s) m.front free refl (λ _ _ _. refl) m.opened in record {
          front = done;
          made = m.made;
          is = ap (λ o. o ++ items) m.orders ∙ append_assoc done m.more items ∙ ap (λ o. done ++ o) (m.is ∙ ap (λ o. o ++ chain m.made) shut);
          opened = open_at (start_at i seats) (Some e) (shut_at i seats) b (λ s. start_marks s t (en ∷ history)) (λ s. start_marks s t (en ∷ history)) done (sym is) (sym cl) (λ _ _ _. refl) op;
          each = m.each;
        }

    pub first_other : same_lane (lane.Server i) l ≡ false → seat_at i g0.seats.servers ≡ seat_at i seats.servers
    first_other f = ap (λ (s : Seats). seat_at i s.servers) (done_seats (done_at (seat_of l (marked seats l x)) c) l (caused (marked seats l x) l x c)) ∙ caused_other l f where
      caused_other : (l : LaneName) → same_lane (lane.Server i) l ≡ false → seat_at i (caused (marked seats l x) l x c).servers ≡ seat_at i seats.servers
      caused_other (lane.Editor j) f = refl
      caused_other lane.Ticker f = refl
      caused_other (lane.Server j) f = ⊎_elim
          (λ (t : (i ≡ j) × (seat_at i (twice seats.servers j (λ s. seat_item s x) (λ s. seat_cause s x c)) ≡ seat_cause (seat_item (seat_at j seats.servers) x) x c)).
          ⊎_elim (λ s. let h : true ≡ false = sym s.0 ∙ f in absurd cc) (λ s. absurd (s.1 t.0)) (eqb_tells i j))
          (λ t. t) (twice_either seats.servers j i (λ s. seat_item s x) (λ s. seat_cause s x c))

    -- a deed of another lane
    elsewhere : same_lane (lane.Server i) l ≡ false → OrdersAhead after t' i history items ids → now_ahead
    elsewhere f a =
        calm (done_none i (done_at (seat_of l (marked seats l x)) c) l (caused (marked seats l x) l x c) f) (ap (λ (s : Seat). s.now) (first_other f)) (ap (λ (s : Seat). s.closed) (first_other f))
        (λ s is. unmarked s c (λ of.
        let at = start_here seats l x en s means of in
        let same : at.place ≡ i = seated_apart s seats.servers at.place i (let h = once s in omega arith) at.now is in
        let own : same_lane (lane.Server i) l ≡ true = ap (same_lane (lane.Server i)) at.lane ∙ ap (λ (k : ℕ). i == k) same ∙ self i in
        let g : true ≡ false = sym own ∙ f in absurd cc)) a

  -- the deeds of this lane
  abbrev mine : LaneName
  mine = lane.Server i

  pub first_own : (x : Item) (c : Cause) → seat_at i (first seats mine x c).seats.servers ≡ seat_cause (seat_item (seat_at i seats.servers) x) x c
  first_own x c =
      ap (λ (s : Seats). seat_at i s.servers) (done_seats (done_at (seat_of mine (marked seats mine x)) c) mine (caused (marked seats mine x) mine x c))
      ∙ twice_here seats.servers i (λ s. seat_item s x) (λ s. seat_cause s x c) within

  abbrev entry_of : Cause → List Out → Entry
  entry_of c outs = record { cause = c; outs = outs }

  abbrev Ordered : LaneName → Item → Entry → Type 0
  Ordered l x en = OrdersAhead seats t i (en ∷ history) (only (lane.Server i) (given seats (did l x (Some en))).orders ++ items) (began_in (start_at i seats) (start_at i (behind seats (did l x (Some en)))) ++ ids)

  abbrev Before : LaneName → Item → Entry → Type 0
  Before l x en = OrdersAhead (behind seats (did l x (Some en))) (next_seats t en) i history items ids

  abbrev Once : List Out → Type 0
  Once outs = (s : ℕ) → total s seats + (spawns_of_outs s outs + spawns s history) ≤ 1

  marked_shut : (x : Item) → shut_at i (marked seats mine x) ≡ shut_at i seats
  marked_shut x = set_like (λ s. s.closed) (λ s. seat_item s x) (item_closed x) seats.servers i i

  marked_now : (x : Item) → (seat_item (seat_at i seats.servers) x).now ≡ start_at i seats
  marked_now x = item_keeps x (seat_at i seats.servers)

  -- by its cause
  own : (x : Item) (c : Cause) (outs : List Out) → foreign c ≡ true → start_of c ≡ start_at i seats → Meant (meaning seats mine x) (Some (entry_of c outs)) → Once outs → Before mine x (entry_of c outs) → Ordered mine x (entry_of c outs)
  own x (cause.Started s) outs f of m once a =
      let c = cause.Started s in
      calm mine x c outs m once refl (ap (λ (s : Seat). s.now) (first_own x c) ∙ marked_now x) (ap (λ (s : Seat). s.closed) (first_own x c) ∙ item_closed x (seat_at i seats.servers)) (λ _ _. refl) a
  own x (cause.FromServer s body) outs f of m once a =
      let c = cause.FromServer s body in
      calm mine x c outs m once refl (ap (λ (s : Seat). s.now) (first_own x c) ∙ marked_now x) (ap (λ (s : Seat). s.closed) (first_own x c) ∙ item_closed x (seat_at i seats.servers)) (λ _ _. refl) a
  own x (cause.Tick n) outs f of m once a =
      let c = cause.Tick n in
      calm mine x c outs m once refl (ap (λ (s : Seat). s.now) (first_own x c) ∙ marked_now x) (ap (λ (s : Seat). s.closed) (first_own x c) ∙ item_closed x (seat_at i seats.servers)) (λ _ _. refl) a
  own x (cause.StartFailed s) outs f of m once a =
      let c = cause.StartFailed s in
      let leaves : start_mark_in s c ≡ Leaves ∷ [] = ap (λ (b : Bool). if b then Leaves ∷ [] else []) (self s) in
      let en = entry_of c outs in
      let rest = start_out_marks s outs ++ (lane_mark s (next_seats t en) ++ start_marks s (next_seats t en) history) in
      ended mine x c outs m once s (shut_at i (marked seats mine x)) (sym of) (sym (marked_shut x)) (ap (λ (s : Seat). s.now) (first_own x c)) leaves
      (done_open i (shut_at i (marked seats mine x)) s (λ s. start_marks s t (en ∷ history)) rest (caused (marked seats mine x) mine x c) (ap (λ ms. ms ++ rest) leaves)) a
  own x (cause.ServerGone s) outs f of m once a =
      let c = cause.ServerGone s in
      let leaves : start_mark_in s c ≡ Leaves ∷ [] = ap (λ (b : Bool). if b then Leaves ∷ [] else []) (self s) in
      let en = entry_of c outs in
      let rest = start_out_marks s outs ++ (lane_mark s (next_seats t en) ++ start_marks s (next_seats t en) history) in
      ended mine x c outs m once s (shut_at i (marked seats mine x)) (sym of) (sym (marked_shut x)) (ap (λ (s : Seat). s.now) (first_own x c)) leaves
      (done_open i (shut_at i (marked seats mine x)) s (λ s. start_marks s t (en ∷ history)) rest (caused (marked seats mine x) mine x c) (ap (λ ms. ms ++ rest) leaves)) a
  own x (cause.Joined e) outs f of m once a = absurd cc
  own x (cause.FromEditor e body) outs f of m once a = absurd cc
  own x (cause.EditorGone e w) outs f of m once a = absurd cc
  own x (cause.Drained e k) outs f of m once a = absurd cc

  abbrev OwnEntry : Item → Option ℕ → Option Entry → Type 0
  OwnEntry x now None = ⊤
  OwnEntry x now (Some en) = now ≡ start_at i seats → Meant (meaning seats mine x) (Some en) → Once en.outs → Before mine x en → Ordered mine x en

  own_deed : (x : Item) (en : Entry) → Meant (meaning seats mine x) (Some en) → Once en.outs → Before mine x en → Ordered mine x en
  own_deed x en m once a = by_start (OwnEntry x) (λ now. tt) (λ now c outs f of is m once a. own x c outs f (of ∙ is) m once a) seats i x (Some en) m refl m once a

  pub entry_orders : (l : LaneName) (x : Item) (en : Entry) → Meant (meaning seats l x) (Some en) → Once en.outs → Before l x en → Ordered l x en
  entry_orders (lane.Editor j) x en m once a = elsewhere (lane.Editor j) x en.cause en.outs m once refl a
  entry_orders lane.Ticker x en m once a = elsewhere lane.Ticker x en.cause en.outs m once refl a
  entry_orders (lane.Server j) x en m once a = ⊎_elim
      (λ (e : ((i == j) ≡ true) × (i ≡ j)).
      subst (λ (k : ℕ). Meant (meaning seats (lane.Server k) x) (Some en) → Before (lane.Server k) x en → Ordered (lane.Server k) x en) e.1 (λ m a. own_deed x en m once a) m a)
      (λ (e : ((i == j) ≡ false) × (i ≢ j)). elsewhere (lane.Server j) x en.cause en.outs m once e.0 a)
      (eqb_tells i j)

-- a deed that gave no entry
none_later : (seats t : Seats) (l : LaneName) (x : Item) (history : List Entry) (s : ℕ) (part : List Order) → LaterBegun (marked seats l x) t history s part → LaterBegun seats t history s part
none_later seats t l x history s part later =
    let e : lined s (marked seats l x) ≡ lined s seats = ap (waits s) (on_waiting l (λ s. seat_item s x) seats) in let f = later.from in record { from = omega arith; is = later.is }

pub none_seat : {X : Type 0} (f : Seat → X) (l : LaneName) (x : Item) (seats : Seats) (i : ℕ) → ((s : Seat) → f (seat_item s x) ≡ f s) → f (seat_at i (marked seats l x).servers) ≡ f (seat_at i seats.servers)
none_seat f (lane.Editor j) x seats i same = refl
none_seat f lane.Ticker x seats i same = refl
none_seat f (lane.Server j) x seats i same = set_like f (λ s. seat_item s x) same seats.servers j i

none_ahead : (seats t : Seats) (i : ℕ) (l : LaneName) (x : Item) (history : List Entry) (items : List Order) (ids : List ℕ) → OrdersAhead (marked seats l x) t i history items ids → OrdersAhead seats t i history items ids
none_ahead seats t i l x history items ids a =
    let m = marked seats l x in record {
      front = a.front;
      made = a.made;
      is = a.is;
      opened = open_at (start_at i seats) (start_at i m) (shut_at i seats) (shut_at i m) (λ s. start_marks s t history) (λ s. start_marks s t history) a.front (none_seat (λ s. s.now) l x seats i (item_keeps x)) (none_seat (λ s. s.closed) l x seats i (item_closed x)) (λ _ _ _. refl) a.opened;
      each = zip_map (LaterBegun m t history) (LaterBegun seats t history) ids a.made (λ s part later. none_later seats t l x history s part later) a.each;
    }

abbrev Walk : Seats → Seats → ℕ → List Entry → List Order → Type 0
Walk seats t i history items = OrdersAhead seats t i history items (began_from i t history)

deed_orders : (seats t : Seats) (i : ℕ) (l : LaneName) (x : Item) (entry : Option Entry) (history : List Entry) (items : List Order) → i < length seats.servers → Matched seats t → Meant (meaning seats l x) entry
    → ((s : ℕ) → total s seats + spawns s (entries_in entry ++ history) ≤ 1) → Walk (behind seats (did l x entry)) (fold next_seats t (entries_in entry)) i history items
    → Walk seats t i (entries_in entry ++ history) (only (lane.Server i) (given seats (did l x entry)).orders ++ items)
deed_orders seats t i l x None history items within matched m once a = none_ahead seats t i l x history items (began_from i t history) a
deed_orders seats t i l x (Some en) history items within matched m once a =
    let after = behind seats (did l x (Some en)) in
    let t' = next_seats t en in
    let matched' : Matched after t' = one_go seats t l x (Some en) m (λ s. let h = once s in omega arith) matched in
    let ids = began_from i t' history in
    let was : start_at i seats ≡ start_at i t = (zip_at seats.servers t.servers i matched.servers).now in
    let is : start_at i after ≡ start_at i t' = (zip_at after.servers t'.servers i matched'.servers).now in
    subst (λ (new : List ℕ). OrdersAhead seats t i (en ∷ history) (only (lane.Server i) (given seats (did l x (Some en))).orders ++ items) (new ++ ids))
    (ap (λ (o : Option ℕ). began_in o (start_at i after)) was ∙ ap (began_in (start_at i t)) is)
    (entry_orders seats t i within matched history items ids l x en m (λ s. let h = once s in omega arith) a)

orders_end : (seats t : Seats) (i : ℕ) (now : Option ℕ) (closed : Bool) → start_at i seats ≡ now → shut_at i seats ≡ closed → OrdersAhead seats t i [] [] []
orders_end seats t i now closed n c = record {
  front = [];
  made = [];
  is = refl;
  opened = open_at (start_at i seats) now (shut_at i seats) closed (λ s. []) (λ s. []) [] (sym n) (sym c) (λ _ _ _. refl) (nothing now closed);
  each = tt;
} where
  nothing : (now : Option ℕ) (closed : Bool) → Open now closed (λ s. []) []
  nothing None closed = refl
  nothing (Some e) true = refl
  nothing (Some e) false = refl

pub all_orders : (i : ℕ) (deeds : List Deed) (seats t : Seats) → i < length seats.servers → Matched seats t → FairFrom seats deeds → ((s : ℕ) → total s seats + spawns s (gather_from entries_by seats deeds) ≤ 1)
    → Walk seats t i (gather_from entries_by seats deeds) (gather_from (orders_by (lane.Server i)) seats deeds)
all_orders i [] seats t within matched fair once = orders_end seats t i (start_at i seats) (shut_at i seats) refl refl
all_orders i (d ∷ deeds) seats t within matched fair once =
    let after = behind seats d in
    let rest = gather_from entries_by after deeds in
    let still : i < length after.servers = let h = server_len d.lane d.item d.entry seats in omega arith in
    let matched' : Matched after (fold next_seats t (entries_in d.entry)) = one_go seats t d.lane d.item d.entry fair.0 (λ s. let h = once s in omega arith) matched in
    deed_orders seats t i d.lane d.item d.entry rest (gather_from (orders_by (lane.Server i)) after deeds) within matched fair.0 once
    (all_orders i deeds after (fold next_seats t (entries_in d.entry)) still matched' fair.1 (λ s. let h = once s in let e = spawns_append s (entries_in d.entry) rest in let g = deed_total s seats d.lane d.item d.entry fair.0 in omega arith))

pub by_start_orders : StartOrders
by_start_orders n m i deeds within fair once =
    let seats = start n m in
    let h = entries n m deeds in
    let a = all_orders i deeds seats (start 0 m) (let h = many_free m in omega arith) (record { servers = free_faces m; waiting = refl }) fair (λ s. let h = once s in let z = none_seated s m in omega arith) in
    let shut : a.front ≡ [] = open_at None (start_at i seats) false (shut_at i seats) (λ s. start_marks s (start 0 m) h) (λ s. start_marks s (start 0 m) h) a.front
    (ap (λ (s : Seat). s.now) (all_free m i)) (ap (λ (s : Seat). s.closed) (all_free m i)) (λ _ _ _. refl) a.opened in record {
      made = a.made;
      orders = a.is ∙ ap (λ l. l ++ chain a.made) shut;
      each = zip_map (LaterBegun seats (start 0 m) h) (λ s part. part ≡ order.Begin s ∷ kept (entered (start_marks s (start 0 m) h))) (began m i h) a.made (λ s part l. l.is) a.each;
    }
