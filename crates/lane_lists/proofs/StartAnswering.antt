-- What the side items of a servers' lane answer, deed by deed.
use Rattle.std.proofs.Common.{◌≡◌, ◌≢◌, ℕ, zero, suc, ◌==◌, ◌<◌, List, [], ◌∷◌, ◌++◌, Bool, true, false, if◌then◌else◌, not, cond, filter, length, slice_get, slice_set, refl, sym, ap, ◌∙◌, subst, ⊎_elim, arith, Option, append_assoc}
use Rattle.std.specs.Prelude.{⊤}
use Rattle.std.specs.declared.option.Option.TheVariants.{Some, None}
use Rattle.std.proofs.lemmas.Bool.Decides.{eqb_tells}
use Rattle.mux_history.specs.declared.entry.Entry.{Entry}
use Rattle.mux_history.specs.declared.out.Out.{Out}
use Rattle.mux_history.specs.declared.cause.Cause.{Cause}
use Rattle.mux_history.specs.declared.cause.Cause.TheVariants as cause
use Rattle.lane_lists.specs.declared.item.LaneName.{LaneName}
use Rattle.lane_lists.specs.declared.item.LaneName.TheVariants as lane
use Rattle.lane_lists.specs.declared.item.Posted.{Posted}
use Rattle.lane_lists.specs.declared.item.Posted.TheVariants as posted
use Rattle.lane_lists.specs.declared.item.Side.{Side}
use Rattle.lane_lists.specs.declared.item.Side.TheVariants as side
use Rattle.lane_lists.specs.declared.item.Order.{Order}
use Rattle.lane_lists.specs.declared.item.Order.TheVariants as order
use Rattle.lane_lists.specs.declared.item.Item.{Item}
use Rattle.lane_lists.specs.declared.item.Item.TheVariants as item
use Rattle.lane_lists.specs.declared.item.Meaning.TheVariants as meant
use Rattle.lane_lists.specs.Seats.{Seat, Seats, answered, done_at, gone_if, is_now, meaning, seat_at, seat_cause, seat_item, seat_of, server_side}
use Rattle.lane_lists.specs.Deeds.{Meant, behind, given, only, same_lane, side_in, with_done}
use Rattle.lane_lists.specs.Sides.{answers}
use Rattle.lane_lists.specs.StartHistory.{went_in, went_of}
use Rattle.lane_lists.specs.StartSides.{Unbegun, start_tagged, tag}
use Rattle.lane_lists.proofs.Moves.{caused, did, means, once_either, once_here, silent, stray, twice_either, twice_here}
use Rattle.lane_lists.proofs.StartMoves.{StartWays, by_try, start_at}
use Rattle.lane_lists.proofs.OrderStarts.{done_none, done_seats, first, first_len, marked, self}
use Rattle.lane_lists.proofs.StartOwing.{AllOf, Holds, OwesAll, all_owe, open_of, owing, unbegun_behind}

-- none of these is of this start
abbrev Off : ℕ → List (ℕ × ℕ) → Type 0
Off e os = AllOf (λ n. n ≢ e) os

off_tag : (e : ℕ) (now : Option ℕ) (bytes : ℕ) (os : List (ℕ × ℕ)) → is_now now e ≡ false → Off e os → Off e (tag now bytes ++ os)
off_tag e None bytes os f off = off
off_tag e (Some n) bytes os f off = ((λ same. let t : true ≡ false = sym (self n) ∙ ap (λ (k : ℕ). n == k) same ∙ f in absurd cc), off)

not_now : (n e : ℕ) → n ≢ e → is_now (Some n) e ≡ false
not_now n e apart = ⊎_elim (λ t. absurd (apart t.1)) (λ t. t.0) (eqb_tells n e)

off_tags : (e : ℕ) (now : Option ℕ) (os : List Order) → is_now now e ≡ false → Unbegun e os → Off e (start_tagged now os)
off_tags e now [] f u = tt
off_tags e now (order.Begin n ∷ os) f u = off_tags e (Some n) os (not_now n e u.0) u.1
off_tags e now (order.Body body ∷ os) f u = off_tag e now (length body) (start_tagged now os) f (off_tags e now os f u)
off_tags e now (order.Close ∷ os) f u = off_tags e None os refl u
off_tags e now (order.Done ∷ os) f u = off_tags e None os refl u

abbrev without : ℕ → List (ℕ × ℕ) → List (ℕ × ℕ)
without e l = filter (λ (x : ℕ × ℕ). not (x.0 == e)) l

without_append : (e : ℕ) (xs ys : List (ℕ × ℕ)) → without e (xs ++ ys) ≡ without e xs ++ without e ys
without_append e [] ys = refl
without_append e (x ∷ xs) ys = elim (not (x.0 == e)) as (λ b. cond b (x ∷ without e (xs ++ ys)) (without e (xs ++ ys)) ≡ cond b (x ∷ without e xs) (without e xs) ++ without e ys) [
  | true ↦ ap (λ l. x ∷ l) (without_append e xs ys)
  | false ↦ without_append e xs ys
]

without_off : (e : ℕ) (l : List (ℕ × ℕ)) → Off e l → without e l ≡ l
without_off e [] f = refl
without_off e (x ∷ l) f =
    ap (λ (b : Bool). cond (not b) (x ∷ without e l) (without e l)) (⊎_elim (λ t. absurd (f.0 t.1)) (λ t. t.0) (eqb_tells x.0 e)) ∙ ap (λ r. x ∷ r) (without_off e l f.1)

all_without : (P : ℕ → Type 0) (e : ℕ) (l : List (ℕ × ℕ)) → AllOf P l → AllOf P (without e l)
all_without P e [] a = tt
all_without P e (x ∷ l) a = elim (not (x.0 == e)) as (λ b. AllOf P (cond b (x ∷ without e l) (without e l))) [ true ↦ (a.0, all_without P e l a.1) | false ↦ all_without P e l a.1 ]

all_answered : (P : ℕ → Type 0) (sd : Side) (l : List (ℕ × ℕ)) → AllOf P l → AllOf P (answered sd l)
all_answered P sd [] a = tt
all_answered P side.Wrote (o ∷ l) a = a.1
all_answered P side.Broke (o ∷ l) a = all_without P o.0 l a.1

-- a broken write of the foremost body takes out what else is owed to its start
drops : (o : ℕ × ℕ) (owed tags : List (ℕ × ℕ)) → Off o.0 tags → without o.0 (owed ++ tags) ≡ without o.0 owed ++ tags
drops o owed tags off = without_append o.0 owed tags ∙ ap (λ l. without o.0 owed ++ l) (without_off o.0 tags off)

-- which item it was, and of which start
pub went_items : (s : ℕ) (x : Item) (c : Cause) (q : ℕ) (y : Item) → slice_get (went_in s x c) q ≡ Some y → (x ≡ y) × (c ≡ cause.ServerGone s)
went_items s x (cause.ServerGone n) q y at = (elim (n == s) as (λ b. (n == s) ≡ b → slice_get (if b then x ∷ [] else []) q ≡ Some y → (x ≡ y) × (cause.ServerGone n ≡ cause.ServerGone s)) [
  | true ↦ λ is at. (only_item q at, ap cause.ServerGone (⊎_elim (λ t. t.1) (λ t. let f : true ≡ false = sym is ∙ t.0 in absurd cc) (eqb_tells n s)))
  | false ↦ λ is at. absurd cc
]) refl at where
  only_item : (q : ℕ) → slice_get (x ∷ []) q ≡ Some y → x ≡ y
  only_item zero at = cc
  only_item (suc q) at = absurd cc
went_items s x (cause.Started n) q y at = absurd cc
went_items s x (cause.StartFailed n) q y at = absurd cc
went_items s x (cause.FromServer n body) q y at = absurd cc
went_items s x (cause.Joined e) q y at = absurd cc
went_items s x (cause.FromEditor e body) q y at = absurd cc
went_items s x (cause.EditorGone e w) q y at = absurd cc
went_items s x (cause.Drained e k) q y at = absurd cc
went_items s x (cause.Tick t) q y at = absurd cc

-- a deed by which a start went since a write failed answers a body of that start
abbrev pub Said : Item → Option Entry → List ((ℕ × ℕ) × Side) → Type 0
Said x entry added = (s q : ℕ) → slice_get (went_of s x entry) q ≡ Some (item.Side side.Broke) → (k : ℕ) × (added ≡ ((s, k), side.Broke) ∷ [])

posted_says : (p : Posted) (entry : Option Entry) (added : List ((ℕ × ℕ) × Side)) → Said (item.Posted p) entry added
posted_says p None added s q at = absurd cc
posted_says p (Some en) added s q at = let w = went_items s (item.Posted p) en.cause q (item.Side side.Broke) at in let f = w.0 in absurd cc

module _ (seats : Seats) (i : ℕ) (within : i < length seats.servers) (P : ℕ → Type 0) (low : AllOf P (seat_at i seats.servers).owed) (of_now : (e : ℕ) → start_at i seats ≡ Some e → P e) where
  abbrev s : Seat
  s = seat_at i seats.servers

  abbrev one : Cause → List Out → Option Entry
  one c outs = Some (record { cause = c; outs = outs })

  abbrev next : LaneName → Item → Option Entry → Seats
  next l x entry = behind seats (did l x entry)

  abbrev ordered : LaneName → Item → Option Entry → List Order
  ordered l x entry = only (lane.Server i) (given seats (did l x entry)).orders

  abbrev done : LaneName → Item → Cause → List Order
  done l x c = only (lane.Server i) (first seats l x c).orders

  gave : (l : LaneName) (x : Item) (c : Cause) (outs : List Out) → OwesAll i P outs (first seats l x c)
  gave l x c outs = all_owe i P outs (first seats l x c) (let n = first_len seats l x c in omega arith)

  -- what any deed adds to the answers of this lane
  pub record Adds (l : LaneName) (x : Item) (entry : Option Entry) : Type 0 where
    pub added : List ((ℕ × ℕ) × Side)
    pub are : (os : List Order) (said : List Side) → ((e : ℕ) → P e → Unbegun e (ordered l x entry ++ os))
        → answers ((if same_lane (lane.Server i) l then side_in x else []) ++ said) (owing s (ordered l x entry ++ os)) ≡ added ++ answers said (owing (seat_at i (next l x entry).servers) os)
    pub says : same_lane (lane.Server i) l ≡ true → Said x entry added
    pub owed : AllOf P (seat_at i (next l x entry).servers).owed

  -- where the cause leaves what a seat owes and will owe
  goes : (l : LaneName) (x : Item) (c : Cause) (outs : List Out) (t : Seat) → ((os : List Order) → owing t (done l x c ++ os) ≡ owing (seat_at i (first seats l x c).seats.servers) os)
      → (os : List Order) → owing t (ordered l x (one c outs) ++ os) ≡ owing (seat_at i (next l x (one c outs)).servers) os
  goes l x c outs t pre os =
      let g = gave l x c outs in
      ap (λ r. owing t (r ++ os)) g.orders ∙ ap (λ r. owing t r) (append_assoc (done l x c) g.more os) ∙ pre (g.more ++ os) ∙ g.totals os

  kept : (l : LaneName) (x : Item) (c : Cause) (outs : List Out) (t : Seat) → seat_at i (first seats l x c).seats.servers ≡ t → AllOf P t.owed → ((e : ℕ) → t.now ≡ Some e → start_at i seats ≡ Some e) → AllOf P (seat_at i (next l x (one c outs)).servers).owed
  kept l x c outs t is a n = (gave l x c outs).owed (subst (λ r. Holds i P r) (sym is) (record { owed = a; now = λ e at. of_now e (n e at) }))

  -- a deed of another lane
  other_none : (l : LaneName) (x : Item) → same_lane (lane.Server i) l ≡ false → seat_at i (next l x None).servers ≡ s
  other_none (lane.Editor j) x f = refl
  other_none lane.Ticker x f = refl
  other_none (lane.Server j) x f = ⊎_elim
      (λ (t : (i ≡ j) × (seat_at i (slice_set seats.servers j (seat_item (seat_at j seats.servers) x)) ≡ seat_item (seat_at j seats.servers) x)).
      let h : true ≡ false = sym (self i) ∙ ap (λ (k : ℕ). i == k) t.0 ∙ f in absurd cc)
      (λ t. t) (once_either seats.servers j i (λ r. seat_item r x))

  other_first : (l : LaneName) (x : Item) (c : Cause) → same_lane (lane.Server i) l ≡ false → seat_at i (first seats l x c).seats.servers ≡ s
  other_first l x c f = ap (λ (s : Seats). seat_at i s.servers) (done_seats (done_at (seat_of l (marked seats l x)) c) l (caused (marked seats l x) l x c)) ∙ other l f where
    other : (l : LaneName) → same_lane (lane.Server i) l ≡ false → seat_at i (caused (marked seats l x) l x c).servers ≡ s
    other (lane.Editor j) f = refl
    other lane.Ticker f = refl
    other (lane.Server j) f = ⊎_elim
        (λ t. let h : true ≡ false = sym (self i) ∙ ap (λ (k : ℕ). i == k) t.0 ∙ f in absurd cc)
        (λ t. t) (twice_either seats.servers j i (λ s. seat_item s x) (λ s. seat_cause s x c))

  elsewhere : (l : LaneName) (x : Item) (entry : Option Entry) → same_lane (lane.Server i) l ≡ false → Adds l x entry
  elsewhere l x None f = record {
    added = [];
    are = λ os said u. ap (λ (b : Bool). answers ((if b then side_in x else []) ++ said) (owing s os)) f ∙ ap (λ t. answers said (owing t os)) (sym (other_none l x f));
    says = λ is. let h : true ≡ false = sym is ∙ f in absurd cc;
    owed = subst (λ (t : Seat). AllOf P t.owed) (sym (other_none l x f)) low;
  }
  elsewhere l x (Some en) f =
      let c = en.cause in
      let same = other_first l x c f in
      let none = done_none i (done_at (seat_of l (marked seats l x)) c) l (caused (marked seats l x) l x c) f in
      record {
        added = [];
        are = λ os said u. ap (λ (b : Bool). answers ((if b then side_in x else []) ++ said) (owing s (ordered l x (Some en) ++ os))) f
            ∙ ap (λ r. answers said r) (goes l x c en.outs s (λ os. ap (λ r. owing s (r ++ os)) none ∙ ap (λ t. owing t os) (sym same)) os);
        says = λ is. let h : true ≡ false = sym is ∙ f in absurd cc;
        owed = kept l x c en.outs s same low (λ e at. at);
      }

  -- the deeds of this lane
  abbrev mine : LaneName
  mine = lane.Server i

  own_seat : (x : Item) (c : Cause) → seat_at i (first seats mine x c).seats.servers ≡ seat_cause (seat_item s x) x c
  own_seat x c =
      ap (λ (s : Seats). seat_at i s.servers) (done_seats (done_at (seat_of mine (marked seats mine x)) c) mine (caused (marked seats mine x) mine x c))
      ∙ twice_here seats.servers i (λ s. seat_item s x) (λ s. seat_cause s x c) within

  none_seat : (x : Item) → seat_at i (next mine x None).servers ≡ seat_item s x
  none_seat x = once_here seats.servers i (λ r. seat_item r x) within

  -- an answer to nothing
  quiet : (x : Item) (entry : Option Entry) → side_in x ≡ [] → ((os : List Order) → owing s (ordered mine x entry ++ os) ≡ owing (seat_at i (next mine x entry).servers) os) → Said x entry []
      → AllOf P (seat_at i (next mine x entry).servers).owed → Adds mine x entry
  quiet x entry none total says owed = record {
    added = [];
    are = λ os said u. ap (λ (b : Bool). answers ((if b then side_in x else []) ++ said) (owing s (ordered mine x entry ++ os))) (self i) ∙ ap (λ l. answers (l ++ said) (owing s (ordered mine x entry ++ os))) none ∙ ap (λ r. answers said r) (total os);
    says = λ _. says;
    owed = owed;
  }

  -- a cause that ends no session
  stays : (p : Posted) (c : Cause) (outs : List Out) → done mine (item.Posted p) c ≡ [] → ((os : List Order) → owing (seat_cause (seat_item s (item.Posted p)) (item.Posted p) c) os ≡ owing s os)
      → (seat_cause (seat_item s (item.Posted p)) (item.Posted p) c).owed ≡ s.owed → (seat_cause (seat_item s (item.Posted p)) (item.Posted p) c).now ≡ s.now → Adds mine (item.Posted p) (one c outs)
  stays p c outs none total owes now =
      let x = item.Posted p in
      quiet x (one c outs) refl (goes mine x c outs s (λ os. ap (λ r. owing s (r ++ os)) none ∙ sym (total os) ∙ ap (λ t. owing t os) (sym (own_seat x c)))) (posted_says p (one c outs) [])
      (kept mine x c outs (seat_cause (seat_item s x) x c) (own_seat x c) (subst (λ l. AllOf P l) (sym owes) low) (λ e at. sym now ∙ at))

  -- a cause that ends the session: the order that is given takes nothing off
  shut_tags : (now : Option ℕ) (b : Bool) (os : List Order) → start_tagged (open_of now b) ((if b then [] else order.Done ∷ []) ++ os) ≡ start_tagged None os
  shut_tags now true os = refl
  shut_tags now false os = refl

  only_done : (b : Bool) (all : Seats) → only mine (with_done (if b then [] else order.Done ∷ []) mine all).orders ≡ (if b then [] else order.Done ∷ [])
  only_done true all = refl
  only_done false all = ap (λ (b : Bool). if b then order.Done ∷ [] else []) (self i)

  marked_seat : (x : Item) → seat_of mine (marked seats mine x) ≡ seat_item s x
  marked_seat x = once_here seats.servers i (λ r. seat_item r x) within

  item_shut : (x : Item) → (seat_item s x).closed ≡ s.closed
  item_shut (item.Side t) = refl
  item_shut (item.Posted posted.Link) = refl
  item_shut (item.Posted posted.Up) = refl
  item_shut (item.Posted posted.NoStart) = refl
  item_shut (item.Posted (posted.Body body)) = refl
  item_shut (item.Posted (posted.Ended w)) = refl
  item_shut (item.Posted (posted.Tick t)) = refl

  -- the order to a start that went or failed
  done_is : (x : Item) (c : Cause) → ((t : Seat) → done_at t c ≡ (if t.closed then [] else order.Done ∷ [])) → done mine x c ≡ (if s.closed then [] else order.Done ∷ [])
  done_is x c form =
      let at = seat_of mine (marked seats mine x) in
      ap (λ ds. only mine (with_done ds mine (caused (marked seats mine x) mine x c)).orders) (form at) ∙ only_done at.closed (caused (marked seats mine x) mine x c)
      ∙ ap (λ (b : Bool). if b then [] else order.Done ∷ []) (ap (λ (t : Seat). t.closed) (marked_seat x) ∙ item_shut x)

  gone_tags : (x : Item) (c : Cause) (outs : List Out) → ((t : Seat) → done_at t c ≡ (if t.closed then [] else order.Done ∷ [])) → (os : List Order)
      → start_tagged (open_of s.now s.closed) (ordered mine x (one c outs) ++ os) ≡ start_tagged None ((gave mine x c outs).more ++ os)
  gone_tags x c outs form os =
      let g = gave mine x c outs in
      let tags : List Order → List (ℕ × ℕ) = λ l. start_tagged (open_of s.now s.closed) l in
      ap (λ r. tags (r ++ os)) g.orders ∙ ap tags (append_assoc (done mine x c) g.more os) ∙ ap (λ r. tags (r ++ (g.more ++ os))) (done_is x c form) ∙ shut_tags s.now s.closed (g.more ++ os)

  gone_after : (x : Item) (c : Cause) (outs : List Out) (t : Seat) → seat_cause (seat_item s x) x c ≡ t → t.now ≡ None → t.closed ≡ false → (os : List Order)
      → owing (seat_at i (next mine x (one c outs)).servers) os ≡ t.owed ++ start_tagged None ((gave mine x c outs).more ++ os)
  gone_after x c outs t is now shut os =
      let g = gave mine x c outs in
      sym (g.totals os) ∙ ap (λ t. owing t (g.more ++ os)) (own_seat x c ∙ is) ∙ ap (λ (n : Option ℕ). t.owed ++ start_tagged (open_of n t.closed) (g.more ++ os)) now ∙ ap (λ (b : Bool). t.owed ++ start_tagged (open_of None b) (g.more ++ os)) shut

  leaves : (p : Posted) (c : Cause) (outs : List Out) → ((t : Seat) → done_at t c ≡ (if t.closed then [] else order.Done ∷ [])) → (seat_cause (seat_item s (item.Posted p)) (item.Posted p) c).now ≡ None
      → (seat_cause (seat_item s (item.Posted p)) (item.Posted p) c).closed ≡ false → (seat_cause (seat_item s (item.Posted p)) (item.Posted p) c).owed ≡ s.owed → Adds mine (item.Posted p) (one c outs)
  leaves p c outs form now shut owes =
      let x = item.Posted p in
      let t = seat_cause (seat_item s x) x c in
      quiet x (one c outs) refl
      (λ os. ap (λ l. s.owed ++ l) (gone_tags x c outs form os) ∙ ap (λ l. l ++ start_tagged None ((gave mine x c outs).more ++ os)) (sym owes) ∙ sym (gone_after x c outs t refl now shut os))
      (posted_says p (one c outs) []) (kept mine x c outs t (own_seat x c) (subst (λ l. AllOf P l) (sym owes) low) (λ e at. let f : None ≡ Some e = sym now ∙ at in absurd cc))

  abbrev Own : Item → Option Entry → Type 0
  Own (item.Side sd) entry = ⊤
  Own (item.Posted p) entry = Adds mine (item.Posted p) entry

  late_item : (p : Posted) → ((os : List Order) → owing (seat_item s (item.Posted p)) os ≡ owing s os) → (seat_item s (item.Posted p)).owed ≡ s.owed → Adds mine (item.Posted p) None
  late_item p total owes =
      let x = item.Posted p in
      quiet x None refl (λ os. sym (total os) ∙ ap (λ t. owing t os) (sym (none_seat x))) (posted_says p None []) (subst (λ (t : Seat). AllOf P t.owed) (sym (none_seat x)) (subst (λ l. AllOf P l) (sym owes) low))

  own_ways : StartWays (λ x entry now up tail. Own x entry)
  own_ways = record {
    up = λ n outs. stays posted.Up (cause.Started n) outs refl (λ os. refl) refl refl;
    failed = λ n outs. leaves posted.NoStart (cause.StartFailed n) outs (λ t. refl) refl refl refl;
    word = λ n tail body outs. stays (posted.Body body) (cause.FromServer n body) outs refl (λ os. refl) refl refl;
    over = λ n tail w outs real. leaves (posted.Ended w) (cause.ServerGone n) outs (λ t. refl) refl refl refl;
    broke = λ n tail outs. tt;
    idle = λ sd now up tail. tt;
    late = λ body now up h. late_item (posted.Body body) (λ os. refl) refl;
    late_end = λ w now up h. late_item (posted.Ended w) (λ os. refl) refl;
  }

  abbrev rest : Item → Option Entry → List Order → List (ℕ × ℕ)
  rest x entry os = start_tagged (open_of s.now s.closed) (ordered mine x entry ++ os)

  side_owed : (sd : Side) → AllOf P (seat_item s (item.Side sd)).owed
  side_owed sd = all_answered P sd s.owed low

  -- one answer more
  answer : (sd : Side) (entry : Option Entry) (o : ℕ × ℕ) → ((os : List Order) (said : List Side) → ((e : ℕ) → P e → Unbegun e (ordered mine (item.Side sd) entry ++ os))
      → answers (sd ∷ said) (owing s (ordered mine (item.Side sd) entry ++ os)) ≡ (o, sd) ∷ answers said (owing (seat_at i (next mine (item.Side sd) entry).servers) os))
      → Said (item.Side sd) entry ((o, sd) ∷ []) → AllOf P (seat_at i (next mine (item.Side sd) entry).servers).owed → Adds mine (item.Side sd) entry
  answer sd entry o are says owed = record {
    added = (o, sd) ∷ [];
    are = λ os said u. ap (λ (b : Bool). answers ((if b then sd ∷ [] else []) ++ said) (owing s (ordered mine (item.Side sd) entry ++ os))) (self i) ∙ are os said u;
    says = λ _. says;
    owed = owed;
  }

  abbrev wrote : Item
  wrote = item.Side side.Wrote

  abbrev broke : Item
  broke = item.Side side.Broke

  wrote_one : (o : ℕ × ℕ) (owed : List (ℕ × ℕ)) → s.owed ≡ o ∷ owed → Adds mine wrote None
  wrote_one o owed e = answer side.Wrote None o
      (λ os said u.
      ap (λ l. answers (side.Wrote ∷ said) (l ++ rest wrote None os)) e
      ∙ ap (λ l. (o, side.Wrote) ∷ answers said (l ++ rest wrote None os)) (sym (ap (λ l. answered side.Wrote l) e))
      ∙ ap (λ t. (o, side.Wrote) ∷ answers said (owing t os)) (sym (none_seat wrote)))
      (λ n q at. absurd cc)
      (subst (λ (t : Seat). AllOf P t.owed) (sym (none_seat wrote)) (side_owed side.Wrote))

  open_off : (now : Option ℕ) (b : Bool) (e : ℕ) → is_now now e ≡ false → is_now (open_of now b) e ≡ false
  open_off now true e f = refl
  open_off now false e f = f

  broke_late : (o : ℕ × ℕ) (owed : List (ℕ × ℕ)) → s.owed ≡ o ∷ owed → is_now s.now o.0 ≡ false → Adds mine broke None
  broke_late o owed e off = answer side.Broke None o
      (λ os said u.
      let past : P o.0 = (subst (λ l. AllOf P l) e low).0 in
      ap (λ l. answers (side.Broke ∷ said) (l ++ rest broke None os)) e
      ∙ ap (λ r. (o, side.Broke) ∷ answers said r) (drops o owed (rest broke None os) (off_tags o.0 (open_of s.now s.closed) os (open_off s.now s.closed o.0 off) (u o.0 past))
      ∙ ap (λ l. l ++ rest broke None os) (sym (ap (λ l. answered side.Broke l) e)) ∙ ap (λ t. owing t os) (sym (none_seat broke))))
      (λ n q at. absurd cc)
      (subst (λ (t : Seat). AllOf P t.owed) (sym (none_seat broke)) (side_owed side.Broke))

  write_failed : (o : ℕ × ℕ) (owed : List (ℕ × ℕ)) (outs : List Out) → s.owed ≡ o ∷ owed → Adds mine broke (one (cause.ServerGone o.0) outs)
  write_failed o owed outs e =
      let c = cause.ServerGone o.0 in
      let g = gave mine broke c outs in
      let t = seat_cause (seat_item s broke) broke c in
      answer side.Broke (one c outs) o
      (λ os said u.
      let past : P o.0 = (subst (λ l. AllOf P l) e low).0 in
      let tags = start_tagged None (g.more ++ os) in
      let later : Unbegun o.0 (g.more ++ os) = unbegun_behind o.0 (done mine broke c) (g.more ++ os) (subst (λ l. Unbegun o.0 l) (ap (λ r. r ++ os) g.orders ∙ append_assoc (done mine broke c) g.more os) (u o.0 past)) in
      ap (λ l. answers (side.Broke ∷ said) (l ++ rest broke (one c outs) os)) e
      ∙ ap (λ l. (o, side.Broke) ∷ answers said (without o.0 (owed ++ l))) (gone_tags broke c outs (λ t. refl) os)
      ∙ ap (λ r. (o, side.Broke) ∷ answers said r) (drops o owed tags (off_tags o.0 None (g.more ++ os) refl later)
      ∙ ap (λ l. l ++ tags) (sym (ap (λ l. answered side.Broke l) e)) ∙ sym (gone_after broke c outs t refl refl refl os)))
      (λ n q at. let w = went_items n broke c q broke at in let w' : cause.ServerGone o.0 ≡ cause.ServerGone n = w.1 in let same : o.0 ≡ n = cc in (o.1, ap (λ (k : ℕ). ((k, o.1), side.Broke) ∷ []) same))
      (kept mine broke c outs t (own_seat broke c) (side_owed side.Broke) (λ n at. absurd cc))

  by_owed : (sd : Side) (entry : Option Entry) (owed : List (ℕ × ℕ)) (up : Bool) → s.owed ≡ owed → Meant (server_side s.now up owed sd) entry → Adds mine (item.Side sd) entry
  by_owed sd entry [] up e m = stray (λ en. Adds mine (item.Side sd) en) entry m
  by_owed side.Wrote entry (o ∷ owed) up e m = silent (λ en. Adds mine wrote en) entry (wrote_one o owed e) m
  by_owed side.Broke entry (o ∷ owed) up e m = (elim (is_now s.now o.0) as (λ b. is_now s.now o.0 ≡ b → Meant (if b then gone_if up o.0 else meant.Silent) entry → Adds mine broke entry) [
    | true ↦ λ is m. gone_so up m
    | false ↦ λ off m. silent (λ en. Adds mine broke en) entry (broke_late o owed e off) m
  ]) refl m where
    gone_so : (up : Bool) → Meant (gone_if up o.0) entry → Adds mine broke entry
    gone_so true m = means (cause.ServerGone o.0) (λ en. Adds mine broke en) entry (λ outs. write_failed o owed outs e) m
    gone_so false m = stray (λ en. Adds mine broke en) entry m

  does : (x : Item) (entry : Option Entry) → Meant (meaning seats mine x) entry → Adds mine x entry
  does (item.Posted p) entry m = by_try (λ x entry now up tail. Own x entry) own_ways seats i (item.Posted p) entry m
  does (item.Side sd) entry m = by_owed sd entry s.owed s.up refl m

  pub adds : (l : LaneName) (x : Item) (entry : Option Entry) → Meant (meaning seats l x) entry → Adds l x entry
  adds (lane.Editor j) x entry m = elsewhere (lane.Editor j) x entry refl
  adds lane.Ticker x entry m = elsewhere lane.Ticker x entry refl
  adds (lane.Server j) x entry m = ⊎_elim
      (λ (t : ((i == j) ≡ true) × (i ≡ j)). subst (λ (k : ℕ). Meant (meaning seats (lane.Server k) x) entry → Adds (lane.Server k) x entry) t.1 (λ m. does x entry m) m)
      (λ (t : ((i == j) ≡ false) × (i ≢ j)). elsewhere (lane.Server j) x entry t.0)
      (eqb_tells i j)
