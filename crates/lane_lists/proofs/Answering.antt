-- What the side items of an editors' lane answer, deed by deed.
use Rattle.std.proofs.Common.{◌≡◌, ◌≢◌, ℕ, ◌==◌, ◌<◌, ◌≤◌, List, [], ◌∷◌, ◌++◌, Bool, true, false, if◌then◌else◌, not, cond, filter, length, refl, sym, ap, ◌∙◌, subst, ⊎_elim, arith, Option, append_assoc}
use Rattle.std.specs.Prelude.{⊤}
use Rattle.std.specs.declared.option.Option.TheVariants.{Some, None}
use Rattle.std.proofs.lemmas.Bool.Decides.{eqb_tells}
use Rattle.mux_history.specs.declared.entry.Entry.{Entry}
use Rattle.mux_history.specs.declared.out.Out.{Out}
use Rattle.mux_history.specs.declared.cause.Cause.{Cause}
use Rattle.mux_history.specs.declared.cause.Cause.TheVariants as cause
use Rattle.mux_history.specs.declared.cause.Why.{Why}
use Rattle.mux_history.specs.declared.cause.Why.TheVariants as why
use Rattle.lane_lists.specs.declared.item.LaneName.{LaneName}
use Rattle.lane_lists.specs.declared.item.LaneName.TheVariants as lane
use Rattle.lane_lists.specs.declared.item.Posted.TheVariants as posted
use Rattle.lane_lists.specs.declared.item.Side.{Side}
use Rattle.lane_lists.specs.declared.item.Side.TheVariants as side
use Rattle.lane_lists.specs.declared.item.Order.{Order}
use Rattle.lane_lists.specs.declared.item.Order.TheVariants as order
use Rattle.lane_lists.specs.declared.item.Item.{Item}
use Rattle.lane_lists.specs.declared.item.Item.TheVariants as item
use Rattle.lane_lists.specs.declared.item.Meaning.TheVariants as meant
use Rattle.lane_lists.specs.Seats.{Seat, Seats, seat_at, meaning, editor_side, is_now, seat_cause, seat_item, seat_of, done_at}
use Rattle.lane_lists.specs.Deeds.{Meant, behind, given, only, same_lane, session_in, side_in, with_done}
use Rattle.lane_lists.specs.Sides.{answers, drained_in, failed_in, tagged}
use Rattle.std.proofs.Common.{slice_set}
use Rattle.lane_lists.specs.Seats.{answered, Given}
use Rattle.lane_lists.proofs.Moves.{now_at, did, caused, acted, Ways, by_editor, means, silent, stray, once_here, once_either}
use Rattle.lane_lists.proofs.BySession.{Sound, step}
use Rattle.lane_lists.proofs.ByOrders.{closed_at, is_now_is}
use Rattle.lane_lists.proofs.OrderSessions.{done_none, first, first_other, first_own, marked, marked_closed}
use Rattle.lane_lists.proofs.Owing.{Below, Low, Owes, all_owe, open_of, shut_is, total}

-- numbers from one on
abbrev pub From : ℕ → List ℕ → Type 0
From m [] = ⊤
From m (e ∷ es) = (m ≤ e) × From m es

pub from_up : (m n : ℕ) (es : List ℕ) → m ≤ n → From n es → From m es
from_up m n [] h f = tt
from_up m n (e ∷ es) h f = (let a = f.0 in omega (arith, a, h), from_up m n es h f.1)

-- none of these is of this editor
abbrev Off : ℕ → List (ℕ × ℕ) → Type 0
Off e [] = ⊤
Off e (o ∷ os) = (o.0 ≢ e) × Off e os

off_tagged : (e m : ℕ) (ids : List ℕ) (os : List Order) → e < m → From m ids → Off e (tagged ids os)
off_tagged e m [] os h f = tt
off_tagged e m (n ∷ ids) [] h f = tt
off_tagged e m (n ∷ ids) (order.Begin s ∷ os) h f = off_tagged e m (n ∷ ids) os h f
off_tagged e m (n ∷ ids) (order.Body body ∷ os) h f = (λ same. (let a = f.0 in omega (arith, a, h, same)), off_tagged e m (n ∷ ids) os h f)
off_tagged e m (n ∷ ids) (order.Close ∷ os) h f = off_tagged e m ids os h f.1
off_tagged e m (n ∷ ids) (order.Done ∷ os) h f = off_tagged e m ids os h f.1

off_open : (e n m : ℕ) (ids : List ℕ) (os : List Order) → e < m → From m ids → n ≢ e → Off e (tagged (n ∷ ids) os)
off_open e n m ids [] h f apart = tt
off_open e n m ids (order.Begin s ∷ os) h f apart = off_open e n m ids os h f apart
off_open e n m ids (order.Body body ∷ os) h f apart = (apart, off_open e n m ids os h f apart)
off_open e n m ids (order.Close ∷ os) h f apart = off_tagged e m ids os h f
off_open e n m ids (order.Done ∷ os) h f apart = off_tagged e m ids os h f

abbrev without : ℕ → List (ℕ × ℕ) → List (ℕ × ℕ)
without e l = filter (λ (x : ℕ × ℕ). not (x.0 == e)) l

without_append : (e : ℕ) (xs ys : List (ℕ × ℕ)) → without e (xs ++ ys) ≡ without e xs ++ without e ys
without_append e [] ys = refl
without_append e (x ∷ xs) ys = elim (not (x.0 == e)) as (λ b. cond b (x ∷ without e (xs ++ ys)) (without e (xs ++ ys)) ≡ cond b (x ∷ without e xs) (without e xs) ++ without e ys) [
  | true ↦ ap (λ l. x ∷ l) (without_append e xs ys)
  | false ↦ without_append e xs ys
]

without_off : (e : ℕ) (l : List (ℕ × ℕ)) → Off e l → without e l ≡ l
without_off e [] f = refl
without_off e (x ∷ l) f =
    ap (λ (b : Bool). cond (not b) (x ∷ without e l) (without e l)) (⊎_elim (λ t. absurd (f.0 t.1)) (λ t. t.0) (eqb_tells x.0 e)) ∙ ap (λ r. x ∷ r) (without_off e l f.1)

without_low : (e m : ℕ) (l : List (ℕ × ℕ)) → Low m l → Low m (without e l)
without_low e m [] f = tt
without_low e m (x ∷ l) f = elim (not (x.0 == e)) as (λ b. Low m (cond b (x ∷ without e l) (without e l))) [ true ↦ (f.0, without_low e m l f.1) | false ↦ without_low e m l f.1 ]

low_up : (m n : ℕ) (l : List (ℕ × ℕ)) → m ≤ n → Low m l → Low n l
low_up m n [] h f = tt
low_up m n (x ∷ l) h f = (let a = f.0 in omega (arith, a, h), low_up m n l h f.1)

-- what a deed's answers are to be, by its cause
abbrev pub Said : Option Entry → List ((ℕ × ℕ) × Side) → Type 0
Said None added = ⊤
Said (Some en) added = ((e k : ℕ) → drained_in en.cause ≡ (e, k) ∷ [] → added ≡ ((e, k), side.Wrote) ∷ []) × ((e : ℕ) → failed_in en.cause ≡ e ∷ [] → (k : ℕ) × (added ≡ ((e, k), side.Broke) ∷ []))

pub record Answers (i : ℕ) (seats after : Seats) (ss : List Side) (ids : List ℕ) (os : List Order) (entry : Option Entry) : Type 0 where
  pub added : List ((ℕ × ℕ) × Side)
  pub are : (later : List ℕ) (orders : List Order) (said : List Side) → From after.joined later
      → answers (ss ++ said) (total (seat_at i seats.editors) (ids ++ later) (os ++ orders)) ≡ added ++ answers said (total (seat_at i after.editors) later orders)
  pub says : Said entry added
  pub below : Below after.joined (seat_at i after.editors)

below_up : (m n : ℕ) (s : Seat) → m ≤ n → Below m s → Below n s
below_up m n s h b = record { owed = low_up m n s.owed h b.owed; now = λ e is. let a = b.now e is in omega (arith, a, h) }

low_answered : (m : ℕ) (sd : Side) (l : List (ℕ × ℕ)) → Low m l → Low m (answered sd l)
low_answered m sd [] f = tt
low_answered m side.Wrote (o ∷ l) f = f.1
low_answered m side.Broke (o ∷ l) f = without_low o.0 m l f.1

said_over : (e : ℕ) (w : Why) (outs : List Out) → w ≢ why.WriteFault → Said (Some (record { cause = cause.EditorGone e w; outs = outs })) []
said_over e why.WriteFault outs real = absurd (real refl)
said_over e why.End outs real = (λ e k h. absurd cc, λ e h. absurd cc)
said_over e why.ReadFault outs real = (λ e k h. absurd cc, λ e h. absurd cc)
said_over e why.BadFrame outs real = (λ e k h. absurd cc, λ e h. absurd cc)

self : (e : ℕ) → (e == e) ≡ true
self e = ⊎_elim (λ t. t.0) (λ t. absurd (t.1 refl)) (eqb_tells e e)

off_all : (e m : ℕ) (now : Option ℕ) (closed : Bool) (ids : List ℕ) (os : List Order) → e < m → From m ids → is_now now e ≡ false → Off e (tagged (open_of now closed ++ ids) os)
off_all e m None closed ids os h f off = off_tagged e m ids os h f
off_all e m (Some n) true ids os h f off = off_tagged e m ids os h f
off_all e m (Some n) false ids os h f off = off_open e n m ids os h f (λ same. let t : true ≡ false = sym (self n) ∙ ap (λ (k : ℕ). n == k) same ∙ off in absurd cc)

module _ (seats : Seats) (i : ℕ) (within : i < length seats.editors) (sound : Sound seats) (low : Below seats.joined (seat_at i seats.editors)) where
  abbrev s : Seat
  s = seat_at i seats.editors

  abbrev one : Cause → List Out → Option Entry
  one c outs = Some (record { cause = c; outs = outs })

  abbrev next : LaneName → Item → Option Entry → Seats
  next l x entry = behind seats (did l x entry)

  abbrev ordered : LaneName → Item → Option Entry → List Order
  ordered l x entry = only (lane.Editor i) (given seats (did l x entry)).orders

  abbrev begins : LaneName → Item → Cause → Given
  begins l x c = first seats i within sound [] [] [] l x c

  abbrev done : LaneName → Item → Cause → List Order
  done l x c = only (lane.Editor i) (begins l x c).orders

  gave : (l : LaneName) (x : Item) (c : Cause) (outs : List Out) → Owes i (begins l x c) (given seats (did l x (one c outs)))
  gave l x c outs = all_owe i outs (begins l x c)

  up : (l : LaneName) (x : Item) (entry : Option Entry) → Meant (meaning seats l x) entry → seats.joined ≤ (next l x entry).joined
  up l x entry m = (step seats l x entry m).up

  -- where the cause leaves what a seat owes and will owe
  goes : (l : LaneName) (x : Item) (c : Cause) (outs : List Out) (t : Seat) (ids : List ℕ) → ((later : List ℕ) (os : List Order) → total t (ids ++ later) (done l x c ++ os) ≡ total (seat_at i (begins l x c).seats.editors) later os)
      → (later : List ℕ) (os : List Order) → total t (ids ++ later) (ordered l x (one c outs) ++ os) ≡ total (seat_at i (next l x (one c outs)).editors) later os
  goes l x c outs t ids pre later os =
      let g = gave l x c outs in
      ap (λ r. total t (ids ++ later) (r ++ os)) g.orders ∙ ap (λ r. total t (ids ++ later) r) (append_assoc (done l x c) g.more os) ∙ pre later (g.more ++ os) ∙ g.totals later os

  kept_below : (l : LaneName) (x : Item) (c : Cause) (outs : List Out) (t : Seat) → seat_at i (begins l x c).seats.editors ≡ t → Below (next l x (one c outs)).joined t → Below (next l x (one c outs)).joined (seat_at i (next l x (one c outs)).editors)
  kept_below l x c outs t is b = (gave l x c outs).below (next l x (one c outs)).joined (subst (λ r. Below (next l x (one c outs)).joined r) (sym is) b)

  marked_other : (l : LaneName) (x : Item) → same_lane (lane.Editor i) l ≡ false → seat_at i (next l x None).editors ≡ s
  marked_other (lane.Server j) x f = refl
  marked_other lane.Ticker x f = refl
  marked_other (lane.Editor j) x f = ⊎_elim
      (λ (t : (i ≡ j) × (seat_at i (slice_set seats.editors j (seat_item (seat_at j seats.editors) x)) ≡ seat_item (seat_at j seats.editors) x)).
      let h : true ≡ false = sym (self i) ∙ ap (λ (k : ℕ). i == k) t.0 ∙ f in absurd cc)
      (λ t. t) (once_either seats.editors j i (λ r. seat_item r x))

  -- a deed of another lane
  pub elsewhere : (l : LaneName) (x : Item) (entry : Option Entry) → same_lane (lane.Editor i) l ≡ false → Meant (meaning seats l x) entry → ((later : List ℕ) (orders : List Order) (said : List Side) → From (next l x entry).joined later
      → answers said (total s later (ordered l x entry ++ orders)) ≡ answers said (total (seat_at i (next l x entry).editors) later orders)) × Below (next l x entry).joined (seat_at i (next l x entry).editors)
  elsewhere l x None f m = (
    λ later orders said from. ap (λ t. answers said (total t later orders)) (sym (marked_other l x f)),
    subst (λ t. Below (next l x None).joined t) (sym (marked_other l x f)) (below_up seats.joined (next l x None).joined s (up l x None m) low),
  )
  elsewhere l x (Some en) f m =
      let c = en.cause in
      let same = first_other seats i within sound [] [] [] l x c f in
      let none = done_none seats i within sound [] [] [] (done_at (seat_of l (marked seats i within sound [] [] [] l x)) c) l (caused (marked seats i within sound [] [] [] l x) l x c) f in (
        λ later orders said from. ap (λ r. answers said r) (goes l x c en.outs s [] (λ later os. ap (λ r. total s later (r ++ os)) none ∙ ap (λ t. total t later os) (sym same)) later orders),
        kept_below l x c en.outs s same (below_up seats.joined (next l x (Some en)).joined s (up l x (Some en) m) low),
      )

  -- the deeds of this lane
  abbrev mine : LaneName
  mine = lane.Editor i

  abbrev Does : Item → Option Entry → Type 0
  Does x entry = Answers i seats (next mine x entry) (side_in x) (session_in mine entry) (ordered mine x entry) entry

  abbrev Own : Item → Option Entry → Option ℕ → Type 0
  Own (item.Side sd) entry now = ⊤
  Own (item.Posted p) entry now = now ≡ now_at i seats → Meant (meaning seats mine (item.Posted p)) entry → Does (item.Posted p) entry

  own_seat : (x : Item) (c : Cause) → seat_at i (begins mine x c).seats.editors ≡ seat_cause (seat_item s x) x c
  own_seat x c = first_own seats i within sound [] [] [] x c

  none_seat : (x : Item) → seat_at i (next mine x None).editors ≡ seat_item s x
  none_seat x = once_here seats.editors i (λ r. seat_item r x) within

  ended : (e : ℕ) (b : Bool) (all : Seats) (ids : List ℕ) (os : List Order) → s.now ≡ Some e → b ≡ s.closed → tagged (open_of s.now s.closed ++ ids) (only mine (with_done (if b then [] else order.Done ∷ []) mine all).orders ++ os) ≡ tagged ids os
  ended e true all ids os n c = ap (λ l. tagged (l ++ ids) os) (ap (λ (b : Bool). open_of s.now b) (sym c) ∙ shut_is s.now e n)
  ended e false all ids os n c =
      ap (λ (b : Bool). tagged (open_of s.now s.closed ++ ids) ((if b then order.Done ∷ [] else []) ++ os)) (self i)
      ∙ ap (λ l. tagged (l ++ ids) (order.Done ∷ os)) (ap (λ (b : Bool). open_of s.now b) (sym c) ∙ ap (λ (o : Option ℕ). open_of o false) n)

  gone_tags : (x : Item) (e : ℕ) (w : Why) (outs : List Out) → s.now ≡ Some e → (ids : List ℕ) (os : List Order) → tagged (open_of s.now s.closed ++ ids) (ordered mine x (one (cause.EditorGone e w) outs) ++ os) ≡ tagged ids ((gave mine x (cause.EditorGone e w) outs).more ++ os)
  gone_tags x e w outs n ids os =
      let c = cause.EditorGone e w in
      let g = gave mine x c outs in
      let at = marked seats i within sound [] [] [] mine x in
      ap (λ r. tagged (open_of s.now s.closed ++ ids) (r ++ os)) g.orders ∙ ap (λ r. tagged (open_of s.now s.closed ++ ids) r) (append_assoc (done mine x c) g.more os)
      ∙ ended e (closed_at i at) (caused at mine x c) ids (g.more ++ os) n (marked_closed seats i within sound [] [] [] mine x)

  gone_after : (x : Item) (e : ℕ) (w : Why) (outs : List Out) (ids : List ℕ) (os : List Order) → total (seat_at i (next mine x (one (cause.EditorGone e w) outs)).editors) ids os ≡ (seat_item s x).owed ++ tagged ids ((gave mine x (cause.EditorGone e w) outs).more ++ os)
  gone_after x e w outs ids os =
      let c = cause.EditorGone e w in
      let g = gave mine x c outs in
      sym (g.totals ids os) ∙ ap (λ t. total t ids (g.more ++ os)) (own_seat x c)

  gone_below : (x : Item) (e : ℕ) (w : Why) (outs : List Out) → Meant (meaning seats mine x) (one (cause.EditorGone e w) outs) → Low seats.joined (seat_item s x).owed → Below (next mine x (one (cause.EditorGone e w) outs)).joined (seat_at i (next mine x (one (cause.EditorGone e w) outs)).editors)
  gone_below x e w outs m owed =
      let c = cause.EditorGone e w in
      kept_below mine x c outs (seat_cause (seat_item s x) x c) (own_seat x c) (record { owed = low_up seats.joined (next mine x (one c outs)).joined (seat_item s x).owed (up mine x (one c outs) m) owed; now = λ n is. absurd cc })

  posted_ways : Ways seats.joined (λ x entry now tail. Own x entry now)
  posted_ways = record {
    link = λ outs is m.
        let x = item.Posted posted.Link in
        let c = cause.Joined seats.joined in
        let more = (acted seats i x c outs).joined in
        let own = own_seat x c in
        record {
          added = [];
          are = λ later orders said from. ap (λ r. answers said r) (goes mine x c outs s (seats.joined ∷ []) (λ later os. ap (λ (o : Option ℕ). s.owed ++ tagged (open_of o s.closed ++ (seats.joined ∷ later)) os) (sym is) ∙ ap (λ t. total t later os) (sym own)) later orders);
          says = (λ e k h. absurd cc, λ e h. absurd cc);
          below = kept_below mine x c outs (seat_cause (seat_item s x) x c) own (record { owed = low_up seats.joined (next mine x (one c outs)).joined s.owed (up mine x (one c outs) m) low.owed; now = λ e h. let same : seats.joined ≡ e = cc in omega (arith, same, more) });
        };
    word = λ e tail body outs is m.
        let x = item.Posted (posted.Body body) in
        let c = cause.FromEditor e body in
        let own = own_seat x c in
        record {
          added = [];
          are = λ later orders said from. ap (λ r. answers said r) (goes mine x c outs s [] (λ later os. ap (λ t. total t later os) (sym own)) later orders);
          says = (λ e k h. absurd cc, λ e h. absurd cc);
          below = kept_below mine x c outs s own (below_up seats.joined (next mine x (one c outs)).joined s (up mine x (one c outs) m) low);
        };
    over = λ e tail w outs real is m.
        let x = item.Posted (posted.Ended w) in record {
          added = [];
          are = λ later orders said from. ap (λ r. answers said r) (ap (λ l. s.owed ++ l) (gone_tags x e w outs (sym is) later orders) ∙ sym (gone_after x e w outs later orders));
          says = said_over e w outs real;
          below = gone_below x e w outs m low.owed;
        };
    broke = λ e tail outs. tt;
    drained = λ e k tail outs. tt;
    idle = λ sd now tail. tt;
    late = λ body is m.
        let x = item.Posted (posted.Body body) in record {
          added = [];
          are = λ later orders said from. ap (λ t. answers said (total t later orders)) (sym (none_seat x));
          says = tt;
          below = subst (λ t. Below (next mine x None).joined t) (sym (none_seat x)) (below_up seats.joined (next mine x None).joined s (up mine x None m) low);
        };
    late_end = λ w is m.
        let x = item.Posted (posted.Ended w) in record {
          added = [];
          are = λ later orders said from. ap (λ t. answers said (total t later orders)) (sym (none_seat x));
          says = tt;
          below = subst (λ t. Below (next mine x None).joined t) (sym (none_seat x)) (let b = below_up seats.joined (next mine x None).joined s (up mine x None m) low in record { owed = b.owed; now = b.now });
        };
  }

  abbrev wrote : Item
  wrote = item.Side side.Wrote

  abbrev broke : Item
  broke = item.Side side.Broke

  abbrev rest : Item → Option Entry → List ℕ → List Order → List (ℕ × ℕ)
  rest x entry later os = tagged (open_of s.now s.closed ++ later) (ordered mine x entry ++ os)

  side_below : (x : Item) (sd : Side) → x ≡ item.Side sd → (n : ℕ) → seats.joined ≤ n → Below n (seat_item s (item.Side sd))
  side_below x sd is n h = record { owed = low_up seats.joined n (answered sd s.owed) h (low_answered seats.joined sd s.owed low.owed); now = λ e at. let a = low.now e at in omega (arith, a, h) }

  was_drained : (o : ℕ × ℕ) (owed : List (ℕ × ℕ)) (outs : List Out) → s.owed ≡ o ∷ owed → Meant (meaning seats mine wrote) (one (cause.Drained o.0 o.1) outs) → Does wrote (one (cause.Drained o.0 o.1) outs)
  was_drained o owed outs e m =
      let c = cause.Drained o.0 o.1 in
      let entry = one c outs in
      record {
        added = (o, side.Wrote) ∷ [];
        are = λ later orders said from.
            ap (λ l. answers (side.Wrote ∷ said) (l ++ rest wrote entry later orders)) e
            ∙ ap (λ l. (o, side.Wrote) ∷ answers said (l ++ rest wrote entry later orders)) (sym (ap (λ l. answered side.Wrote l) e))
            ∙ ap (λ r. (o, side.Wrote) ∷ answers said r) (goes mine wrote c outs (seat_item s wrote) [] (λ later os. ap (λ t. total t later os) (sym (own_seat wrote c))) later orders);
        says = (λ n k h. let same : (o.0, o.1) ≡ (n, k) = cc in ap (λ p. (p, side.Wrote) ∷ []) same, λ n h. absurd cc);
        below = kept_below mine wrote c outs (seat_item s wrote) (own_seat wrote c) (side_below wrote side.Wrote refl (next mine wrote entry).joined (up mine wrote entry m));
      }

  wrote_late : (o : ℕ × ℕ) (owed : List (ℕ × ℕ)) → s.owed ≡ o ∷ owed → Meant (meaning seats mine wrote) None → Does wrote None
  wrote_late o owed e m = record {
    added = (o, side.Wrote) ∷ [];
    are = λ later orders said from.
        ap (λ l. answers (side.Wrote ∷ said) (l ++ rest wrote None later orders)) e
        ∙ ap (λ l. (o, side.Wrote) ∷ answers said (l ++ rest wrote None later orders)) (sym (ap (λ l. answered side.Wrote l) e))
        ∙ ap (λ t. (o, side.Wrote) ∷ answers said (total t later orders)) (sym (none_seat wrote));
    says = tt;
    below = subst (λ t. Below (next mine wrote None).joined t) (sym (none_seat wrote)) (side_below wrote side.Wrote refl (next mine wrote None).joined (up mine wrote None m));
  }

  write_failed : (o : ℕ × ℕ) (owed : List (ℕ × ℕ)) (outs : List Out) → s.owed ≡ o ∷ owed → s.now ≡ Some o.0 → Meant (meaning seats mine broke) (one (cause.EditorGone o.0 why.WriteFault) outs) → Does broke (one (cause.EditorGone o.0 why.WriteFault) outs)
  write_failed o owed outs e now m =
      let entry = one (cause.EditorGone o.0 why.WriteFault) outs in
      let more = (gave mine broke (cause.EditorGone o.0 why.WriteFault) outs).more in
      let first = (subst (λ l. Low seats.joined l) e low.owed).0 in
      let grows = up mine broke entry m in
      record {
        added = (o, side.Broke) ∷ [];
        are = λ later orders said from.
            ap (λ l. answers (side.Broke ∷ said) (l ++ rest broke entry later orders)) e
            ∙ ap (λ q. (o, side.Broke) ∷ answers said (without o.0 (owed ++ q))) (gone_tags broke o.0 why.WriteFault outs now later orders)
            ∙ ap (λ r. (o, side.Broke) ∷ answers said r)
            (without_append o.0 owed (tagged later (more ++ orders)) ∙ ap (λ q. without o.0 owed ++ q) (without_off o.0 (tagged later (more ++ orders)) (off_tagged o.0 (next mine broke entry).joined later (more ++ orders) (omega (arith, first, grows)) from))
            ∙ ap (λ l. l ++ tagged later (more ++ orders)) (sym (ap (λ l. answered side.Broke l) e)) ∙ sym (gone_after broke o.0 why.WriteFault outs later orders));
        says = (λ n k h. absurd cc, λ n h. let same : o.0 ≡ n = cc in (o.1, ap (λ (k : ℕ). ((k, o.1), side.Broke) ∷ []) same));
        below = gone_below broke o.0 why.WriteFault outs m (low_answered seats.joined side.Broke s.owed low.owed);
      }

  broke_late : (o : ℕ × ℕ) (owed : List (ℕ × ℕ)) → s.owed ≡ o ∷ owed → is_now s.now o.0 ≡ false → Meant (meaning seats mine broke) None → Does broke None
  broke_late o owed e off m =
      let first = (subst (λ l. Low seats.joined l) e low.owed).0 in
      let grows = up mine broke None m in
      record {
        added = (o, side.Broke) ∷ [];
        are = λ later orders said from.
            ap (λ l. answers (side.Broke ∷ said) (l ++ rest broke None later orders)) e
            ∙ ap (λ r. (o, side.Broke) ∷ answers said r)
            (without_append o.0 owed (rest broke None later orders) ∙ ap (λ q. without o.0 owed ++ q) (without_off o.0 (rest broke None later orders) (off_all o.0 (next mine broke None).joined s.now s.closed later orders (omega (arith, first, grows)) from off))
            ∙ ap (λ l. l ++ rest broke None later orders) (sym (ap (λ l. answered side.Broke l) e)) ∙ ap (λ t. total t later orders) (sym (none_seat broke)));
        says = tt;
        below = subst (λ t. Below (next mine broke None).joined t) (sym (none_seat broke)) (side_below broke side.Broke refl (next mine broke None).joined grows);
      }

  by_owed : (sd : Side) (entry : Option Entry) (owed : List (ℕ × ℕ)) → s.owed ≡ owed → Meant (editor_side s.now owed sd) entry → Meant (meaning seats mine (item.Side sd)) entry → Does (item.Side sd) entry
  by_owed sd entry [] e m full = stray (λ en. Does (item.Side sd) en) entry m
  by_owed side.Wrote entry (o ∷ owed) e m full = (elim (is_now s.now o.0) as (λ b. Meant (if b then meant.Means (cause.Drained o.0 o.1) else meant.Silent) entry → Does wrote entry) [
    | true ↦ λ m. means (cause.Drained o.0 o.1) (λ en. Meant (meaning seats mine wrote) en → Does wrote en) entry (λ outs full. was_drained o owed outs e full) m full
    | false ↦ λ m. silent (λ en. Meant (meaning seats mine wrote) en → Does wrote en) entry (λ full. wrote_late o owed e full) m full
  ]) m
  by_owed side.Broke entry (o ∷ owed) e m full = (elim (is_now s.now o.0) as (λ b. is_now s.now o.0 ≡ b → Meant (if b then meant.Means (cause.EditorGone o.0 why.WriteFault) else meant.Silent) entry → Does broke entry) [
    | true ↦ λ is m. means (cause.EditorGone o.0 why.WriteFault) (λ en. Meant (meaning seats mine broke) en → Does broke en) entry (λ outs full. write_failed o owed outs e (is_now_is s.now o.0 is) full) m full
    | false ↦ λ off m. silent (λ en. Meant (meaning seats mine broke) en → Does broke en) entry (λ full. broke_late o owed e off full) m full
  ]) refl m

  does : (x : Item) (entry : Option Entry) → Meant (meaning seats mine x) entry → Does x entry
  does (item.Posted p) entry m = by_editor seats.joined (λ x entry now tail. Own x entry now) posted_ways seats i (item.Posted p) entry refl m refl m
  does (item.Side sd) entry m = by_owed sd entry s.owed refl m m

  -- what any deed adds to the answers of this lane
  pub record Adds (l : LaneName) (x : Item) (entry : Option Entry) : Type 0 where
    pub added : List ((ℕ × ℕ) × Side)
    pub are : (later : List ℕ) (orders : List Order) (said : List Side) → From (next l x entry).joined later
        → answers ((if same_lane mine l then side_in x else []) ++ said) (total s ((if same_lane mine l then session_in mine entry else []) ++ later) (ordered l x entry ++ orders)) ≡ added ++ answers said (total (seat_at i (next l x entry).editors) later orders)
    pub says : l ≡ mine → Said entry added
    pub below : Below (next l x entry).joined (seat_at i (next l x entry).editors)

  adds_none : (l : LaneName) (x : Item) (entry : Option Entry) → same_lane mine l ≡ false → Meant (meaning seats l x) entry → Adds l x entry
  adds_none l x entry f m =
      let r = elsewhere l x entry f m in record {
        added = [];
        are = λ later orders said from. ap (λ (b : Bool). answers ((if b then side_in x else []) ++ said) (total s ((if b then session_in mine entry else []) ++ later) (ordered l x entry ++ orders))) f ∙ r.0 later orders said from;
        says = λ is. let h : true ≡ false = sym (self i) ∙ ap (λ (k : LaneName). same_lane mine k) (sym is) ∙ f in absurd cc;
        below = r.1;
      }

  adds_own : (x : Item) (entry : Option Entry) → Meant (meaning seats mine x) entry → Adds mine x entry
  adds_own x entry m =
      let d = does x entry m in record {
        added = d.added;
        are = λ later orders said from. ap (λ (b : Bool). answers ((if b then side_in x else []) ++ said) (total s ((if b then session_in mine entry else []) ++ later) (ordered mine x entry ++ orders))) (self i) ∙ d.are later orders said from;
        says = λ _. d.says;
        below = d.below;
      }

  pub adds : (l : LaneName) (x : Item) (entry : Option Entry) → Meant (meaning seats l x) entry → Adds l x entry
  adds (lane.Server j) x entry m = adds_none (lane.Server j) x entry refl m
  adds lane.Ticker x entry m = adds_none lane.Ticker x entry refl m
  adds (lane.Editor j) x entry m = ⊎_elim
      (λ (t : ((i == j) ≡ true) × (i ≡ j)). subst (λ (k : ℕ). Meant (meaning seats (lane.Editor k) x) entry → Adds (lane.Editor k) x entry) t.1 (λ m. adds_own x entry m) m)
      (λ (t : ((i == j) ≡ false) × (i ≢ j)). adds_none (lane.Editor j) x entry t.0 m)
      (eqb_tells i j)
