-- What the orders of an entry add to what a servers' lane owes, and which starts they begin.
use Rattle.std.proofs.Common.{◌≡◌, ◌≢◌, ℕ, ◌==◌, ◌<◌, List, [], ◌∷◌, ◌++◌, Bool, true, false, if◌then◌else◌, fold, length, refl, sym, ap, ◌∙◌, subst, ⊎_elim, arith, Option, append_assoc, append-nil, slice_set}
use Rattle.std.specs.Prelude.{⊤}
use Rattle.std.specs.declared.option.Option.TheVariants.{Some, None}
use Rattle.std.proofs.lemmas.Bool.Decides.{eqb_tells}
use Rattle.mux_history.specs.declared.out.Out.{Out}
use Rattle.mux_history.specs.declared.out.Out.TheVariants as out
use Rattle.mux_history.specs.declared.cause.Cause.{Cause}
use Rattle.mux_history.specs.declared.cause.Cause.TheVariants as cause
use Rattle.lane_lists.specs.declared.item.LaneName.{LaneName}
use Rattle.lane_lists.specs.declared.item.LaneName.TheVariants as lane
use Rattle.lane_lists.specs.declared.item.Order.{Order}
use Rattle.lane_lists.specs.declared.item.Order.TheVariants as order
use Rattle.lane_lists.specs.declared.item.Item.{Item}
use Rattle.lane_lists.specs.Seats.{Seat, Seats, seat_at, seat_of, done_at, Given, body_seat, close_seat, give, to_editor, to_server, place_of, drop_waiting, give_out}
use Rattle.lane_lists.specs.Deeds.{only, begin_all, same_lane, with_done}
use Rattle.lane_lists.specs.StartSides.{BeginOnce, Unbegun, start_tagged, tag}
use Rattle.lane_lists.proofs.Moves.{caused, once_either, once_here}
use Rattle.lane_lists.proofs.ByOrders.{within_now, place_some}
use Rattle.lane_lists.proofs.Tally.{waits}
use Rattle.lane_lists.proofs.StartMoves.{start_at}
use Rattle.lane_lists.proofs.OrderStarts.{first, marked}
use Rattle.lane_lists.proofs.ToStarts.{NoneBegun, OneBegun, add_other, add_own, begun, outs_seated}

-- the start to which orders can be given, and all that a lane owes and will owe
abbrev pub open_of : Option ℕ → Bool → Option ℕ
open_of now closed = if closed then None else now

abbrev pub owing : Seat → List Order → List (ℕ × ℕ)
owing seat os = seat.owed ++ start_tagged (open_of seat.now seat.closed) os

-- orders that begin no start
abbrev pub Bare : List Order → Type 0
Bare [] = ⊤
Bare (order.Begin s ∷ os) = ⊥
Bare (order.Body body ∷ os) = Bare os
Bare (order.Close ∷ os) = Bare os
Bare (order.Done ∷ os) = Bare os

bare_append : (xs ys : List Order) → Bare xs → Bare ys → Bare (xs ++ ys)
bare_append [] ys a b = b
bare_append (order.Begin s ∷ xs) ys a b = a
bare_append (order.Body body ∷ xs) ys a b = bare_append xs ys a b
bare_append (order.Close ∷ xs) ys a b = bare_append xs ys a b
bare_append (order.Done ∷ xs) ys a b = bare_append xs ys a b

pub unbegun_bare : (s : ℕ) (xs ys : List Order) → Bare xs → Unbegun s ys → Unbegun s (xs ++ ys)
unbegun_bare s [] ys a b = b
unbegun_bare s (order.Begin n ∷ xs) ys a b = absurd a
unbegun_bare s (order.Body body ∷ xs) ys a b = unbegun_bare s xs ys a b
unbegun_bare s (order.Close ∷ xs) ys a b = unbegun_bare s xs ys a b
unbegun_bare s (order.Done ∷ xs) ys a b = unbegun_bare s xs ys a b

pub once_bare : (xs ys : List Order) → Bare xs → BeginOnce ys → BeginOnce (xs ++ ys)
once_bare [] ys a b = b
once_bare (order.Begin n ∷ xs) ys a b = absurd a
once_bare (order.Body body ∷ xs) ys a b = once_bare xs ys a b
once_bare (order.Close ∷ xs) ys a b = once_bare xs ys a b
once_bare (order.Done ∷ xs) ys a b = once_bare xs ys a b

pub unbegun_behind : (s : ℕ) (xs ys : List Order) → Unbegun s (xs ++ ys) → Unbegun s ys
unbegun_behind s [] ys u = u
unbegun_behind s (order.Begin n ∷ xs) ys u = unbegun_behind s xs ys u.1
unbegun_behind s (order.Body body ∷ xs) ys u = unbegun_behind s xs ys u
unbegun_behind s (order.Close ∷ xs) ys u = unbegun_behind s xs ys u
unbegun_behind s (order.Done ∷ xs) ys u = unbegun_behind s xs ys u

-- what the cause of an entry orders begins none
bare_if : (b : Bool) (o : Order) → Bare (o ∷ []) → Bare (if b then o ∷ [] else [])
bare_if true o a = a
bare_if false o a = tt

with_bare : (i : ℕ) (ds : List Order) (l : LaneName) (seats : Seats) → ((o : Order) (rest : List Order) → ds ≡ o ∷ rest → Bare (o ∷ [])) → Bare (only (lane.Server i) (with_done ds l seats).orders)
with_bare i [] l seats f = tt
with_bare i (o ∷ os) l seats f = bare_if (same_lane (lane.Server i) l) o (f o os refl)

unless_done : (b : Bool) (o : Order) (rest : List Order) → (if b then [] else order.Done ∷ []) ≡ o ∷ rest → Bare (o ∷ [])
unless_done true o rest e = absurd cc
unless_done false o rest e = let same : order.Done ≡ o = cc in subst (λ x. Bare (x ∷ [])) same tt

cause_bare : (s : Seat) (c : Cause) (o : Order) (rest : List Order) → done_at s c ≡ o ∷ rest → Bare (o ∷ [])
cause_bare s (cause.EditorGone e w) o rest is = unless_done s.closed o rest is
cause_bare s (cause.StartFailed n) o rest is = unless_done s.closed o rest is
cause_bare s (cause.ServerGone n) o rest is = unless_done s.closed o rest is
cause_bare s (cause.Joined e) o rest is = absurd cc
cause_bare s (cause.FromEditor e body) o rest is = absurd cc
cause_bare s (cause.Started n) o rest is = absurd cc
cause_bare s (cause.FromServer n body) o rest is = absurd cc
cause_bare s (cause.Drained e k) o rest is = absurd cc
cause_bare s (cause.Tick t) o rest is = absurd cc

pub done_bare : (i : ℕ) (seats : Seats) (l : LaneName) (x : Item) (c : Cause) → Bare (only (lane.Server i) (first seats l x c).orders)
done_bare i seats l x c =
    let s = seat_of l (marked seats l x) in with_bare i (done_at s c) l (caused (marked seats l x) l x c) (λ o rest is. cause_bare s c o rest is)

-- each of these is of such a start
abbrev pub AllOf : (ℕ → Type 0) → List (ℕ × ℕ) → Type 0
AllOf P [] = ⊤
AllOf P (o ∷ os) = P o.0 × AllOf P os

all_append : (P : ℕ → Type 0) (xs ys : List (ℕ × ℕ)) → AllOf P xs → AllOf P ys → AllOf P (xs ++ ys)
all_append P [] ys a b = b
all_append P (x ∷ xs) ys a b = (a.0, all_append P xs ys a.1 b)

pub all_up : (P Q : ℕ → Type 0) (xs : List (ℕ × ℕ)) → ((s : ℕ) → P s → Q s) → AllOf P xs → AllOf Q xs
all_up P Q [] f a = tt
all_up P Q (x ∷ xs) f a = (f x.0 a.0, all_up P Q xs f a.1)

module _ (i : ℕ) (P : ℕ → Type 0) where
  pub record Holds (s : Seat) : Type 0 where
    pub owed : AllOf P s.owed
    pub now : (e : ℕ) → s.now ≡ Some e → P e

  pub record Owes (g h : Given) : Type 0 where
    pub more : List Order
    pub orders : only (lane.Server i) h.orders ≡ only (lane.Server i) g.orders ++ more
    pub totals : (os : List Order) → owing (seat_at i g.seats.servers) (more ++ os) ≡ owing (seat_at i h.seats.servers) os
    pub holds : Holds (seat_at i g.seats.servers) → Holds (seat_at i h.seats.servers)
    pub bare : Bare more

  owes_same : (g h : Given) → only (lane.Server i) h.orders ≡ only (lane.Server i) g.orders → seat_at i h.seats.servers ≡ seat_at i g.seats.servers → Owes g h
  owes_same g h same seat = record {
    more = [];
    orders = same ∙ sym (append-nil (only (lane.Server i) g.orders));
    totals = λ os. ap (λ s. owing s os) (sym seat);
    holds = λ b. subst (λ s. Holds s) (sym seat) b;
    bare = tt;
  }

  owes_then : (g mid h : Given) → Owes g mid → Owes mid h → Owes g h
  owes_then g mid h q r = record {
    more = q.more ++ r.more;
    orders = r.orders ∙ ap (λ l. l ++ r.more) q.orders ∙ append_assoc (only (lane.Server i) g.orders) q.more r.more;
    totals = λ os. ap (λ l. owing (seat_at i g.seats.servers) l) (append_assoc q.more r.more os) ∙ q.totals (r.more ++ os) ∙ r.totals os;
    holds = λ b. r.holds (q.holds b);
    bare = bare_append q.more r.more q.bare r.bare;
  }

  module _ (n : ℕ) (o : Order) (f : Seat → Seat) (bare : Bare (o ∷ []))
      (fits : (s : Seat) (os : List Order) → s.now ≡ Some n → s.closed ≡ false → owing s (o ∷ os) ≡ owing (f s) os)
      (stays : (s : Seat) → s.now ≡ Some n → Holds s → Holds (f s)) where
    to_owes : (g : Given) (p : Option ℕ) → place_of n g.seats.servers ≡ p → Owes g (to_server p o f g)
    to_owes g None place = owes_same g g refl refl
    to_owes g (Some j) place =
        let there : start_at j g.seats ≡ Some n = place_some g.seats.servers n j place in
        let within : j < length g.seats.servers = within_now g.seats.servers j n there in
        let was : Seat = seat_at j g.seats.servers in
        let h : Given = give (lane.Server j) o f g in
        (elim ((seat_at j g.seats.servers).closed) as (λ b. (seat_at j g.seats.servers).closed ≡ b → Owes g (if b then g else give (lane.Server j) o f g)) [
          | true ↦ λ shut. owes_same g g refl refl
          | false ↦ λ unshut. ⊎_elim
              (λ (t : ((i == j) ≡ true) × (i ≡ j)).
              let set : seat_at i h.seats.servers ≡ f was = subst (λ (k : ℕ). seat_at k (slice_set g.seats.servers j (f was)) ≡ f was) (sym t.1) (once_here g.seats.servers j f within) in
              let here : seat_at i g.seats.servers ≡ was = ap (λ (k : ℕ). seat_at k g.seats.servers) t.1 in
              record {
                more = o ∷ [];
                orders = add_own i g j o t.0;
                totals = λ os. ap (λ s. owing s (o ∷ os)) here ∙ fits was os there unshut ∙ ap (λ s. owing s os) (sym set);
                holds = λ b. subst (λ s. Holds s) (sym set) (stays was there (subst (λ s. Holds s) here b));
                bare = bare;
              })
              (λ (t : ((i == j) ≡ false) × (i ≢ j)).
              owes_same g h (add_other i g (lane.Server j) o t.0) (⊎_elim (λ s. absurd (t.1 s.0)) (λ s. s) (once_either g.seats.servers j i f)))
              (eqb_tells i j)
        ]) refl

  to_editor_owes : (p : Option ℕ) (o : Order) (f : Seat → Seat) (g : Given) → Owes g (to_editor p o f g)
  to_editor_owes None o f g = owes_same g g refl refl
  to_editor_owes (Some j) o f g = elim ((seat_at j g.seats.editors).closed) as (λ b. Owes g (if b then g else give (lane.Editor j) o f g)) [
    | true ↦ owes_same g g refl refl
    | false ↦ owes_same g (give (lane.Editor j) o f g) (add_other i g (lane.Editor j) o refl) refl
  ]

  fits_body : (n : ℕ) (body : List ℕ) (s : Seat) (os : List Order) → s.now ≡ Some n → s.closed ≡ false → owing s (order.Body body ∷ os) ≡ owing (body_seat n body s) os
  fits_body n body s os is unshut =
      let o : open_of s.now s.closed ≡ Some n = ap (λ (b : Bool). open_of s.now b) unshut ∙ is in
      ap (λ x. s.owed ++ (tag x (length body) ++ start_tagged x os)) o ∙ sym (append_assoc s.owed ((n, length body) ∷ []) (start_tagged (Some n) os)) ∙ ap (λ x. (s.owed ++ (n, length body) ∷ []) ++ start_tagged x os) (sym o)

  out_owes : (o : Out) (g : Given) → Owes g (give_out g o)
  out_owes (out.ToServer n body) g =
      to_owes n (order.Body body) (body_seat n body) tt (fits_body n body) (λ s is b. record { owed = all_append P s.owed ((n, length body) ∷ []) b.owed (b.now n is, tt); now = b.now }) g (place_of n g.seats.servers) refl
  out_owes (out.EndServer n) g =
      let h : Given = record g { seats = drop_waiting n g.seats } in
      let r = to_owes n order.Close close_seat tt (λ s os is unshut. refl) (λ s is b. record { owed = b.owed; now = b.now }) h (place_of n g.seats.servers) refl in
      record { more = r.more; orders = r.orders; totals = r.totals; holds = r.holds; bare = r.bare }
  out_owes (out.ToEditor e body) g = to_editor_owes (place_of e g.seats.editors) (order.Body body) (body_seat e body) g
  out_owes (out.CloseEditor e) g = to_editor_owes (place_of e g.seats.editors) order.Close close_seat g
  out_owes (out.Spawn s group) g = owes_same g (give_out g (out.Spawn s group)) refl refl

  outs_owe : (outs : List Out) (g : Given) → Owes g (fold give_out g outs)
  outs_owe [] g = owes_same g g refl refl
  outs_owe (o ∷ outs) g = owes_then g (give_out g o) (fold give_out (give_out g o) outs) (out_owes o g) (outs_owe outs (give_out g o))

  -- all that one entry gives, and the start that it begins, if one
  pub record OwesAll (outs : List Out) (g : Given) : Type 0 where
    pub more : List Order
    pub orders : only (lane.Server i) (begin_all (fold give_out g outs)).orders ≡ only (lane.Server i) g.orders ++ more
    pub totals : (os : List Order) → owing (seat_at i g.seats.servers) (more ++ os) ≡ owing (seat_at i (begin_all (fold give_out g outs)).seats.servers) os
    pub owed : Holds (seat_at i g.seats.servers) → AllOf P (seat_at i (begin_all (fold give_out g outs)).seats.servers).owed
    pub unbegun : (s : ℕ) (os : List Order) → waits s (fold give_out g outs).seats.waiting ≡ 0 → Unbegun s os → Unbegun s (more ++ os)
    pub once : (os : List Order) → ((s : ℕ) → start_at i (begin_all (fold give_out g outs)).seats ≡ Some s → Unbegun s os) → BeginOnce os → BeginOnce (more ++ os)

  none_owes : (outs : List Out) (g : Given) → Owes g (fold give_out g outs) → NoneBegun i (fold give_out g outs) (begin_all (fold give_out g outs)) → OwesAll outs g
  none_owes outs g r b = record {
    more = r.more;
    orders = b.orders ∙ r.orders;
    totals = λ os. r.totals os ∙ ap (λ s. owing s os) (sym b.seat);
    owed = λ h. subst (λ (s : Seat). AllOf P s.owed) (sym b.seat) (r.holds h).owed;
    unbegun = λ s os none u. unbegun_bare s r.more os r.bare u;
    once = λ os later u. once_bare r.more os r.bare u;
  }

  one_owes : (outs : List Out) (g : Given) → Owes g (fold give_out g outs) → OneBegun i (fold give_out g outs).seats.waiting (fold give_out g outs) (begin_all (fold give_out g outs)) → OwesAll outs g
  one_owes outs g r b =
      let ws = (fold give_out g outs).seats.waiting in
      let begin = order.Begin b.start in record {
        more = r.more ++ begin ∷ [];
        orders = b.orders ∙ ap (λ l. l ++ begin ∷ []) r.orders ∙ append_assoc (only (lane.Server i) g.orders) r.more (begin ∷ []);
        totals = λ os. ap (λ l. owing (seat_at i g.seats.servers) l) (append_assoc r.more (begin ∷ []) os) ∙ r.totals (begin ∷ os) ∙ ap (λ s. owing s os) (sym b.seat);
        owed = λ h. subst (λ (s : Seat). AllOf P s.owed) (sym b.seat) (r.holds h).owed;
        unbegun = λ s os none u. subst (λ l. Unbegun s l) (sym (append_assoc r.more (begin ∷ []) os))
            (unbegun_bare s r.more (begin ∷ os) r.bare ((λ same. let w = b.waits in let e : waits b.start ws ≡ waits s ws = ap (λ (k : ℕ). waits k ws) same in omega (arith, w, e, none)), u));
        once = λ os later u. subst (λ l. BeginOnce l) (sym (append_assoc r.more (begin ∷ []) os)) (once_bare r.more (begin ∷ os) r.bare (later b.start (ap (λ (s : Seat). s.now) b.seat), u));
      }

  pub all_owe : (outs : List Out) (g : Given) → i < length g.seats.servers → OwesAll outs g
  all_owe outs g within =
      let h : Given = fold give_out g outs in
      let r = outs_owe outs g in
      let len = (outs_seated outs g).len in
      ⊎_elim (λ b. none_owes outs g r b) (λ b. one_owes outs g r b) (begun i h.seats.waiting h (omega arith))
