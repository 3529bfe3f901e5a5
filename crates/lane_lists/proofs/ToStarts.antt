-- How outs and starts that begin give the orders of a servers' lane.
use Rattle.std.proofs.Common.{◌≡◌, ◌≢◌, ℕ, ◌==◌, ◌<◌, ◌≤◌, List, [], ◌∷◌, ◌++◌, Bool, true, false, if◌then◌else◌, fold, length, refl, sym, ap, ◌∙◌, subst, ◌⊎◌, inl, inr, ⊎_elim, arith, Option, slice_set, append_assoc, append-nil}
use Rattle.std.specs.declared.option.Option.TheVariants.{Some, None}
use Rattle.std.proofs.lemmas.List.{length-set}
use Rattle.std.proofs.lemmas.Bool.Decides.{eqb_tells}
use Rattle.mux_history.specs.declared.out.Out.{Out}
use Rattle.mux_history.specs.declared.out.Out.TheVariants as out
use Rattle.lane_lists.specs.declared.item.LaneName.{LaneName}
use Rattle.lane_lists.specs.declared.item.LaneName.TheVariants as lane
use Rattle.lane_lists.specs.declared.item.Order.{Order}
use Rattle.lane_lists.specs.declared.item.Order.TheVariants as order
use Rattle.lane_lists.specs.Seats.{Seat, Seats, seat_at, is_now, place_of, Given, body_seat, close_seat, give, to_editor, to_server, drop_waiting, give_out, begin_seat, free_place, begin_at, begin_from}
use Rattle.lane_lists.specs.Deeds.{only, same_lane}
use Rattle.lane_lists.specs.History.{Mark, Told, Closed}
use Rattle.lane_lists.specs.StartOrders.{start_out_mark, start_out_marks}
use Rattle.lane_lists.proofs.Moves.{once_either, once_here}
use Rattle.lane_lists.proofs.ByOrders.{kept, Open, open_at, place_none, place_some, only_append}
use Rattle.lane_lists.proofs.StartMoves.{start_at, set_part, free_is, out_moves, outs_move, begin_moves}
use Rattle.lane_lists.proofs.Tally.{one_if, waits}

abbrev pub shut_at : ℕ → Seats → Bool
shut_at k seats = (seat_at k seats.servers).closed

-- the same starts in the lanes
pub record Seated (a b : List Seat) : Type 0 where
  pub len : length b ≡ length a
  pub now : (k : ℕ) → (seat_at k b).now ≡ (seat_at k a).now

seated_set : (l : List Seat) (j : ℕ) (v : Seat) → v.now ≡ (seat_at j l).now → Seated l (slice_set l j v)
seated_set l j v h = record { len = length-set l j v; now = λ k. set_part (λ s. s.now) v l j k h }

seated_self : (a : List Seat) → Seated a a
seated_self a = record { len = refl; now = λ k. refl }

seated_then : (a b c : List Seat) → Seated a b → Seated b c → Seated a c
seated_then a b c f g = record { len = g.len ∙ f.len; now = λ k. g.now k ∙ f.now k }

pub out_seated : (o : Out) (g : Given) → Seated g.seats.servers (give_out g o).seats.servers
out_seated o g = out_moves Seated seated_self seated_then (λ n b j l. seated_set l j (body_seat n b (seat_at j l)) refl) (λ j l. seated_set l j (close_seat (seat_at j l)) refl) o g

pub outs_seated : (outs : List Out) (g : Given) → Seated g.seats.servers (fold give_out g outs).seats.servers
outs_seated outs g = outs_move Seated seated_self seated_then (λ n b j l. seated_set l j (body_seat n b (seat_at j l)) refl) (λ j l. seated_set l j (close_seat (seat_at j l)) refl) outs g

-- the lanes that are taken stay so
pub record Stay (a b : List Seat) : Type 0 where
  pub now : (k s : ℕ) → (seat_at k a).now ≡ Some s → (seat_at k b).now ≡ Some s

stay_set : (s : ℕ) (j : ℕ) (l : List Seat) → free_place l ≡ Some j → Stay l (slice_set l j (begin_seat s (seat_at j l)))
stay_set s j l free = record {
  now = λ k n is. ⊎_elim
      (λ t. let f : None ≡ Some n = sym (free_is l j free) ∙ subst (λ (i : ℕ). (seat_at i l).now ≡ Some n) t.0 is in absurd cc)
      (λ t. ap (λ (s : Seat). s.now) t ∙ is)
      (once_either l j k (begin_seat s));
}

stay_of : (a b : List Seat) → Seated a b → Stay a b
stay_of a b s = record { now = λ k n is. s.now k ∙ is }

pub begin_stay : (starts : List ℕ) (g : Given) → Stay g.seats.servers (begin_from starts g).seats.servers
begin_stay starts g =
    begin_moves Stay (λ a. record { now = λ k n is. is }) (λ a b c f g. record { now = λ k n is. g.now k n (f.now k n is) })
    (λ n b j l. stay_of l (slice_set l j (body_seat n b (seat_at j l))) (seated_set l j (body_seat n b (seat_at j l)) refl)) (λ j l. stay_of l (slice_set l j (close_seat (seat_at j l))) (seated_set l j (close_seat (seat_at j l)) refl))
    stay_set starts g

-- each start has one lane
pub record Single (seats : List Seat) : Type 0 where
  pub apart : (j k s : ℕ) → (seat_at j seats).now ≡ Some s → (seat_at k seats).now ≡ Some s → j ≡ k

single_seated : (a b : List Seat) → Seated a b → Single a → Single b
single_seated a b l s = record { apart = λ j k e hj hk. s.apart j k e (sym (l.now j) ∙ hj) (sym (l.now k) ∙ hk) }

module _ (i : ℕ) where
  -- from one state of the giving to a later one
  pub record Gave (g h : Given) (says : ℕ → List Mark) (items : List Order) : Type 0 where
    pub more : List Order
    pub orders : only (lane.Server i) h.orders ≡ only (lane.Server i) g.orders ++ more
    pub opened : Open (start_at i g.seats) (shut_at i g.seats) says (more ++ items)

  gave_same : (g h : Given) (says says' : ℕ → List Mark) (items : List Order) → only (lane.Server i) h.orders ≡ only (lane.Server i) g.orders → start_at i h.seats ≡ start_at i g.seats → shut_at i h.seats ≡ shut_at i g.seats
      → ((e : ℕ) → start_at i g.seats ≡ Some e → shut_at i g.seats ≡ false → says' e ≡ says e) → Open (start_at i h.seats) (shut_at i h.seats) says items → Gave g h says' items
  gave_same g h says says' items same n c f o = record {
    more = [];
    orders = same ∙ sym (append-nil (only (lane.Server i) g.orders));
    opened = open_at (start_at i g.seats) (start_at i h.seats) (shut_at i g.seats) (shut_at i h.seats) says says' items n c f o;
  }

  pub add_other : (g : Given) (l : LaneName) (o : Order) → same_lane (lane.Server i) l ≡ false → only (lane.Server i) (g.orders ++ (l, o) ∷ []) ≡ only (lane.Server i) g.orders
  add_other g l o f = only_append (lane.Server i) g.orders ((l, o) ∷ []) ∙ ap (λ (b : Bool). only (lane.Server i) g.orders ++ (if b then o ∷ [] else [])) f ∙ append-nil (only (lane.Server i) g.orders)

  pub add_own : (g : Given) (j : ℕ) (o : Order) → (i == j) ≡ true → only (lane.Server i) (g.orders ++ (lane.Server j, o) ∷ []) ≡ only (lane.Server i) g.orders ++ o ∷ []
  add_own g j o f = only_append (lane.Server i) g.orders ((lane.Server j, o) ∷ []) ∙ ap (λ (b : Bool). only (lane.Server i) g.orders ++ (if b then o ∷ [] else [])) f

  module _ (n : ℕ) (o : Order) (f : Seat → Seat) (m : Mark) (says : ℕ → List Mark) (items : List Order) (stays : (s : Seat) → (f s).now ≡ s.now)
      (fits : (s : Seat) (e : ℕ) → s.closed ≡ false → Open (Some e) (f s).closed says items → o ∷ items ≡ kept (m ∷ says e)) where
    abbrev now_says : ℕ → List Mark
    now_says e = (if n == e then m ∷ [] else []) ++ says e

    not_it : (e : ℕ) → (n ≡ e → ⊥) → now_says e ≡ says e
    not_it e off = ap (λ (b : Bool). (if b then m ∷ [] else []) ++ says e) (⊎_elim (λ t. absurd (off t.1)) (λ t. t.0) (eqb_tells n e))

    to_gave : (g : Given) (p : Option ℕ) → Single g.seats.servers → i < length g.seats.servers → place_of n g.seats.servers ≡ p → Open (start_at i (to_server p o f g).seats) (shut_at i (to_server p o f g).seats) says items
        → Gave g (to_server p o f g) now_says items
    to_gave g None single within place op =
        gave_same g g says now_says items refl refl refl (λ e is _. not_it e (λ same. place_none g.seats.servers n i place (is ∙ ap Some (sym same)))) op
    to_gave g (Some j) single within place op =
        let there : start_at j g.seats ≡ Some n = place_some g.seats.servers n j place in
        let h : Given = give (lane.Server j) o f g in
        (elim ((seat_at j g.seats.servers).closed) as (λ b. shut_at j g.seats ≡ b → Open (start_at i (if b then g else give (lane.Server j) o f g).seats) (shut_at i (if b then g else give (lane.Server j) o f g).seats) says items
        → Gave g (if b then g else give (lane.Server j) o f g) now_says items) [
          | true ↦ λ shut op. gave_same g g says now_says items refl refl refl
              (λ e is unshut. not_it e (λ same.
              let at : j ≡ i = single.apart j i n there (is ∙ ap Some (sym same)) in
              let t : true ≡ false = sym shut ∙ ap (λ (k : ℕ). shut_at k g.seats) at ∙ unshut in absurd cc)) op
          | false ↦ λ unshut op. ⊎_elim
              (λ (t : ((i == j) ≡ true) × (i ≡ j)).
              let here : start_at i g.seats ≡ Some n = subst (λ (k : ℕ). start_at k g.seats ≡ Some n) (sym t.1) there in
              let unshut' : shut_at i g.seats ≡ false = subst (λ (k : ℕ). shut_at k g.seats ≡ false) (sym t.1) unshut in
              let set : seat_at i h.seats.servers ≡ f (seat_at i g.seats.servers) =
              subst (λ (k : ℕ). seat_at i (slice_set g.seats.servers k (f (seat_at k g.seats.servers))) ≡ f (seat_at i g.seats.servers)) t.1 (once_here g.seats.servers i f within) in
              let op' : Open (Some n) (f (seat_at i g.seats.servers)).closed says items =
              open_at (Some n) (start_at i h.seats) (f (seat_at i g.seats.servers)).closed (shut_at i h.seats) says says items (ap (λ (s : Seat). s.now) set ∙ stays (seat_at i g.seats.servers) ∙ here) (ap (λ (s : Seat). s.closed) set) (λ _ _ _. refl) op in
              let self : is_now (Some n) n ≡ true = grind arith in
              let it : now_says n ≡ m ∷ says n = ap (λ (b : Bool). (if b then m ∷ [] else []) ++ says n) self in
              record {
                more = o ∷ [];
                orders = add_own g j o t.0;
                opened = open_at (start_at i g.seats) (Some n) (shut_at i g.seats) false now_says now_says (o ∷ items) (sym here) (sym unshut') (λ _ _ _. refl) (fits (seat_at i g.seats.servers) n unshut' op' ∙ ap kept (sym it));
              })
              (λ (t : ((i == j) ≡ false) × (i ≢ j)).
              let set : seat_at i h.seats.servers ≡ seat_at i g.seats.servers = ⊎_elim (λ s. absurd (t.1 s.0)) (λ s. s) (once_either g.seats.servers j i f) in
              gave_same g h says now_says items (add_other g (lane.Server j) o t.0) (ap (λ (s : Seat). s.now) set) (ap (λ (s : Seat). s.closed) set)
              (λ e is _. not_it e (λ same. t.1 (single.apart i j n (is ∙ ap Some (sym same)) there))) op)
              (eqb_tells i j)
        ]) refl op

  to_editor_gave : (p : Option ℕ) (o : Order) (f : Seat → Seat) (g : Given) (says : ℕ → List Mark) (items : List Order) → Open (start_at i (to_editor p o f g).seats) (shut_at i (to_editor p o f g).seats) says items → Gave g (to_editor p o f g) says items
  to_editor_gave None o f g says items op = gave_same g g says says items refl refl refl (λ _ _ _. refl) op
  to_editor_gave (Some j) o f g says items op =
      (elim ((seat_at j g.seats.editors).closed) as (λ b. Open (start_at i (if b then g else give (lane.Editor j) o f g).seats) (shut_at i (if b then g else give (lane.Editor j) o f g).seats) says items → Gave g (if b then g else give (lane.Editor j) o f g) says items) [
        | true ↦ λ op. gave_same g g says says items refl refl refl (λ _ _ _. refl) op
        | false ↦ λ op. gave_same g (give (lane.Editor j) o f g) says says items (add_other g (lane.Editor j) o refl) refl refl (λ _ _ _. refl) op
      ]) op

  out_gave : (o : Out) (g : Given) (says : ℕ → List Mark) (items : List Order) → Single g.seats.servers → i < length g.seats.servers → Open (start_at i (give_out g o).seats) (shut_at i (give_out g o).seats) says items
      → Gave g (give_out g o) (λ e. start_out_mark e o ++ says e) items
  out_gave (out.ToServer n body) g says items single within op =
      to_gave n (order.Body body) (body_seat n body) (Told body) says items (λ s. refl)
      (λ s e unshut o. ap (λ l. order.Body body ∷ l) (open_at (Some e) (Some e) false s.closed says says items refl unshut (λ _ _ _. refl) o)) g (place_of n g.seats.servers) single within refl op
  out_gave (out.EndServer n) g says items single within op =
      let h : Given = record g { seats = drop_waiting n g.seats } in
      let r = to_gave n order.Close close_seat Closed says items (λ s. refl) (λ s e unshut o. ap (λ l. order.Close ∷ l) o) h (place_of n g.seats.servers) single within refl op in record { more = r.more; orders = r.orders; opened = r.opened }
  out_gave (out.ToEditor e body) g says items single within op = to_editor_gave (place_of e g.seats.editors) (order.Body body) (body_seat e body) g says items op
  out_gave (out.CloseEditor e) g says items single within op = to_editor_gave (place_of e g.seats.editors) order.Close close_seat g says items op
  out_gave (out.Spawn s group) g says items single within op = gave_same g (give_out g (out.Spawn s group)) says says items refl refl refl (λ _ _ _. refl) op

  open_says : (now : Option ℕ) (closed : Bool) (says says' : ℕ → List Mark) (items : List Order) → ((e : ℕ) → says' e ≡ says e) → Open now closed says items → Open now closed says' items
  open_says now closed says says' items f o = open_at now now closed closed says says' items refl refl (λ e _ _. f e) o

  pub outs_gave : (outs : List Out) (g : Given) (says : ℕ → List Mark) (items : List Order) → Single g.seats.servers → i < length g.seats.servers
      → Open (start_at i (fold give_out g outs).seats) (shut_at i (fold give_out g outs).seats) says items → Gave g (fold give_out g outs) (λ e. start_out_marks e outs ++ says e) items
  outs_gave [] g says items single within op = gave_same g g says says items refl refl refl (λ _ _ _. refl) op
  outs_gave (o ∷ outs) g says items single within op =
      let mid : Given = give_out g o in
      let like = out_seated o g in
      let r = outs_gave outs mid says items (single_seated g.seats.servers mid.seats.servers like single) (let h = like.len in omega arith) op in
      let q = out_gave o g (λ e. start_out_marks e outs ++ says e) (r.more ++ items) single within r.opened in record {
        more = q.more ++ r.more;
        orders = r.orders ∙ ap (λ l. l ++ r.more) q.orders ∙ append_assoc (only (lane.Server i) g.orders) q.more r.more;
        opened = open_says (start_at i g.seats) (shut_at i g.seats) (λ e. start_out_mark e o ++ (start_out_marks e outs ++ says e)) (λ e. (start_out_mark e o ++ start_out_marks e outs) ++ says e) ((q.more ++ r.more) ++ items)
            (λ e. append_assoc (start_out_mark e o) (start_out_marks e outs) (says e))
            (subst (λ l. Open (start_at i g.seats) (shut_at i g.seats) (λ e. start_out_mark e o ++ (start_out_marks e outs ++ says e)) l) (sym (append_assoc q.more r.more items)) q.opened);
      }

  -- starts that begin: none in this lane, or one, where it was free
  pub record NoneBegun (g h : Given) : Type 0 where
    pub orders : only (lane.Server i) h.orders ≡ only (lane.Server i) g.orders
    pub seat : seat_at i h.seats.servers ≡ seat_at i g.seats.servers

  pub record OneBegun (starts : List ℕ) (g h : Given) : Type 0 where
    pub start : ℕ
    pub orders : only (lane.Server i) h.orders ≡ only (lane.Server i) g.orders ++ order.Begin start ∷ []
    pub free : start_at i g.seats ≡ None
    pub seat : seat_at i h.seats.servers ≡ begin_seat start (seat_at i g.seats.servers)
    pub waits : 1 ≤ waits start starts

  off_begun : (s j : ℕ) (g h : Given) → (i == j) ≡ false → i ≢ j → NoneBegun (give (lane.Server j) (order.Begin s) (begin_seat s) g) h → NoneBegun g h
  off_begun s j g h f off b = record {
    orders = b.orders ∙ add_other g (lane.Server j) (order.Begin s) f;
    seat = b.seat ∙ ⊎_elim (λ t. absurd (off t.0)) (λ t. t) (once_either g.seats.servers j i (begin_seat s));
  }

  taken_at : (e : ℕ) (p : Option ℕ) (s : ℕ) (rest : List ℕ) (g : Given) (more : Given → Given) → free_place g.seats.servers ≡ p → start_at i g.seats ≡ Some e → ((h : Given) → start_at i h.seats ≡ Some e → NoneBegun h (more h)) → NoneBegun g (begin_at p s rest g more)
  taken_at e None s rest g more place is f = record { orders = refl; seat = refl }
  taken_at e (Some j) s rest g more place is f =
      let h : Given = give (lane.Server j) (order.Begin s) (begin_seat s) g in
      let free = free_is g.seats.servers j place in
      let off : i ≢ j = λ same. (let x : None ≡ Some e = sym free ∙ subst (λ (k : ℕ). start_at k g.seats ≡ Some e) same is in absurd cc) in
      let apart : (i == j) ≡ false = ⊎_elim (λ t. absurd (off t.1)) (λ t. t.0) (eqb_tells i j) in
      off_begun s j g (more h) apart off (f h ((stay_set s j g.seats.servers place).now i e is))

  taken : (e : ℕ) (starts : List ℕ) (g : Given) → start_at i g.seats ≡ Some e → NoneBegun g (begin_from starts g)
  taken e [] g is = record { orders = refl; seat = refl }
  taken e (s ∷ rest) g is = taken_at e (free_place g.seats.servers) s rest g (λ h. begin_from rest h) refl is (λ h is. taken e rest h is)

  begun_at : (p : Option ℕ) (s : ℕ) (rest : List ℕ) (g : Given) → i < length g.seats.servers → free_place g.seats.servers ≡ p
      → ((h : Given) → i < length h.seats.servers → NoneBegun h (begin_from rest h) ⊎ OneBegun rest h (begin_from rest h)) → NoneBegun g (begin_at p s rest g (λ h. begin_from rest h)) ⊎ OneBegun (s ∷ rest) g (begin_at p s rest g (λ h. begin_from rest h))
  begun_at None s rest g within place f = inl (record { orders = refl; seat = refl })
  begun_at (Some j) s rest g within place f =
      let h : Given = give (lane.Server j) (order.Begin s) (begin_seat s) g in
      let free = free_is g.seats.servers j place in
      let len = length-set g.seats.servers j (begin_seat s (seat_at j g.seats.servers)) in
      ⊎_elim
      (λ (t : ((i == j) ≡ true) × (i ≡ j)).
      let set : seat_at i h.seats.servers ≡ begin_seat s (seat_at i g.seats.servers) =
      subst (λ (k : ℕ). seat_at i (slice_set g.seats.servers k (begin_seat s (seat_at k g.seats.servers))) ≡ begin_seat s (seat_at i g.seats.servers)) t.1 (once_here g.seats.servers i (begin_seat s) within) in
      let b = taken s rest h (ap (λ (s : Seat). s.now) set) in
      let self : is_now (Some s) s ≡ true = grind arith in
      let one : one_if s s ≡ 1 = ap (λ (b : Bool). if b then 1 else 0) self in
      inr (record {
        start = s;
        orders = b.orders ∙ add_own g j (order.Begin s) t.0;
        free = subst (λ (k : ℕ). start_at k g.seats ≡ None) (sym t.1) free;
        seat = b.seat ∙ set;
        waits = omega arith;
      }))
      (λ (t : ((i == j) ≡ false) × (i ≢ j)).
      let same : seat_at i h.seats.servers ≡ seat_at i g.seats.servers = ⊎_elim (λ u. absurd (t.1 u.0)) (λ u. u) (once_either g.seats.servers j i (begin_seat s)) in
      ⊎_elim
      (λ b. inl (off_begun s j g (begin_from rest h) t.0 t.1 b))
      (λ b. inr (record {
        start = b.start;
        orders = b.orders ∙ ap (λ l. l ++ order.Begin b.start ∷ []) (add_other g (lane.Server j) (order.Begin s) t.0);
        free = ap (λ (s : Seat). s.now) (sym same) ∙ b.free;
        seat = b.seat ∙ ap (begin_seat b.start) same;
        waits = let w = b.waits in omega arith;
      }))
      (f h (omega arith)))
      (eqb_tells i j)

  pub begun : (starts : List ℕ) (g : Given) → i < length g.seats.servers → NoneBegun g (begin_from starts g) ⊎ OneBegun starts g (begin_from starts g)
  begun [] g within = inl (record { orders = refl; seat = refl })
  begun (s ∷ rest) g within = begun_at (free_place g.seats.servers) s rest g within refl (λ h within. begun rest h within)
