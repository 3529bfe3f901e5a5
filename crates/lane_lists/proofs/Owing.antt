-- What the orders of an entry add to what an editors' lane owes.
use Rattle.std.proofs.Common.{◌≡◌, ◌≢◌, ℕ, ◌==◌, ◌<◌, List, [], ◌∷◌, ◌++◌, Bool, true, false, if◌then◌else◌, fold, length, refl, sym, ap, ◌∙◌, subst, ⊎_elim, Option, append_assoc, append-nil, slice_set}
use Rattle.std.specs.Prelude.{⊤}
use Rattle.std.specs.declared.option.Option.TheVariants.{Some, None}
use Rattle.std.proofs.lemmas.Bool.Decides.{eqb_tells}
use Rattle.mux_history.specs.declared.out.Out.{Out}
use Rattle.mux_history.specs.declared.out.Out.TheVariants as out
use Rattle.lane_lists.specs.declared.item.LaneName.TheVariants as lane
use Rattle.lane_lists.specs.declared.item.Order.{Order}
use Rattle.lane_lists.specs.declared.item.Order.TheVariants as order
use Rattle.lane_lists.specs.Seats.{Seat, seat_at, Given, body_seat, close_seat, give, to_editor, to_server, place_of, drop_waiting, give_out}
use Rattle.lane_lists.specs.Deeds.{only, begin_all}
use Rattle.lane_lists.specs.Sides.{tagged}
use Rattle.lane_lists.proofs.Moves.{now_at, once_either, once_here}
use Rattle.lane_lists.proofs.ByOrders.{closed_at, within_now, place_some, add_other, add_own, begun}

-- the editor to which orders can be given, and all that a lane owes and will owe
abbrev pub open_of : Option ℕ → Bool → List ℕ
open_of None closed = []
open_of (Some e) true = []
open_of (Some e) false = e ∷ []

abbrev pub total : Seat → List ℕ → List Order → List (ℕ × ℕ)
total seat ids os = seat.owed ++ tagged (open_of seat.now seat.closed ++ ids) os

abbrev pub Low : ℕ → List (ℕ × ℕ) → Type 0
Low m [] = ⊤
Low m (o ∷ os) = (o.0 < m) × Low m os

pub low_append : (m : ℕ) (xs ys : List (ℕ × ℕ)) → Low m xs → Low m ys → Low m (xs ++ ys)
low_append m [] ys a b = b
low_append m (x ∷ xs) ys a b = (a.0, low_append m xs ys a.1 b)

pub record Below (m : ℕ) (s : Seat) : Type 0 where
  pub owed : Low m s.owed
  pub now : (e : ℕ) → s.now ≡ Some e → e < m

open_is : (now : Option ℕ) (closed : Bool) (n : ℕ) → now ≡ Some n → closed ≡ false → open_of now closed ≡ n ∷ []
open_is now closed n is unshut = ap (λ (o : Option ℕ). open_of o closed) is ∙ ap (λ (b : Bool). open_of (Some n) b) unshut

pub shut_is : (now : Option ℕ) (n : ℕ) → now ≡ Some n → open_of now true ≡ []
shut_is now n is = ap (λ (o : Option ℕ). open_of o true) is

module _ (i : ℕ) where
  pub record Owes (g h : Given) : Type 0 where
    pub more : List Order
    pub orders : only (lane.Editor i) h.orders ≡ only (lane.Editor i) g.orders ++ more
    pub totals : (ids : List ℕ) (os : List Order) → total (seat_at i g.seats.editors) ids (more ++ os) ≡ total (seat_at i h.seats.editors) ids os
    pub below : (m : ℕ) → Below m (seat_at i g.seats.editors) → Below m (seat_at i h.seats.editors)

  owes_same : (g h : Given) → only (lane.Editor i) h.orders ≡ only (lane.Editor i) g.orders → seat_at i h.seats.editors ≡ seat_at i g.seats.editors → Owes g h
  owes_same g h same seat = record {
    more = [];
    orders = same ∙ sym (append-nil (only (lane.Editor i) g.orders));
    totals = λ ids os. ap (λ s. total s ids os) (sym seat);
    below = λ m b. subst (λ s. Below m s) (sym seat) b;
  }

  owes_then : (g mid h : Given) → Owes g mid → Owes mid h → Owes g h
  owes_then g mid h q r = record {
    more = q.more ++ r.more;
    orders = r.orders ∙ ap (λ l. l ++ r.more) q.orders ∙ append_assoc (only (lane.Editor i) g.orders) q.more r.more;
    totals = λ ids os. ap (λ l. total (seat_at i g.seats.editors) ids l) (append_assoc q.more r.more os) ∙ q.totals ids (r.more ++ os) ∙ r.totals ids os;
    below = λ m b. r.below m (q.below m b);
  }

  module _ (n : ℕ) (o : Order) (f : Seat → Seat)
      (fits : (s : Seat) (ids : List ℕ) (os : List Order) → s.now ≡ Some n → s.closed ≡ false → total s ids (o ∷ os) ≡ total (f s) ids os)
      (stays : (s : Seat) (m : ℕ) → s.now ≡ Some n → Below m s → Below m (f s)) where
    to_owes : (g : Given) (p : Option ℕ) → place_of n g.seats.editors ≡ p → Owes g (to_editor p o f g)
    to_owes g None place = owes_same g g refl refl
    to_owes g (Some j) place =
        let there : now_at j g.seats ≡ Some n = place_some g.seats.editors n j place in
        let within : j < length g.seats.editors = within_now g.seats.editors j n there in
        let was : Seat = seat_at j g.seats.editors in
        let h : Given = give (lane.Editor j) o f g in
        (elim ((seat_at j g.seats.editors).closed) as (λ b. closed_at j g.seats ≡ b → Owes g (if b then g else give (lane.Editor j) o f g)) [
          | true ↦ λ shut. owes_same g g refl refl
          | false ↦ λ unshut. ⊎_elim
              (λ (t : ((i == j) ≡ true) × (i ≡ j)).
              let set : seat_at i h.seats.editors ≡ f was = subst (λ (k : ℕ). seat_at k (slice_set g.seats.editors j (f was)) ≡ f was) (sym t.1) (once_here g.seats.editors j f within) in
              let here : seat_at i g.seats.editors ≡ was = ap (λ (k : ℕ). seat_at k g.seats.editors) t.1 in
              record {
                more = o ∷ [];
                orders = add_own i g j o t.0;
                totals = λ ids os. ap (λ s. total s ids (o ∷ os)) here ∙ fits was ids os there unshut ∙ ap (λ s. total s ids os) (sym set);
                below = λ m b. subst (λ s. Below m s) (sym set) (stays was m there (subst (λ s. Below m s) here b));
              })
              (λ (t : ((i == j) ≡ false) × (i ≢ j)).
              owes_same g h (add_other i g (lane.Editor j) o t.0) (⊎_elim (λ s. absurd (t.1 s.0)) (λ s. s) (once_either g.seats.editors j i f)))
              (eqb_tells i j)
        ]) refl

  to_server_owes : (p : Option ℕ) (o : Order) (f : Seat → Seat) (g : Given) → Owes g (to_server p o f g)
  to_server_owes None o f g = owes_same g g refl refl
  to_server_owes (Some j) o f g = elim ((seat_at j g.seats.servers).closed) as (λ b. Owes g (if b then g else give (lane.Server j) o f g)) [
    | true ↦ owes_same g g refl refl
    | false ↦ owes_same g (give (lane.Server j) o f g) (add_other i g (lane.Server j) o refl) refl
  ]

  fits_body : (n : ℕ) (body : List ℕ) (s : Seat) (ids : List ℕ) (os : List Order) → s.now ≡ Some n → s.closed ≡ false → total s ids (order.Body body ∷ os) ≡ total (body_seat n body s) ids os
  fits_body n body s ids os is unshut =
      let o = open_is s.now s.closed n is unshut in
      ap (λ l. s.owed ++ tagged (l ++ ids) (order.Body body ∷ os)) o ∙ sym (append_assoc s.owed ((n, length body) ∷ []) (tagged (n ∷ ids) os)) ∙ ap (λ l. (s.owed ++ (n, length body) ∷ []) ++ tagged (l ++ ids) os) (sym o)

  fits_close : (n : ℕ) (s : Seat) (ids : List ℕ) (os : List Order) → s.now ≡ Some n → s.closed ≡ false → total s ids (order.Close ∷ os) ≡ total (close_seat s) ids os
  fits_close n s ids os is unshut =
      ap (λ l. s.owed ++ tagged (l ++ ids) (order.Close ∷ os)) (open_is s.now s.closed n is unshut) ∙ ap (λ l. s.owed ++ tagged (l ++ ids) os) (sym (shut_is s.now n is))

  out_owes : (o : Out) (g : Given) → Owes g (give_out g o)
  out_owes (out.ToEditor n body) g =
      to_owes n (order.Body body) (body_seat n body) (fits_body n body) (λ s m is b. record { owed = low_append m s.owed ((n, length body) ∷ []) b.owed (b.now n is, tt); now = b.now }) g (place_of n g.seats.editors) refl
  out_owes (out.CloseEditor n) g = to_owes n order.Close close_seat (fits_close n) (λ s m is b. record { owed = b.owed; now = b.now }) g (place_of n g.seats.editors) refl
  out_owes (out.ToServer s body) g = to_server_owes (place_of s g.seats.servers) (order.Body body) (body_seat s body) g
  out_owes (out.EndServer s) g =
      let h : Given = record g { seats = drop_waiting s g.seats } in
      let r = to_server_owes (place_of s g.seats.servers) order.Close close_seat h in record { more = r.more; orders = r.orders; totals = r.totals; below = r.below }
  out_owes (out.Spawn s group) g = owes_same g (give_out g (out.Spawn s group)) refl refl

  outs_owe : (outs : List Out) (g : Given) → Owes g (fold give_out g outs)
  outs_owe [] g = owes_same g g refl refl
  outs_owe (o ∷ outs) g = owes_then g (give_out g o) (fold give_out (give_out g o) outs) (out_owes o g) (outs_owe outs (give_out g o))

  -- all that one entry gives
  pub all_owe : (outs : List Out) (g : Given) → Owes g (begin_all (fold give_out g outs))
  all_owe outs g =
      let h : Given = fold give_out g outs in
      let b = begun i h.seats.waiting h in
      owes_then g h (begin_all h) (outs_owe outs g) (owes_same h (begin_all h) b.orders (ap (λ es. seat_at i es) b.editors))
