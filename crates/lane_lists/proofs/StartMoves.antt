-- What a deed does to the lanes of the servers: which start is up, and whether late items are still to come.
use Rattle.std.proofs.Common.{◌≡◌, ◌≢◌, ℕ, zero, suc, ◌<◌, List, [], ◌∷◌, Bool, true, false, if◌then◌else◌, fold, length, refl, sym, ap, ◌∙◌, subst, ⊎_elim, Option, slice_set}
use Rattle.std.specs.declared.option.Option.TheVariants.{Some, None}
use Rattle.std.proofs.lemmas.List.{length-set}
use Rattle.std.proofs.lemmas.List.Quantifiers.{position-Some}
use Rattle.mux_history.specs.declared.entry.Entry.{Entry}
use Rattle.mux_history.specs.declared.out.Out.{Out}
use Rattle.mux_history.specs.declared.out.Out.TheVariants as out
use Rattle.mux_history.specs.declared.cause.Cause.{Cause}
use Rattle.mux_history.specs.declared.cause.Cause.TheVariants as cause
use Rattle.mux_history.specs.declared.cause.Why.{Why}
use Rattle.mux_history.specs.declared.cause.Why.TheVariants as why
use Rattle.lane_lists.specs.declared.item.LaneName.{LaneName}
use Rattle.lane_lists.specs.declared.item.LaneName.TheVariants as lane
use Rattle.lane_lists.specs.declared.item.Posted.{Posted}
use Rattle.lane_lists.specs.declared.item.Posted.TheVariants as posted
use Rattle.lane_lists.specs.declared.item.Side.{Side}
use Rattle.lane_lists.specs.declared.item.Side.TheVariants as side
use Rattle.lane_lists.specs.declared.item.Order.{Order}
use Rattle.lane_lists.specs.declared.item.Order.TheVariants as order
use Rattle.lane_lists.specs.declared.item.Item.{Item}
use Rattle.lane_lists.specs.declared.item.Item.TheVariants as item
use Rattle.lane_lists.specs.declared.item.Meaning.TheVariants as meant
use Rattle.lane_lists.specs.Seats.{Seat, Seats, free_seat, seat_at, late, server_posted, server_side, gone_if, meaning, is_now, is_none, seat_item, seat_cause, done_at, on_seat, seat_of, Given, body_seat, close_seat, give, to_editor, to_server, place_of, drop_waiting, give_out, begin_seat, free_place, begin_at, begin_from}
use Rattle.lane_lists.specs.Deeds.{with_done, begin_all, given_entry, behind, Meant}
use Rattle.lane_lists.proofs.Moves.{twice_either, twice_here, once_either, once_here, means, silent, stray, small_one, did, caused}
use Rattle.lane_lists.proofs.ByOrders.{is_now_is}

-- the start that is up in a lane
abbrev pub held : Option ℕ → Bool → Option ℕ
held None up = None
held (Some s) true = Some s
held (Some s) false = None

abbrev pub held_seat : Seat → Option ℕ
held_seat seat = held seat.now seat.up

abbrev pub held_at : ℕ → Seats → Option ℕ
held_at k seats = held_seat (seat_at k seats.servers)

abbrev pub late_at : ℕ → Seats → Bool
late_at k seats = (seat_at k seats.servers).tail

abbrev pub start_at : ℕ → Seats → Option ℕ
start_at k seats = (seat_at k seats.servers).now

pub held_none : (up : Bool) → held None up ≡ None
held_none up = refl

pub held_now : (now : Option ℕ) (up : Bool) (s : ℕ) → held now up ≡ Some s → (now ≡ Some s) × (up ≡ true)
held_now None up s e = absurd cc
held_now (Some n) true s e = (e, refl)
held_now (Some n) false s e = absurd cc

pub free_is : (l : List Seat) (j : ℕ) → free_place l ≡ Some j → (seat_at j l).now ≡ None
free_is l j e = none_is (seat_at j l).now (position-Some (λ (seat : Seat). is_none seat.now) l j free_seat e).1 where
  none_is : (now : Option ℕ) → is_none now ≡ true → now ≡ None
  none_is None e = refl
  none_is (Some n) e = absurd cc

-- what all that an entry gives leaves as it was, if one order does
module _ (R : List Seat → List Seat → Type 0) (self : (a : List Seat) → R a a) (next : (a b c : List Seat) → R a b → R b c → R a c)
    (body : (n : ℕ) (b : List ℕ) (j : ℕ) (l : List Seat) → R l (slice_set l j (body_seat n b (seat_at j l)))) (close : (j : ℕ) (l : List Seat) → R l (slice_set l j (close_seat (seat_at j l)))) where
  to_editor_moves : (p : Option ℕ) (o : Order) (f : Seat → Seat) (g : Given) → R g.seats.servers (to_editor p o f g).seats.servers
  to_editor_moves None o f g = self g.seats.servers
  to_editor_moves (Some i) o f g = elim ((seat_at i g.seats.editors).closed) as (λ b. R g.seats.servers (if b then g else give (lane.Editor i) o f g).seats.servers) [
    | true ↦ self g.seats.servers
    | false ↦ self g.seats.servers
  ]

  to_server_moves : (p : Option ℕ) (o : Order) (f : Seat → Seat) (g : Given) → ((j : ℕ) (l : List Seat) → R l (slice_set l j (f (seat_at j l)))) → R g.seats.servers (to_server p o f g).seats.servers
  to_server_moves None o f g m = self g.seats.servers
  to_server_moves (Some i) o f g m = elim ((seat_at i g.seats.servers).closed) as (λ b. R g.seats.servers (if b then g else give (lane.Server i) o f g).seats.servers) [
    | true ↦ self g.seats.servers
    | false ↦ m i g.seats.servers
  ]

  pub out_moves : (o : Out) (g : Given) → R g.seats.servers (give_out g o).seats.servers
  out_moves (out.ToEditor e b) g = to_editor_moves (place_of e g.seats.editors) (order.Body b) (body_seat e b) g
  out_moves (out.CloseEditor e) g = to_editor_moves (place_of e g.seats.editors) order.Close close_seat g
  out_moves (out.ToServer s b) g = to_server_moves (place_of s g.seats.servers) (order.Body b) (body_seat s b) g (λ j l. body s b j l)
  out_moves (out.EndServer s) g = to_server_moves (place_of s g.seats.servers) order.Close close_seat (record g { seats = drop_waiting s g.seats }) close
  out_moves (out.Spawn s group) g = self g.seats.servers

  pub outs_move : (outs : List Out) (g : Given) → R g.seats.servers (fold give_out g outs).seats.servers
  outs_move [] g = self g.seats.servers
  outs_move (o ∷ outs) g = next g.seats.servers (give_out g o).seats.servers (fold give_out (give_out g o) outs).seats.servers (out_moves o g) (outs_move outs (give_out g o))

  module _ (begin : (s j : ℕ) (l : List Seat) → free_place l ≡ Some j → R l (slice_set l j (begin_seat s (seat_at j l)))) where
    begin_at_moves : (p : Option ℕ) (s : ℕ) (rest : List ℕ) (g : Given) (more : Given → Given) → free_place g.seats.servers ≡ p → ((h : Given) → R h.seats.servers (more h).seats.servers) → R g.seats.servers (begin_at p s rest g more).seats.servers
    begin_at_moves None s rest g more e f = self g.seats.servers
    begin_at_moves (Some j) s rest g more e f =
        let h : Given = give (lane.Server j) (order.Begin s) (begin_seat s) g in
        next g.seats.servers h.seats.servers (more h).seats.servers (begin s j g.seats.servers e) (f h)

    pub begin_moves : (starts : List ℕ) (g : Given) → R g.seats.servers (begin_from starts g).seats.servers
    begin_moves [] g = self g.seats.servers
    begin_moves (s ∷ rest) g = begin_at_moves (free_place g.seats.servers) s rest g (λ h. begin_from rest h) refl (λ h. begin_moves rest h)

    done_moves : (ds : List Order) (l : LaneName) (seats : Seats) → R seats.servers (with_done ds l seats).seats.servers
    done_moves [] l seats = self seats.servers
    done_moves (o ∷ os) l seats = self seats.servers

    pub given_moves : (seats : Seats) (l : LaneName) (x : Item) (c : Cause) (outs : List Out) → R (caused seats l x c).servers (given_entry seats l x (Some (record { cause = c; outs = outs }))).seats.servers
    given_moves seats l x c outs =
        let a = caused seats l x c in
        let g : Given = with_done (done_at (seat_of l seats) c) l a in
        let h : Given = fold give_out g outs in
        next a.servers h.seats.servers (begin_all h).seats.servers (next a.servers g.seats.servers h.seats.servers (done_moves (done_at (seat_of l seats) c) l a) (outs_move outs g)) (begin_moves h.seats.waiting h)

-- the same starts that are up, and the same lanes with late items
pub record Kept (a b : List Seat) : Type 0 where
  pub len : length b ≡ length a
  pub held : (k : ℕ) → held_seat (seat_at k b) ≡ held_seat (seat_at k a)
  pub tail : (k : ℕ) → (seat_at k b).tail ≡ (seat_at k a).tail

kept_self : (a : List Seat) → Kept a a
kept_self a = record { len = refl; held = λ k. refl; tail = λ k. refl }

kept_then : (a b c : List Seat) → Kept a b → Kept b c → Kept a c
kept_then a b c f g = record { len = g.len ∙ f.len; held = λ k. g.held k ∙ f.held k; tail = λ k. g.tail k ∙ f.tail k }

-- a write of one seat that leaves a part of it
pub set_part : {X : Type 0} (f : Seat → X) (v : Seat) (l : List Seat) (j k : ℕ) → f v ≡ f (seat_at j l) → f (seat_at k (slice_set l j v)) ≡ f (seat_at k l)
set_part f v [] j k same = refl
set_part f v (x ∷ xs) zero zero same = same
set_part f v (x ∷ xs) zero (suc k) same = refl
set_part f v (x ∷ xs) (suc j) zero same = refl
set_part f v (x ∷ xs) (suc j) (suc k) same = set_part f v xs j k same

kept_set : (l : List Seat) (j : ℕ) (v : Seat) → held_seat v ≡ held_seat (seat_at j l) → v.tail ≡ (seat_at j l).tail → Kept l (slice_set l j v)
kept_set l j v h t = record { len = length-set l j v; held = λ k. set_part held_seat v l j k h; tail = λ k. set_part (λ s. s.tail) v l j k t }

pub given_kept : (seats : Seats) (l : LaneName) (x : Item) (c : Cause) (outs : List Out) → Kept (caused seats l x c).servers (given_entry seats l x (Some (record { cause = c; outs = outs }))).seats.servers
given_kept seats l x c outs =
    given_moves Kept kept_self kept_then (λ n b j l. kept_set l j (body_seat n b (seat_at j l)) refl refl) (λ j l. kept_set l j (close_seat (seat_at j l)) refl refl)
    (λ s j l free. kept_set l j (begin_seat s (seat_at j l)) (sym (ap (λ (n : Option ℕ). held n (seat_at j l).up) (free_is l j free))) refl)
    seats l x c outs

-- each way that a deed of a servers' lane goes
pub record StartWays (P : Item → Option Entry → Option ℕ → Bool → Bool → Type 0) : Type 0 where
  pub up : (s : ℕ) (outs : List Out) → P (item.Posted posted.Up) (Some (record { cause = cause.Started s; outs = outs })) (Some s) false false
  pub failed : (s : ℕ) (outs : List Out) → P (item.Posted posted.NoStart) (Some (record { cause = cause.StartFailed s; outs = outs })) (Some s) false false
  pub word : (s : ℕ) (tail : Bool) (body : List ℕ) (outs : List Out) → P (item.Posted (posted.Body body)) (Some (record { cause = cause.FromServer s body; outs = outs })) (Some s) true tail
  pub over : (s : ℕ) (tail : Bool) (w : Why) (outs : List Out) → w ≢ why.WriteFault → P (item.Posted (posted.Ended w)) (Some (record { cause = cause.ServerGone s; outs = outs })) (Some s) true tail
  pub broke : (s : ℕ) (tail : Bool) (outs : List Out) → P (item.Side side.Broke) (Some (record { cause = cause.ServerGone s; outs = outs })) (Some s) true tail
  pub idle : (s : Side) (now : Option ℕ) (up tail : Bool) → P (item.Side s) None now up tail
  pub late : (body : List ℕ) (now : Option ℕ) (up : Bool) → held now up ≡ None → P (item.Posted (posted.Body body)) None now up true
  pub late_end : (w : Why) (now : Option ℕ) (up : Bool) → held now up ≡ None → P (item.Posted (posted.Ended w)) None now up true

module _ (P : Item → Option Entry → Option ℕ → Bool → Bool → Type 0) (ways : StartWays P) where
  late_body : (body : List ℕ) (now : Option ℕ) (up tail : Bool) (entry : Option Entry) → held now up ≡ None → Meant (late tail) entry → P (item.Posted (posted.Body body)) entry now up tail
  late_body body now up true entry h m = silent (λ e. P (item.Posted (posted.Body body)) e now up true) entry (ways.late body now up h) m
  late_body body now up false entry h m = stray (λ e. P (item.Posted (posted.Body body)) e now up false) entry m

  late_over : (w : Why) (now : Option ℕ) (up tail : Bool) (entry : Option Entry) → held now up ≡ None → Meant (late tail) entry → P (item.Posted (posted.Ended w)) entry now up tail
  late_over w now up true entry h m = silent (λ e. P (item.Posted (posted.Ended w)) e now up true) entry (ways.late_end w now up h) m
  late_over w now up false entry h m = stray (λ e. P (item.Posted (posted.Ended w)) e now up false) entry m

  abbrev Q : Posted → Option ℕ → Bool → Bool → Option Entry → Type 0
  Q x now up tail entry = P (item.Posted x) entry now up tail

  by_posted : (now : Option ℕ) (up tail : Bool) (x : Posted) (entry : Option Entry) → Meant (server_posted now up tail x) entry → P (item.Posted x) entry now up tail
  by_posted (Some s) false true posted.Up entry m = stray (Q posted.Up (Some s) false true) entry m
  by_posted (Some s) false false posted.Up entry m = means (cause.Started s) (Q posted.Up (Some s) false false) entry (ways.up s) m
  by_posted (Some s) true tail posted.Up entry m = stray (Q posted.Up (Some s) true tail) entry m
  by_posted None up tail posted.Up entry m = stray (Q posted.Up None up tail) entry m
  by_posted (Some s) false true posted.NoStart entry m = stray (Q posted.NoStart (Some s) false true) entry m
  by_posted (Some s) false false posted.NoStart entry m = means (cause.StartFailed s) (Q posted.NoStart (Some s) false false) entry (ways.failed s) m
  by_posted (Some s) true tail posted.NoStart entry m = stray (Q posted.NoStart (Some s) true tail) entry m
  by_posted None up tail posted.NoStart entry m = stray (Q posted.NoStart None up tail) entry m
  by_posted (Some s) true tail (posted.Body body) entry m = small_one body (cause.FromServer s body) (Q (posted.Body body) (Some s) true tail) entry (ways.word s tail body) m
  by_posted (Some s) false tail (posted.Body body) entry m = late_body body (Some s) false tail entry refl m
  by_posted None up tail (posted.Body body) entry m = late_body body None up tail entry refl m
  by_posted (Some s) true tail (posted.Ended why.WriteFault) entry m = stray (Q (posted.Ended why.WriteFault) (Some s) true tail) entry m
  by_posted (Some s) true tail (posted.Ended why.End) entry m = means (cause.ServerGone s) (Q (posted.Ended why.End) (Some s) true tail) entry (λ outs. ways.over s tail why.End outs (λ e. absurd cc)) m
  by_posted (Some s) true tail (posted.Ended why.ReadFault) entry m = means (cause.ServerGone s) (Q (posted.Ended why.ReadFault) (Some s) true tail) entry (λ outs. ways.over s tail why.ReadFault outs (λ e. absurd cc)) m
  by_posted (Some s) true tail (posted.Ended why.BadFrame) entry m = means (cause.ServerGone s) (Q (posted.Ended why.BadFrame) (Some s) true tail) entry (λ outs. ways.over s tail why.BadFrame outs (λ e. absurd cc)) m
  by_posted (Some s) false tail (posted.Ended w) entry m = late_over w (Some s) false tail entry refl m
  by_posted None up tail (posted.Ended w) entry m = late_over w None up tail entry refl m
  by_posted None up tail posted.Link entry m = stray (Q posted.Link None up tail) entry m
  by_posted (Some s) true tail posted.Link entry m = stray (Q posted.Link (Some s) true tail) entry m
  by_posted (Some s) false tail posted.Link entry m = stray (Q posted.Link (Some s) false tail) entry m
  by_posted None up tail (posted.Tick t) entry m = stray (Q (posted.Tick t) None up tail) entry m
  by_posted (Some s) true tail (posted.Tick t) entry m = stray (Q (posted.Tick t) (Some s) true tail) entry m
  by_posted (Some s) false tail (posted.Tick t) entry m = stray (Q (posted.Tick t) (Some s) false tail) entry m

  gone_or : (now : Option ℕ) (up tail : Bool) (n : ℕ) (entry : Option Entry) → now ≡ Some n → Meant (gone_if up n) entry → P (item.Side side.Broke) entry now up tail
  gone_or now true tail n entry is m =
      means (cause.ServerGone n) (λ e. P (item.Side side.Broke) e now true tail) entry (λ outs. subst (λ (o : Option ℕ). P (item.Side side.Broke) (Some (record { cause = cause.ServerGone n; outs = outs })) o true tail) (sym is) (ways.broke n tail outs)) m
  gone_or now false tail n entry is m = stray (λ e. P (item.Side side.Broke) e now false tail) entry m

  by_side : (now : Option ℕ) (up tail : Bool) (owed : List (ℕ × ℕ)) (s : Side) (entry : Option Entry) → Meant (server_side now up owed s) entry → P (item.Side s) entry now up tail
  by_side now up tail [] s entry m = stray (λ e. P (item.Side s) e now up tail) entry m
  by_side now up tail (o ∷ owed) side.Wrote entry m = silent (λ e. P (item.Side side.Wrote) e now up tail) entry (ways.idle side.Wrote now up tail) m
  by_side now up tail (o ∷ owed) side.Broke entry m = (elim (is_now now o.0) as (λ b. is_now now o.0 ≡ b → Meant (if b then gone_if up o.0 else meant.Silent) entry → P (item.Side side.Broke) entry now up tail) [
    | true ↦ λ is m. gone_or now up tail o.0 entry (is_now_is now o.0 is) m
    | false ↦ λ is m. silent (λ e. P (item.Side side.Broke) e now up tail) entry (ways.idle side.Broke now up tail) m
  ]) refl m

  pub by_try : (seats : Seats) (j : ℕ) (x : Item) (entry : Option Entry) → Meant (meaning seats (lane.Server j) x) entry → P x entry (start_at j seats) (seat_at j seats.servers).up (late_at j seats)
  by_try seats j (item.Posted x) entry m = by_posted (start_at j seats) (seat_at j seats.servers).up (late_at j seats) x entry m
  by_try seats j (item.Side s) entry m = by_side (start_at j seats) (seat_at j seats.servers).up (late_at j seats) (seat_at j seats.servers).owed s entry m

-- a deed of a servers' lane
pub record StartActed (seats after : Seats) (j : ℕ) (seat : Seat) : Type 0 where
  pub len : length after.servers ≡ length seats.servers
  pub here : j < length seats.servers → (held_at j after ≡ held_seat seat) × (late_at j after ≡ seat.tail)
  pub other : (k : ℕ) → k ≢ j → (held_at k after ≡ held_at k seats) × (late_at k after ≡ late_at k seats)

pub start_acted : (seats : Seats) (j : ℕ) (x : Item) (c : Cause) (outs : List Out)
    → StartActed seats (behind seats (did (lane.Server j) x (Some (record { cause = c; outs = outs })))) j (seat_cause (seat_item (seat_at j seats.servers) x) x c)
start_acted seats j x c outs =
    let l = given_kept (on_seat (lane.Server j) (λ s. seat_item s x) seats) (lane.Server j) x c outs in
    let f : Seat → Seat = λ s. seat_item s x in
    let g : Seat → Seat = λ s. seat_cause s x c in record {
      len = l.len ∙ length-set (slice_set seats.servers j (f (seat_at j seats.servers))) j (g (seat_at j (slice_set seats.servers j (f (seat_at j seats.servers))))) ∙ length-set seats.servers j (f (seat_at j seats.servers));
      here = λ h. (l.held j ∙ ap held_seat (twice_here seats.servers j f g h), l.tail j ∙ ap (λ (s : Seat). s.tail) (twice_here seats.servers j f g h));
      other = λ k apart. ⊎_elim (λ t. absurd (apart t.0)) (λ t. (l.held k ∙ ap held_seat t, l.tail k ∙ ap (λ (s : Seat). s.tail) t)) (twice_either seats.servers j k f g);
    }

pub start_acted_none : (seats : Seats) (j : ℕ) (x : Item) → StartActed seats (behind seats (did (lane.Server j) x None)) j (seat_item (seat_at j seats.servers) x)
start_acted_none seats j x =
    let f : Seat → Seat = λ s. seat_item s x in record {
      len = length-set seats.servers j (f (seat_at j seats.servers));
      here = λ h. (ap held_seat (once_here seats.servers j f h), ap (λ (s : Seat). s.tail) (once_here seats.servers j f h));
      other = λ k apart. ⊎_elim (λ t. absurd (apart t.0)) (λ t. (ap held_seat t, ap (λ (s : Seat). s.tail) t)) (once_either seats.servers j k f);
    }
