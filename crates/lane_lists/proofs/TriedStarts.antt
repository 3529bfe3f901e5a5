-- The starts that began in a lane are those that were tried in it, and at most one more.
use Rattle.std.proofs.Common.{◌≡◌, ◌≢◌, ℕ, ◌+◌, ◌==◌, ◌<◌, ◌≤◌, List, [], ◌∷◌, ◌++◌, Bool, true, false, if◌then◌else◌, fold, length, refl, sym, ap, ◌∙◌, subst, ◌⊎◌, inl, inr, ⊎_elim, arith, Option, append_assoc, append-nil}
use Rattle.std.specs.Prelude.{⊤}
use Rattle.std.specs.declared.option.Option.TheVariants.{Some, None}
use Rattle.std.proofs.lemmas.Bool.Decides.{eqb_tells}
use Rattle.mux_history.specs.declared.entry.Entry.{Entry}
use Rattle.mux_history.specs.declared.out.Out.{Out}
use Rattle.mux_history.specs.declared.cause.Cause.{Cause}
use Rattle.mux_history.specs.declared.cause.Cause.TheVariants as cause
use Rattle.mux_history.specs.Cores.{spawns, spawns_of_outs}
use Rattle.lane_lists.specs.declared.item.LaneName.{LaneName}
use Rattle.lane_lists.specs.declared.item.LaneName.TheVariants as lane
use Rattle.lane_lists.specs.declared.item.Posted.TheVariants as posted
use Rattle.lane_lists.specs.declared.item.Side.TheVariants as side
use Rattle.lane_lists.specs.declared.item.Item.{Item}
use Rattle.lane_lists.specs.declared.item.Item.TheVariants as item
use Rattle.lane_lists.specs.Seats.{Seat, Seats, seat_at, meaning, seat_cause, seat_item, seat_of, done_at}
use Rattle.lane_lists.specs.Deeds.{Deed, start, behind, gather_from, same_lane, begin_all, entries_in, entries_by, FairFrom, Meant, entries}
use Rattle.lane_lists.specs.Starts.{next_seats, Matched}
use Rattle.lane_lists.specs.StartHistory.{tried_of, tried_by}
use Rattle.lane_lists.specs.StartOrders.{began_in, began_from, began, StartsTried}
use Rattle.lane_lists.proofs.Moves.{caused, did}
use Rattle.lane_lists.proofs.BySession.{all_free, many_free}
use Rattle.lane_lists.proofs.Tally.{total, item_keeps, deed_total, seated_one, spawns_append, none_seated}
use Rattle.lane_lists.proofs.StartLanes.{one_go, zip_at, free_faces}
use Rattle.lane_lists.proofs.StartMoves.{held, held_seat, held_at, start_at, given_kept, StartWays, by_try}
use Rattle.lane_lists.proofs.ByStart.{item_held, server_len}
use Rattle.lane_lists.proofs.ToStarts.{NoneBegun, OneBegun, begun}
use Rattle.lane_lists.proofs.OrderStarts.{marked, first, told, told_lined, told_now, within1, first_other, first_own, began_same, began_new, done_seats, none_seat}

-- the start of a lane that is still to come up or fail, by whose the lane is and which start is up
abbrev pub pending : Option ℕ → Option ℕ → List ℕ
pending None up = []
pending (Some s) None = s ∷ []
pending (Some s) (Some n) = []

abbrev pub pending_at : ℕ → Seats → List ℕ
pending_at i seats = pending (start_at i seats) (held_at i seats)

combine : (p q b a tried : List ℕ) → p ≡ tried ++ q → q ++ b ≡ a → p ++ b ≡ tried ++ a
combine p q b a tried e f = ap (λ l. l ++ b) e ∙ append_assoc tried q b ∙ ap (λ l. tried ++ l) f

module _ (seats t : Seats) (i : ℕ) (within : i < length seats.servers) (matched : Matched seats t) (history : List Entry) where
  abbrev after : LaneName → Item → Entry → Seats
  after l x en = behind seats (did l x (Some en))

  abbrev Once : List Out → Type 0
  Once outs = (s : ℕ) → total s seats + (spawns_of_outs s outs + spawns s history) ≤ 1

  -- what begins is pending
  begin_pends : (l : LaneName) (x : Item) (c : Cause) (outs : List Out) → Meant (meaning seats l x) (Some (record { cause = c; outs = outs })) → Once outs
      → (start_at i (first seats l x c).seats ≡ start_at i seats) ⊎ (start_at i (first seats l x c).seats ≡ None)
      → pending_at i (first seats l x c).seats ++ began_in (start_at i seats) (start_at i (after l x (record { cause = c; outs = outs }))) ≡ pending_at i (after l x (record { cause = c; outs = outs }))
  begin_pends l x c outs m once before =
      let en : Entry = record { cause = c; outs = outs } in
      let g0 = first seats l x c in
      let g1 = told seats l x c outs in
      let next = after l x en in
      let up : held_at i next ≡ held_at i g0.seats =
      (given_kept (marked seats l x) l x c outs).held i ∙ ap (λ (s : Seats). held_at i s) (sym (done_seats (done_at (seat_of l (marked seats l x)) c) l (caused (marked seats l x) l x c))) in
      let same : start_at i g1.seats ≡ start_at i g0.seats = told_now seats t i within matched history [] [] l x c outs m once in
      ⊎_elim
      (λ (b : NoneBegun i g1 (begin_all g1)).
      let now : start_at i next ≡ start_at i g0.seats = ap (λ (s : Seat). s.now) b.seat ∙ same in
      let none : began_in (start_at i seats) (start_at i next) ≡ [] = ⊎_elim
      (λ (e : start_at i g0.seats ≡ start_at i seats). ap (began_in (start_at i seats)) (now ∙ e) ∙ began_same (start_at i seats))
      (λ (e : start_at i g0.seats ≡ None). ap (began_in (start_at i seats)) (now ∙ e)) before in
      ap (λ l. pending_at i g0.seats ++ l) none ∙ append-nil (pending_at i g0.seats) ∙ ap (λ o. pending o (held_at i g0.seats)) (sym now) ∙ ap (pending (start_at i next)) (sym up))
      (λ (b : OneBegun i g1.seats.waiting g1 (begin_all g1)).
      let s = b.start in
      let now : start_at i next ≡ Some s = ap (λ (s : Seat). s.now) b.seat in
      let free : start_at i g0.seats ≡ None = sym same ∙ b.free in
      let new : began_in (start_at i seats) (start_at i next) ≡ s ∷ [] = ap (began_in (start_at i seats)) now
      ∙ began_new (start_at i seats) s (λ is. let q = seated_one s seats.servers i is in let h = once s in let w = b.waits in let d = told_lined s seats l x c outs in absurd (omega arith)) in
      let down : held_at i next ≡ None = up ∙ ap (λ (o : Option ℕ). held o (seat_at i g0.seats.servers).up) free in
      ap (λ o. pending o (held_at i g0.seats) ++ began_in (start_at i seats) (start_at i next)) free ∙ new ∙ ap (pending (Some s)) (sym down) ∙ ap (λ o. pending o (held_at i next)) (sym now))
      (begun i g1.seats.waiting g1 (within1 seats t i within matched history [] [] l x c outs m once))

  abbrev Pends : LaneName → Item → Entry → List ℕ → Type 0
  Pends l x en tried = pending_at i seats ++ began_in (start_at i seats) (start_at i (after l x en)) ≡ tried ++ pending_at i (after l x en)

  -- a deed of another lane
  elsewhere : (l : LaneName) (x : Item) (en : Entry) → same_lane (lane.Server i) l ≡ false → Meant (meaning seats l x) (Some en) → Once en.outs → Pends l x en []
  elsewhere l x en f m once =
      let seat = first_other seats t i within matched history [] [] l x en.cause en.outs m once f in
      let g0 = first seats l x en.cause in
      combine (pending_at i seats) (pending_at i g0.seats) (began_in (start_at i seats) (start_at i (after l x en))) (pending_at i (after l x en)) [] (ap (λ (s : Seat). pending s.now (held_seat s)) (sym seat))
      (begin_pends l x en.cause en.outs m once (inl (ap (λ (s : Seat). s.now) seat)))

  -- a deed of this lane
  abbrev mine : LaneName
  mine = lane.Server i

  abbrev OwnPends : Item → Option Entry → Option ℕ → Bool → Type 0
  OwnPends x None now up = ⊤
  OwnPends x (Some en) now up = now ≡ start_at i seats → up ≡ (seat_at i seats.servers).up → Meant (meaning seats mine x) (Some en) → Once en.outs → Pends mine x en (tried_of (Some en))

  by_seat : (x : Item) (c : Cause) (outs : List Out) (now : Option ℕ) (up : Bool) (tried : List ℕ) → now ≡ start_at i seats → up ≡ (seat_at i seats.servers).up → Meant (meaning seats mine x) (Some (record { cause = c; outs = outs })) → Once outs
      → (seat : Seat) → seat_cause (seat_item (seat_at i seats.servers) x) x c ≡ seat → (seat.now ≡ start_at i seats) ⊎ (seat.now ≡ None) → pending now (held now up) ≡ tried ++ pending seat.now (held_seat seat) → Pends mine x (record { cause = c; outs = outs }) tried
  by_seat x c outs now up tried n u m once seat is kind claim =
      let g0 = first seats mine x c in
      let en : Entry = record { cause = c; outs = outs } in
      let there : seat_at i g0.seats.servers ≡ seat = first_own seats t i within matched history [] [] x c ∙ is in
      let was : pending_at i seats ≡ pending now (held now up) = ap (λ (o : Option ℕ). pending o (held o (seat_at i seats.servers).up)) (sym n) ∙ ap (λ (b : Bool). pending now (held now b)) (sym u) in
      combine (pending_at i seats) (pending_at i g0.seats) (began_in (start_at i seats) (start_at i (after mine x en))) (pending_at i (after mine x en)) tried
      (was ∙ claim ∙ ap (λ (s : Seat). tried ++ pending s.now (held_seat s)) (sym there))
      (begin_pends mine x c outs m once (⊎_elim (λ k. inl (ap (λ (s : Seat). s.now) there ∙ k)) (λ k. inr (ap (λ (s : Seat). s.now) there ∙ k)) kind))

  own_ways : StartWays (λ x entry now up tail. OwnPends x entry now up)
  own_ways = record {
    up = λ s outs n u m once.
        let x = item.Posted posted.Up in let c = cause.Started s in
        by_seat x c outs (Some s) false (s ∷ []) n u m once (seat_cause (seat_at i seats.servers) x c) refl (inl refl) (ap (λ (o : Option ℕ). s ∷ pending o (held o true)) n);
    failed = λ s outs n u m once.
        let x = item.Posted posted.NoStart in let c = cause.StartFailed s in
        by_seat x c outs (Some s) false (s ∷ []) n u m once (seat_cause (seat_at i seats.servers) x c) refl (inr refl) refl;
    word = λ s tail body outs n u m once.
        let x = item.Posted (posted.Body body) in let c = cause.FromServer s body in
        by_seat x c outs (Some s) true [] n u m once (seat_at i seats.servers) refl (inl refl) (ap (λ (o : Option ℕ). pending o (held o true)) n ∙ ap (λ (b : Bool). pending (start_at i seats) (held (start_at i seats) b)) u);
    over = λ s tail w outs real n u m once.
        let x = item.Posted (posted.Ended w) in let c = cause.ServerGone s in
        by_seat x c outs (Some s) true [] n u m once (seat_cause (seat_item (seat_at i seats.servers) x) x c) refl (inr refl) refl;
    broke = λ s tail outs n u m once.
        let x = item.Side side.Broke in let c = cause.ServerGone s in
        by_seat x c outs (Some s) true [] n u m once (seat_cause (seat_item (seat_at i seats.servers) x) x c) refl (inr refl) refl;
    idle = λ s now up tail. tt;
    late = λ body now up h. tt;
    late_end = λ w now up h. tt;
  }

  own : (x : Item) (en : Entry) → Meant (meaning seats mine x) (Some en) → Once en.outs → Pends mine x en (tried_of (Some en))
  own x en m once = by_try (λ x entry now up tail. OwnPends x entry now up) own_ways seats i x (Some en) m refl refl m once

  entry_pends : (l : LaneName) (x : Item) (en : Entry) → Meant (meaning seats l x) (Some en) → Once en.outs → Pends l x en (if same_lane (lane.Server i) l then tried_of (Some en) else [])
  entry_pends (lane.Editor j) x en m once = elsewhere (lane.Editor j) x en refl m once
  entry_pends lane.Ticker x en m once = elsewhere lane.Ticker x en refl m once
  entry_pends (lane.Server j) x en m once = ⊎_elim
      (λ (e : ((i == j) ≡ true) × (i ≡ j)).
      subst (λ (b : Bool). Pends (lane.Server j) x en (if b then tried_of (Some en) else [])) (sym e.0)
      (subst (λ (k : ℕ). Meant (meaning seats (lane.Server k) x) (Some en) → Pends (lane.Server k) x en (tried_of (Some en))) e.1 (λ m. own x en m once) m))
      (λ (e : ((i == j) ≡ false) × (i ≢ j)).
      subst (λ (b : Bool). Pends (lane.Server j) x en (if b then tried_of (Some en) else [])) (sym e.0) (elsewhere (lane.Server j) x en e.0 m once))
      (eqb_tells i j)

-- from some deed on
pub record TriedAhead (seats : Seats) (i : ℕ) (tried starts : List ℕ) : Type 0 where
  pub rest : List ℕ
  pub is : pending_at i seats ++ starts ≡ tried ++ rest
  pub one : length rest ≤ 1

tried_none : (i : ℕ) (l : LaneName) → (if same_lane (lane.Server i) l then tried_of None else []) ≡ []
tried_none i l = elim (same_lane (lane.Server i) l) as (λ b. (if b then tried_of None else []) ≡ []) [ true ↦ refl | false ↦ refl ]

none_tried : (seats : Seats) (i : ℕ) (l : LaneName) (x : Item) (tried starts : List ℕ) → TriedAhead (marked seats l x) i tried starts → TriedAhead seats i ((if same_lane (lane.Server i) l then tried_of None else []) ++ tried) starts
none_tried seats i l x tried starts a =
    let m = marked seats l x in
    let same : pending_at i m ≡ pending_at i seats =
    ap (λ o. pending o (held_at i m)) (none_seat (λ s. s.now) l x seats i (item_keeps x)) ∙ ap (pending (start_at i seats)) (none_seat held_seat l x seats i (item_held x)) in record {
      rest = a.rest;
      is = ap (λ l. l ++ starts) (sym same) ∙ a.is ∙ ap (λ h. (h ++ tried) ++ a.rest) (sym (tried_none i l));
      one = a.one;
    }

deed_tried : (seats t : Seats) (i : ℕ) (l : LaneName) (x : Item) (entry : Option Entry) (history : List Entry) (tried : List ℕ) → i < length seats.servers → Matched seats t → Meant (meaning seats l x) entry
    → ((s : ℕ) → total s seats + spawns s (entries_in entry ++ history) ≤ 1) → TriedAhead (behind seats (did l x entry)) i tried (began_from i (fold next_seats t (entries_in entry)) history)
    → TriedAhead seats i ((if same_lane (lane.Server i) l then tried_of entry else []) ++ tried) (began_from i t (entries_in entry ++ history))
deed_tried seats t i l x None history tried within matched m once a = none_tried seats i l x tried (began_from i t history) a
deed_tried seats t i l x (Some en) history tried within matched m once a =
    let next = behind seats (did l x (Some en)) in
    let t' = next_seats t en in
    let matched' : Matched next t' = one_go seats t l x (Some en) m (λ s. let h = once s in omega arith) matched in
    let was : start_at i seats ≡ start_at i t = (zip_at seats.servers t.servers i matched.servers).now in
    let is : start_at i next ≡ start_at i t' = (zip_at next.servers t'.servers i matched'.servers).now in
    let new = began_in (start_at i seats) (start_at i next) in
    let new' = began_in (start_at i t) (start_at i t') in
    let starts = began_from i t' history in
    let here = if same_lane (lane.Server i) l then tried_of (Some en) else [] in
    let e : new ≡ new' = ap (λ (o : Option ℕ). began_in o (start_at i next)) was ∙ ap (began_in (start_at i t)) is in
    let p = entry_pends seats t i within matched history l x en m (λ s. let h = once s in omega arith) in record {
      rest = a.rest;
      is = ap (λ n. pending_at i seats ++ (n ++ starts)) (sym e) ∙ sym (append_assoc (pending_at i seats) new starts) ∙ ap (λ l. l ++ starts) p ∙ append_assoc here (pending_at i next) starts ∙ ap (λ l. here ++ l) a.is ∙ sym (append_assoc here tried a.rest);
      one = a.one;
    }

pending_one : (now up : Option ℕ) → length (pending now up) ≤ 1
pending_one None up = omega arith
pending_one (Some s) None = omega arith
pending_one (Some s) (Some n) = omega arith

all_tried : (i : ℕ) (deeds : List Deed) (seats t : Seats) → i < length seats.servers → Matched seats t → FairFrom seats deeds → ((s : ℕ) → total s seats + spawns s (gather_from entries_by seats deeds) ≤ 1)
    → TriedAhead seats i (gather_from (tried_by (lane.Server i)) seats deeds) (began_from i t (gather_from entries_by seats deeds))
all_tried i [] seats t within matched fair once = record { rest = pending_at i seats; is = append-nil (pending_at i seats); one = pending_one (start_at i seats) (held_at i seats) }
all_tried i (d ∷ deeds) seats t within matched fair once =
    let next = behind seats d in
    let rest = gather_from entries_by next deeds in
    let still : i < length next.servers = let h = server_len d.lane d.item d.entry seats in omega arith in
    let matched' : Matched next (fold next_seats t (entries_in d.entry)) = one_go seats t d.lane d.item d.entry fair.0 (λ s. let h = once s in omega arith) matched in
    deed_tried seats t i d.lane d.item d.entry rest (gather_from (tried_by (lane.Server i)) next deeds) within matched fair.0 once
    (all_tried i deeds next (fold next_seats t (entries_in d.entry)) still matched' fair.1 (λ s. let h = once s in let e = spawns_append s (entries_in d.entry) rest in let g = deed_total s seats d.lane d.item d.entry fair.0 in omega arith))

pub starts_tried : StartsTried
starts_tried n m i deeds within fair once =
    let seats = start n m in
    let a = all_tried i deeds seats (start 0 m) (let h = many_free m in omega arith) (record { servers = free_faces m; waiting = refl }) fair (λ s. let h = once s in let z = none_seated s m in omega arith) in
    let none : pending_at i seats ≡ [] = ap (λ (s : Seat). pending s.now (held_seat s)) (all_free m i) in record {
      rest = a.rest;
      is = ap (λ l. l ++ began m i (entries n m deeds)) (sym none) ∙ a.is;
      one = a.one;
    }
