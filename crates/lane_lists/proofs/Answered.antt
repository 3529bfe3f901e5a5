-- What the history says of bodies to editors was said in a lane's queues.
use Rattle.std.proofs.Common.{◌≡◌, ℕ, zero, suc, ◌+◌, ◌==◌, ◌<◌, List, [], ◌∷◌, ◌++◌, true, false, if◌then◌else◌, length, slice_get, refl, sym, ap, ◌∙◌, subst, ◌⊎◌, inl, inr, ⊎_elim, arith, Option, append_assoc, append-nil}
use Rattle.std.specs.declared.option.Option.TheVariants.{Some, None}
use Rattle.mux_history.specs.declared.entry.Entry.{Entry}
use Rattle.mux_history.specs.declared.cause.Cause.{Cause}
use Rattle.mux_history.specs.declared.cause.Cause.TheVariants as cause
use Rattle.mux_history.specs.declared.cause.Why.TheVariants as why
use Rattle.lane_lists.specs.declared.item.LaneName.{LaneName}
use Rattle.lane_lists.specs.declared.item.LaneName.TheVariants as lane
use Rattle.lane_lists.specs.declared.item.Item.{Item}
use Rattle.lane_lists.specs.declared.item.Side.{Side}
use Rattle.lane_lists.specs.declared.item.Side.TheVariants as side
use Rattle.lane_lists.specs.Seats.{Seats, meaning, seat_at, free_seat}
use Rattle.lane_lists.specs.Deeds.{Deed, FairFrom, Meant, behind, entries_by, entries_in, gather_from, orders_by, same_lane, session_in, sessions_by, sides_by, start}
use Rattle.lane_lists.specs.Origins.{AllIn, IsIn}
use Rattle.lane_lists.specs.Sides.{DrainedAnswered, FailedAnswered, answers, drained_in, failed_in, told_of}
use Rattle.lane_lists.proofs.Moves.{by_editor, by_server, by_ticker, foreign}
use Rattle.lane_lists.proofs.BySession.{Sound, all_free, many_free, sound_start, sound_step, step}
use Rattle.lane_lists.proofs.Owing.{Below, total}
use Rattle.lane_lists.proofs.Answering.{Adds, From, Said, adds, from_up}

-- the sessions that are still to come are of new editors
later_sessions : (i : ℕ) (seats : Seats) (l : LaneName) (x : Item) (entry : Option Entry) (rest : List ℕ) → Meant (meaning seats l x) entry → From seats.joined rest → From seats.joined ((if same_lane (lane.Editor i) l then session_in (lane.Editor i) entry else []) ++ rest)
later_sessions i seats (lane.Server j) x entry rest m f = f
later_sessions i seats lane.Ticker x entry rest m f = f
later_sessions i seats (lane.Editor j) x entry rest m f = elim (i == j) as (λ b. From seats.joined ((if b then session_in (lane.Editor i) entry else []) ++ rest)) [
  | true ↦ by_editor seats.joined (λ x en now tail. From seats.joined (session_in (lane.Editor i) en ++ rest)) (record {
    link = λ outs. (omega arith, f);
    word = λ e tail body outs. f;
    over = λ e tail w outs real. f;
    broke = λ e tail outs. f;
    drained = λ e k tail outs. f;
    idle = λ s now tail. f;
    late = λ body. f;
    late_end = λ w. f;
  }) seats j x entry refl m
  | false ↦ f
]

sessions_from : (i : ℕ) (deeds : List Deed) (seats : Seats) → FairFrom seats deeds → From seats.joined (gather_from (sessions_by (lane.Editor i)) seats deeds)
sessions_from i [] seats fair = tt
sessions_from i (d ∷ deeds) seats fair =
    let after = behind seats d in
    let rest = gather_from (sessions_by (lane.Editor i)) after deeds in
    later_sessions i seats d.lane d.item d.entry rest fair.0 (from_up seats.joined after.joined rest (step seats d.lane d.item d.entry fair.0).up (sessions_from i deeds after fair.1))

-- all answers of a lane, from some deed on
abbrev said_from : ℕ → Seats → List Deed → List ((ℕ × ℕ) × Side)
said_from i seats deeds = answers (gather_from (sides_by (lane.Editor i)) seats deeds) (total (seat_at i seats.editors) (gather_from (sessions_by (lane.Editor i)) seats deeds) (gather_from (orders_by (lane.Editor i)) seats deeds))

pub at_behind : {X : Type 0} (xs ys : List X) (p k : ℕ) (x : X) → k ≡ length xs + p → slice_get ys p ≡ Some x → slice_get (xs ++ ys) k ≡ Some x
at_behind [] ys p k x h at = let same : p ≡ k = omega (arith, h) in subst (λ (n : ℕ). slice_get ys n ≡ Some x) same at
at_behind (y ∷ xs) ys p zero x h at = absurd (omega (arith, h))
at_behind (y ∷ xs) ys p (suc k) x h at = at_behind xs ys p k x (omega (arith, h)) at

pub at_either : {X : Type 0} (xs ys : List X) (p : ℕ) (x : X) → slice_get (xs ++ ys) p ≡ Some x → ((q : ℕ) × (slice_get xs q ≡ Some x)) ⊎ ((q : ℕ) × (slice_get ys q ≡ Some x))
at_either [] ys p x at = inr (p, at)
at_either (y ∷ xs) ys zero x at = inl (0, at)
at_either (y ∷ xs) ys (suc p) x at = ⊎_elim (λ t. inl (suc t.0, t.1)) (λ t. inr t) (at_either xs ys p x at)

module _ {X : Type 0} (told : Cause → List X) (Hit : X → (ℕ × ℕ) × Side → Type 0) (none : (c : Cause) → foreign c ≡ true → told c ≡ []) (alone : (c : Cause) (q : ℕ) (x : X) → slice_get (told c) q ≡ Some x → told c ≡ x ∷ [])
    (hits : (en : Entry) (added : List ((ℕ × ℕ) × Side)) (x : X) → Said (Some en) added → told en.cause ≡ x ∷ [] → (a : (ℕ × ℕ) × Side) × (added ≡ a ∷ []) × Hit x a) where
  -- only deeds of editors' lanes say it
  abbrev Mute : Option Entry → Type 0
  Mute entry = told_of told (entries_in entry) ≡ []

  of_editor : (seats : Seats) (l : LaneName) (x : Item) (entry : Option Entry) (q : ℕ) (y : X) → Meant (meaning seats l x) entry → slice_get (told_of told (entries_in entry)) q ≡ Some y → (j : ℕ) × (l ≡ lane.Editor j)
  of_editor seats (lane.Editor j) x entry q y m at = (j, refl)
  of_editor seats (lane.Server j) x entry q y m at =
      let mute : Mute entry = by_server (λ e. Mute e) refl (λ c outs f. ap (λ l. l ++ []) (none c f)) seats j x entry m in
      let at' : slice_get [] q ≡ Some y = subst (λ l. slice_get l q ≡ Some y) mute at in absurd cc
  of_editor seats lane.Ticker x entry q y m at =
      let mute : Mute entry = by_ticker (λ e. Mute e) refl (λ c outs f. ap (λ l. l ++ []) (none c f)) seats x entry m in
      let at' : slice_get [] q ≡ Some y = subst (λ l. slice_get l q ≡ Some y) mute at in absurd cc

  told_append : (a b : List Entry) → told_of told (a ++ b) ≡ told_of told a ++ told_of told b
  told_append [] b = refl
  told_append (en ∷ a) b = ap (λ l. told en.cause ++ l) (told_append a b) ∙ sym (append_assoc (told en.cause) (told_of told a) (told_of told b))

  pub record Found (n : ℕ) (seats : Seats) (deeds : List Deed) (x : X) : Type 0 where
    pub number : ℕ
    pub within : number < n
    pub place : ℕ
    pub said : (ℕ × ℕ) × Side
    pub at : slice_get (said_from number seats deeds) place ≡ Some said
    pub hit : Hit x said

  one_entry : (entry : Option Entry) (added : List ((ℕ × ℕ) × Side)) (q : ℕ) (x : X) → Said entry added → slice_get (told_of told (entries_in entry)) q ≡ Some x → (a : (ℕ × ℕ) × Side) × (added ≡ a ∷ []) × Hit x a
  one_entry None added q x s at = absurd cc
  one_entry (Some en) added q x s at = hits en added x s (alone en.cause q x (subst (λ l. slice_get l q ≡ Some x) (append-nil (told en.cause)) at))

  pub found : (n m : ℕ) (deeds : List Deed) (seats : Seats) → FairFrom seats deeds → AllIn n m deeds → length seats.editors ≡ n → Sound seats → ((i : ℕ) → i < n → Below seats.joined (seat_at i seats.editors))
      → (p : ℕ) (x : X) → slice_get (told_of told (gather_from entries_by seats deeds)) p ≡ Some x → Found n seats deeds x
  found n m [] seats fair ins len sound low p x at = absurd cc
  found n m (d ∷ deeds) seats fair ins len sound low p x at =
      let after = behind seats d in
      ⊎_elim (λ t. here t.0 t.1)
      (λ t. there (found n m deeds after fair.1 ins.1 ((step seats d.lane d.item d.entry fair.0).len ∙ len) (sound_step seats after d.lane (entries_in d.entry) (step seats d.lane d.item d.entry fair.0) sound) (λ i h. (more i h).below) t.0 x t.1)) (at_either (told_of told (entries_in d.entry)) (told_of told (gather_from entries_by after deeds)) p x (subst (λ l. slice_get l p ≡ Some x) (told_append (entries_in d.entry) (gather_from entries_by after deeds)) at))
    where
      within : (i : ℕ) → i < n → i < length seats.editors
      within i h = omega (arith, len, h)

      more : (i : ℕ) (h : i < n) → Adds seats i (within i h) sound (low i h) d.lane d.item d.entry
      more i h = adds seats i (within i h) sound (low i h) d.lane d.item d.entry fair.0

      all : (i : ℕ) (h : i < n) → said_from i seats (d ∷ deeds) ≡ (more i h).added ++ said_from i (behind seats d) deeds
      all i h = (more i h).are (gather_from (sessions_by (lane.Editor i)) (behind seats d) deeds) (gather_from (orders_by (lane.Editor i)) (behind seats d) deeds) (gather_from (sides_by (lane.Editor i)) (behind seats d) deeds) (sessions_from i deeds (behind seats d) fair.1)

      here : (q : ℕ) → slice_get (told_of told (entries_in d.entry)) q ≡ Some x → Found n seats (d ∷ deeds) x
      here q at =
          let e = of_editor seats d.lane d.item d.entry q x fair.0 at in
          let h : e.0 < n = subst (λ (l : LaneName). IsIn n m l) e.1 ins.0 in
          let a = more e.0 h in
          let o = one_entry d.entry a.added q x (a.says e.1) at in
          record { number = e.0; within = h; place = 0; said = o.0; at = ap (λ l. slice_get l 0) (all e.0 h ∙ ap (λ l. l ++ said_from e.0 (behind seats d) deeds) o.1); hit = o.2 }

      there : Found n (behind seats d) deeds x → Found n seats (d ∷ deeds) x
      there r =
          let added = (more r.number r.within).added in
          record { number = r.number; within = r.within; place = length added + r.place; said = r.said; at = ap (λ l. slice_get l (length added + r.place)) (all r.number r.within) ∙ at_behind added (said_from r.number (behind seats d) deeds) r.place (length added + r.place) r.said refl r.at; hit = r.hit }

-- from the start
low_free : (n m i : ℕ) → Below 0 (seat_at i (start n m).editors)
low_free n m i = subst (λ t. Below 0 t) (sym (all_free n i)) (record { owed = tt; now = λ e h. absurd cc })

from_start : (n m i : ℕ) (deeds : List Deed) (said : (ℕ × ℕ) × Side) (place : ℕ) → slice_get (said_from i (start n m) deeds) place ≡ Some said
    → slice_get (answers (gather_from (sides_by (lane.Editor i)) (start n m) deeds) (total free_seat (gather_from (sessions_by (lane.Editor i)) (start n m) deeds) (gather_from (orders_by (lane.Editor i)) (start n m) deeds))) place ≡ Some said
from_start n m i deeds said place at =
    subst (λ t. slice_get (answers (gather_from (sides_by (lane.Editor i)) (start n m) deeds) (total t (gather_from (sessions_by (lane.Editor i)) (start n m) deeds) (gather_from (orders_by (lane.Editor i)) (start n m) deeds))) place ≡ Some said) (all_free n i) at

drained_none : (c : Cause) → foreign c ≡ true → drained_in c ≡ []
drained_none (cause.Started s) f = refl
drained_none (cause.StartFailed s) f = refl
drained_none (cause.FromServer s body) f = refl
drained_none (cause.ServerGone s) f = refl
drained_none (cause.Tick t) f = refl
drained_none (cause.Joined e) f = absurd cc
drained_none (cause.FromEditor e body) f = absurd cc
drained_none (cause.EditorGone e w) f = absurd cc
drained_none (cause.Drained e k) f = absurd cc

drained_alone : (c : Cause) (q : ℕ) (x : ℕ × ℕ) → slice_get (drained_in c) q ≡ Some x → drained_in c ≡ x ∷ []
drained_alone (cause.Drained e k) zero x at = let same : (e, k) ≡ x = cc in ap (λ y. y ∷ []) same
drained_alone (cause.Drained e k) (suc q) x at = absurd cc
drained_alone (cause.Started s) q x at = absurd cc
drained_alone (cause.StartFailed s) q x at = absurd cc
drained_alone (cause.FromServer s body) q x at = absurd cc
drained_alone (cause.ServerGone s) q x at = absurd cc
drained_alone (cause.Tick t) q x at = absurd cc
drained_alone (cause.Joined e) q x at = absurd cc
drained_alone (cause.FromEditor e body) q x at = absurd cc
drained_alone (cause.EditorGone e w) q x at = absurd cc

failed_none : (c : Cause) → foreign c ≡ true → failed_in c ≡ []
failed_none (cause.Started s) f = refl
failed_none (cause.StartFailed s) f = refl
failed_none (cause.FromServer s body) f = refl
failed_none (cause.ServerGone s) f = refl
failed_none (cause.Tick t) f = refl
failed_none (cause.Joined e) f = absurd cc
failed_none (cause.FromEditor e body) f = absurd cc
failed_none (cause.EditorGone e w) f = absurd cc
failed_none (cause.Drained e k) f = absurd cc

failed_alone : (c : Cause) (q : ℕ) (x : ℕ) → slice_get (failed_in c) q ≡ Some x → failed_in c ≡ x ∷ []
failed_alone (cause.EditorGone e why.WriteFault) zero x at = let same : e ≡ x = cc in ap (λ y. y ∷ []) same
failed_alone (cause.EditorGone e why.WriteFault) (suc q) x at = absurd cc
failed_alone (cause.EditorGone e why.End) q x at = absurd cc
failed_alone (cause.EditorGone e why.ReadFault) q x at = absurd cc
failed_alone (cause.EditorGone e why.BadFrame) q x at = absurd cc
failed_alone (cause.Drained e k) q x at = absurd cc
failed_alone (cause.Started s) q x at = absurd cc
failed_alone (cause.StartFailed s) q x at = absurd cc
failed_alone (cause.FromServer s body) q x at = absurd cc
failed_alone (cause.ServerGone s) q x at = absurd cc
failed_alone (cause.Tick t) q x at = absurd cc
failed_alone (cause.Joined e) q x at = absurd cc
failed_alone (cause.FromEditor e body) q x at = absurd cc

pub drained_answered : DrainedAnswered
drained_answered n m deeds fair ins k e bytes at =
    let Hit : ℕ × ℕ → (ℕ × ℕ) × Side → Type 0 = λ x a. a ≡ (x, side.Wrote) in
    let r = found drained_in Hit drained_none drained_alone (λ en added x s is. ((x, side.Wrote), s.0 x.0 x.1 is, refl)) n m deeds (start n m) fair ins (many_free n) (sound_start n m) (λ i h. low_free n m i) k (e, bytes) at in
    record { number = r.number; within = r.within; place = r.place; at = from_start n m r.number deeds ((e, bytes), side.Wrote) r.place (r.at ∙ ap (λ a. Some a) r.hit) }

pub failed_answered : FailedAnswered
failed_answered n m deeds fair ins k e at =
    let Hit : ℕ → (ℕ × ℕ) × Side → Type 0 = λ x a. (bytes : ℕ) × (a ≡ ((x, bytes), side.Broke)) in
    let r = found failed_in Hit failed_none failed_alone (λ en added x s is. let b = s.1 x is in (((x, b.0), side.Broke), b.1, (b.0, refl))) n m deeds (start n m) fair ins (many_free n) (sound_start n m) (λ i h. low_free n m i) k e at in
    (r.hit.0, record { number = r.number; within = r.within; place = r.place; at = from_start n m r.number deeds ((e, r.hit.0), side.Broke) r.place (r.at ∙ ap (λ a. Some a) r.hit.1) })
