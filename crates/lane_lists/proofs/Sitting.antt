-- Each editor that joined is one of an editors' lane; there it sits until the history has that it went.
use Rattle.std.proofs.Common.{◌≡◌, ◌≢◌, ℕ, suc, ◌+◌, ◌==◌, ◌<◌, ◌≤◌, List, [], ◌∷◌, ◌++◌, Bool, true, false, if◌then◌else◌, fold, length, refl, sym, ap, ◌∙◌, subst, ◌⊎◌, inl, inr, ⊎_elim, arith, Option, slice_get, slice_set}
use Rattle.std.specs.declared.option.Option.TheVariants.{Some, None}
use Rattle.std.proofs.lemmas.Bool.Decides.{eqb_tells}
use Rattle.mux_history.specs.declared.entry.Entry.{Entry}
use Rattle.mux_history.specs.declared.out.Out.{Out}
use Rattle.mux_history.specs.declared.cause.Cause.{Cause}
use Rattle.mux_history.specs.declared.cause.Cause.TheVariants as cause
use Rattle.mux_history.specs.declared.cause.Why.{Why}
use Rattle.mux_history.specs.declared.cause.Why.TheVariants as why
use Rattle.mux_history.specs.Cores.{joined, joins}
use Rattle.lane_lists.specs.declared.item.LaneName.{LaneName}
use Rattle.lane_lists.specs.declared.item.LaneName.TheVariants as lane
use Rattle.lane_lists.specs.declared.item.Posted.TheVariants as posted
use Rattle.lane_lists.specs.declared.item.Side.TheVariants as side
use Rattle.lane_lists.specs.declared.item.Item.{Item}
use Rattle.lane_lists.specs.declared.item.Item.TheVariants as item
use Rattle.lane_lists.specs.Seats.{Seat, Seats, seat_at, meaning, joined_behind, seat_cause, seat_item}
use Rattle.lane_lists.specs.Deeds.{Deed, start, behind, gather_from, same_lane, session_in, entries_in, sessions_by, entries_by, FairFrom, Meant}
use Rattle.lane_lists.specs.History.{gone_in, gone_of}
use Rattle.lane_lists.specs.Origins.{AllIn, IsIn, EditorsSit}
use Rattle.lane_lists.proofs.Moves.{now_at, Like, given_like, caused, Acted, did, acted, acted_none, Ways, by_editor, foreign, by_server, by_ticker}
use Rattle.lane_lists.proofs.BySession.{step}

-- an editor's link that joined in this lane
pub record Links (seats after : Seats) (l : LaneName) (entry : Option Entry) : Type 0 where
  pub seat : ℕ
  pub own : l ≡ lane.Editor seat
  pub said : session_in (lane.Editor seat) entry ≡ seats.joined ∷ []
  pub one : joined (entries_in entry) ≡ 1
  pub more : after.joined ≡ seats.joined + 1
  pub sits : seat < length seats.editors → now_at seat after ≡ Some seats.joined

-- what a deed does to the editors that sit, and to their number
pub record Seated (seats after : Seats) (l : LaneName) (entry : Option Entry) : Type 0 where
  pub keeps : (k e : ℕ) → now_at k seats ≡ Some e → (now_at k after ≡ Some e) ⊎ (gone_of e (entries_in entry) ≢ [])
  pub counts : ((joined (entries_in entry) ≡ 0) × (after.joined ≡ seats.joined)) ⊎ Links seats after l entry

gone_now : (e n : ℕ) (w : Why) (outs : List Out) → e ≡ n → gone_of n (record { cause = cause.EditorGone e w; outs = outs } ∷ []) ≢ []
gone_now e n w outs same = ⊎_elim
    (λ (t : ((e == n) ≡ true) × (e ≡ n)). subst (λ (b : Bool). (if b then w ∷ [] else []) ++ [] ≢ []) (sym t.0) (λ h. absurd cc))
    (λ (t : ((e == n) ≡ false) × (e ≢ n)). absurd (t.1 same)) (eqb_tells e n)

foreign_none : (c : Cause) → foreign c ≡ true → joins c ≡ 0
foreign_none (cause.Started s) f = refl
foreign_none (cause.StartFailed s) f = refl
foreign_none (cause.FromServer s body) f = refl
foreign_none (cause.ServerGone s) f = refl
foreign_none (cause.Tick t) f = refl
foreign_none (cause.Joined e) f = absurd cc
foreign_none (cause.FromEditor e body) f = absurd cc
foreign_none (cause.EditorGone e w) f = absurd cc
foreign_none (cause.Drained e k) f = absurd cc

foreign_count : (c : Cause) (n : ℕ) → foreign c ≡ true → joined_behind n c ≡ n
foreign_count (cause.Started s) n f = refl
foreign_count (cause.StartFailed s) n f = refl
foreign_count (cause.FromServer s body) n f = refl
foreign_count (cause.ServerGone s) n f = refl
foreign_count (cause.Tick t) n f = refl
foreign_count (cause.Joined e) n f = absurd cc
foreign_count (cause.FromEditor e body) n f = absurd cc
foreign_count (cause.EditorGone e w) n f = absurd cc
foreign_count (cause.Drained e k) n f = absurd cc

-- a deed of another lane
elsewhere : (seats mid after : Seats) (l : LaneName) (c : Cause) (outs : List Out) → mid.editors ≡ seats.editors → mid.joined ≡ joined_behind seats.joined c → Like mid after → foreign c ≡ true
    → Seated seats after l (Some (record { cause = c; outs = outs }))
elsewhere seats mid after l c outs same count like f = record {
  keeps = λ k e h. inl (like.now k ∙ ap (λ es. (seat_at k es).now) same ∙ h);
  counts = inl ((let z = foreign_none c f in omega arith), like.joined ∙ count ∙ foreign_count c seats.joined f);
}

nothing : (seats after : Seats) (l : LaneName) → after.editors ≡ seats.editors → after.joined ≡ seats.joined → Seated seats after l None
nothing seats after l same count = record { keeps = λ k e h. inl (ap (λ es. (seat_at k es).now) same ∙ h); counts = inl (refl, count) }

module _ (seats : Seats) (j : ℕ) where
  abbrev next : Item → Option Entry → Seats
  next x entry = behind seats (did (lane.Editor j) x entry)

  abbrev Sits_so : Item → Option Entry → Option ℕ → Bool → Type 0
  Sits_so x entry now tail = now ≡ now_at j seats → Seated seats (next x entry) (lane.Editor j) entry

  -- whoever sat there sits there still
  same_seat : (x : Item) (entry : Option Entry) (seat : Seat) → Acted seats (next x entry) j seat seats.joined → seat.now ≡ now_at j seats → joined (entries_in entry) ≡ 0 → Seated seats (next x entry) (lane.Editor j) entry
  same_seat x entry seat a stays none = record {
    keeps = λ k e h. inl (⊎_elim (λ t. t.1 ∙ stays ∙ ap (λ (i : ℕ). now_at i seats) (sym t.0) ∙ h) (λ t. t ∙ h) (a.either k));
    counts = inl (none, a.joined);
  }

  -- or the history has that it went
  left_seat : (x : Item) (e : ℕ) (w : Why) (outs : List Out) (seat : Seat) → Some e ≡ now_at j seats → Acted seats (next x (Some (record { cause = cause.EditorGone e w; outs = outs }))) j seat seats.joined
      → Seated seats (next x (Some (record { cause = cause.EditorGone e w; outs = outs }))) (lane.Editor j) (Some (record { cause = cause.EditorGone e w; outs = outs }))
  left_seat x e w outs seat is a = record {
    keeps = λ k n h. ⊎_elim
        (λ t. let here : Some e ≡ Some n = is ∙ ap (λ (i : ℕ). now_at i seats) (sym t.0) ∙ h in let same : e ≡ n = cc in inr (gone_now e n w outs same))
        (λ t. inl (t ∙ h)) (a.either k);
    counts = inl (refl, a.joined);
  }

  seat_ways : Ways seats.joined Sits_so
  seat_ways = record {
    link = λ outs is.
        let a = acted seats j (item.Posted posted.Link) (cause.Joined seats.joined) outs in record {
          keeps = λ k e h. inl (⊎_elim (λ t. let none : None ≡ Some e = is ∙ ap (λ (i : ℕ). now_at i seats) (sym t.0) ∙ h in absurd cc) (λ t. t ∙ h) (a.either k));
          counts = inr (record { seat = j; own = refl; said = refl; one = refl; more = a.joined; sits = λ h. (a.here h).0 });
        };
    word = λ e tail body outs is. let x = item.Posted (posted.Body body) in let c = cause.FromEditor e body in same_seat x (Some (record { cause = c; outs = outs })) (seat_cause (seat_item (seat_at j seats.editors) x) x c) (acted seats j x c outs) refl refl;
    over = λ e tail w outs real is. let x = item.Posted (posted.Ended w) in let c = cause.EditorGone e w in left_seat x e w outs (seat_cause (seat_item (seat_at j seats.editors) x) x c) is (acted seats j x c outs);
    broke = λ e tail outs is. let x = item.Side side.Broke in let c = cause.EditorGone e why.WriteFault in left_seat x e why.WriteFault outs (seat_cause (seat_item (seat_at j seats.editors) x) x c) is (acted seats j x c outs);
    drained = λ e k tail outs is. let x = item.Side side.Wrote in let c = cause.Drained e k in same_seat x (Some (record { cause = c; outs = outs })) (seat_cause (seat_item (seat_at j seats.editors) x) x c) (acted seats j x c outs) refl refl;
    idle = λ s now tail is. same_seat (item.Side s) None (seat_item (seat_at j seats.editors) (item.Side s)) (acted_none seats j (item.Side s)) refl refl;
    late = λ body is. let x = item.Posted (posted.Body body) in same_seat x None (seat_item (seat_at j seats.editors) x) (acted_none seats j x) refl refl;
    late_end = λ w is. let x = item.Posted (posted.Ended w) in same_seat x None (seat_item (seat_at j seats.editors) x) (acted_none seats j x) refl refl;
  }

pub seated : (seats : Seats) (l : LaneName) (x : Item) (entry : Option Entry) → Meant (meaning seats l x) entry → Seated seats (behind seats (did l x entry)) l entry
seated seats (lane.Editor j) x entry m = by_editor seats.joined (Sits_so seats j) (seat_ways seats j) seats j x entry refl m refl
seated seats (lane.Server j) x entry m =
    by_server (λ e. Seated seats (behind seats (did (lane.Server j) x e)) (lane.Server j) e)
    (nothing seats (behind seats (did (lane.Server j) x None)) (lane.Server j) refl refl)
    (λ c outs f. let mid = record seats { servers = slice_set seats.servers j (seat_item (seat_at j seats.servers) x) } in
    elsewhere seats (caused mid (lane.Server j) x c) (behind seats (did (lane.Server j) x (Some (record { cause = c; outs = outs })))) (lane.Server j) c outs refl refl (given_like mid (lane.Server j) x c outs) f)
    seats j x entry m
seated seats lane.Ticker x entry m =
    by_ticker (λ e. Seated seats (behind seats (did lane.Ticker x e)) lane.Ticker e)
    (nothing seats (behind seats (did lane.Ticker x None)) lane.Ticker refl refl)
    (λ c outs f. elsewhere seats (caused seats lane.Ticker x c) (behind seats (did lane.Ticker x (Some (record { cause = c; outs = outs })))) lane.Ticker c outs refl refl (given_like seats lane.Ticker x c outs) f)
    seats x entry m

pub joined_append : (a b : List Entry) → joined (a ++ b) ≡ joined a + joined b
joined_append [] b = omega arith
joined_append (en ∷ a) b = let r = joined_append a b in omega arith

gone_front : (e : ℕ) (a b : List Entry) → gone_of e a ≢ [] → gone_of e (a ++ b) ≢ []
gone_front e [] b h = absurd (h refl)
gone_front e (en ∷ a) b h = more (gone_in e en.cause) (gone_of e a) (gone_of e (a ++ b)) h (gone_front e a b) where
  more : (x y z : List Why) → x ++ y ≢ [] → (y ≢ [] → z ≢ []) → x ++ z ≢ []
  more [] y z h f = f h
  more (w ∷ x) y z h f = λ e. absurd cc

gone_behind : (e : ℕ) (a b : List Entry) → gone_of e b ≢ [] → gone_of e (a ++ b) ≢ []
gone_behind e [] b h = h
gone_behind e (en ∷ a) b h = more (gone_in e en.cause) (gone_of e (a ++ b)) (gone_behind e a b h) where
  more : (x z : List Why) → z ≢ [] → x ++ z ≢ []
  more [] z f = f
  more (w ∷ x) z f = λ e. absurd cc

-- how many editors joined
pub joined_from : (deeds : List Deed) (seats : Seats) → FairFrom seats deeds → (fold behind seats deeds).joined ≡ seats.joined + joined (gather_from entries_by seats deeds)
joined_from [] seats fair = omega arith
joined_from (d ∷ deeds) seats fair =
    let s = seated seats d.lane d.item d.entry fair.0 in
    let r = joined_from deeds (behind seats d) fair.1 in
    let a = joined_append (entries_in d.entry) (gather_from entries_by (behind seats d) deeds) in
    ⊎_elim (λ t. let x = t.0 in let y = t.1 in omega arith) (λ (t : Links seats (behind seats d) d.lane d.entry). let x = t.one in let y = t.more in omega arith) s.counts

-- an editor that sits, or of whom the history has that it went
pub record Here (seats : Seats) (e : ℕ) : Type 0 where
  pub seat : ℕ
  pub sits : now_at seat seats ≡ Some e

pub stays : (deeds : List Deed) (seats : Seats) (e k : ℕ) → FairFrom seats deeds → now_at k seats ≡ Some e → Here (fold behind seats deeds) e ⊎ (gone_of e (gather_from entries_by seats deeds) ≢ [])
stays [] seats e k fair h = inl (record { seat = k; sits = h })
stays (d ∷ deeds) seats e k fair h =
    let s = seated seats d.lane d.item d.entry fair.0 in
    let rest = gather_from entries_by (behind seats d) deeds in
    ⊎_elim (λ t. ⊎_elim (λ u. inl u) (λ g. inr (gone_behind e (entries_in d.entry) rest g)) (stays deeds (behind seats d) e k fair.1 t)) (λ g. inr (gone_front e (entries_in d.entry) rest g)) (s.keeps k e h)

within_of : (n m seat : ℕ) (l : LaneName) → l ≡ lane.Editor seat → IsIn n m l → seat < n
within_of n m seat l is k = subst (λ (x : LaneName). IsIn n m x) is k

pub all_here : (n m : ℕ) (deeds : List Deed) (seats : Seats) (e : ℕ) → FairFrom seats deeds → AllIn n m deeds → length seats.editors ≡ n → seats.joined ≤ e → e < seats.joined + joined (gather_from entries_by seats deeds)
    → Here (fold behind seats deeds) e ⊎ (gone_of e (gather_from entries_by seats deeds) ≢ [])
all_here n m [] seats e fair lanes len from below = absurd (omega arith)
all_here n m (d ∷ deeds) seats e fair lanes len from below =
    let s = seated seats d.lane d.item d.entry fair.0 in
    let after = behind seats d in
    let rest = gather_from entries_by after deeds in
    let still : length after.editors ≡ n = (step seats d.lane d.item d.entry fair.0).len ∙ len in
    let a = joined_append (entries_in d.entry) rest in
    ⊎_elim
    (λ t. let x = t.0 in let y = t.1 in
    ⊎_elim (λ u. inl u) (λ g. inr (gone_behind e (entries_in d.entry) rest g)) (all_here n m deeds after e fair.1 lanes.1 still (omega arith) (omega arith)))
    (λ (t : Links seats after d.lane d.entry). let x = t.one in let y = t.more in
    ⊎_elim
    (λ (u : ((e == seats.joined) ≡ true) × (e ≡ seats.joined)).
    let w = within_of n m t.seat d.lane t.own lanes.0 in
    let sits : now_at t.seat after ≡ Some e = t.sits (omega arith) ∙ ap Some (sym u.1) in
    ⊎_elim (λ v. inl v) (λ g. inr (gone_behind e (entries_in d.entry) rest g)) (stays deeds after e t.seat fair.1 sits))
    (λ (u : ((e == seats.joined) ≡ false) × (e ≢ seats.joined)).
    let apart = u.1 in
    let past : seats.joined + 1 ≤ e = omega arith in
    ⊎_elim (λ v. inl v) (λ g. inr (gone_behind e (entries_in d.entry) rest g)) (all_here n m deeds after e fair.1 lanes.1 still (omega arith) (omega arith)))
    (eqb_tells e seats.joined))
    s.counts

-- an item behind a front
pub at_behind : {A : Type 0} (xs ys : List A) (k : ℕ) (y : A) → slice_get ys k ≡ Some y → (i : ℕ) × (slice_get (xs ++ ys) i ≡ Some y)
at_behind [] ys k y h = (k, h)
at_behind (x ∷ xs) ys k y h = let r = at_behind xs ys k y h in (suc r.0, r.1)

pub record SitsFrom (n : ℕ) (seats : Seats) (deeds : List Deed) (e : ℕ) : Type 0 where
  pub number : ℕ
  pub within : number < n
  pub place : ℕ
  pub at : slice_get (gather_from (sessions_by (lane.Editor number)) seats deeds) place ≡ Some e

sits_more : (n : ℕ) (seats : Seats) (d : Deed) (deeds : List Deed) (e : ℕ) → SitsFrom n (behind seats d) deeds e → SitsFrom n seats (d ∷ deeds) e
sits_more n seats d deeds e s =
    let b = at_behind (sessions_by (lane.Editor s.number) seats d) (gather_from (sessions_by (lane.Editor s.number)) (behind seats d) deeds) s.place e s.at in
    record { number = s.number; within = s.within; place = b.0; at = b.1 }

own_lane : (i : ℕ) (l : LaneName) → l ≡ lane.Editor i → same_lane (lane.Editor i) l ≡ true
own_lane i l is = ap (λ x. same_lane (lane.Editor i) x) is ∙ ⊎_elim (λ (t : ((i == i) ≡ true) × (i ≡ i)). t.0) (λ (t : ((i == i) ≡ false) × (i ≢ i)). absurd (t.1 refl)) (eqb_tells i i)

pub said_at : (i : ℕ) (seats : Seats) (d : Deed) (e : ℕ) → d.lane ≡ lane.Editor i → session_in (lane.Editor i) d.entry ≡ e ∷ [] → sessions_by (lane.Editor i) seats d ≡ e ∷ []
said_at i seats d e is said = ap (λ (b : Bool). if b then session_in (lane.Editor i) d.entry else []) (own_lane i d.lane is) ∙ said

sits_first : (n m : ℕ) (seats : Seats) (d : Deed) (deeds : List Deed) (e : ℕ) (t : Links seats (behind seats d) d.lane d.entry) → e ≡ seats.joined → t.seat < n → SitsFrom n seats (d ∷ deeds) e
sits_first n m seats d deeds e t same w = record {
  number = t.seat;
  within = w;
  place = 0;
  at = ap (λ l. slice_get (l ++ gather_from (sessions_by (lane.Editor t.seat)) (behind seats d) deeds) 0) (said_at t.seat seats d seats.joined t.own t.said) ∙ ap Some (sym same);
}

sit_from : (n m : ℕ) (deeds : List Deed) (seats : Seats) (e : ℕ) → FairFrom seats deeds → AllIn n m deeds → seats.joined ≤ e → e < seats.joined + joined (gather_from entries_by seats deeds) → SitsFrom n seats deeds e
sit_from n m [] seats e fair lanes from below = absurd (omega arith)
sit_from n m (d ∷ deeds) seats e fair lanes from below =
    let s = seated seats d.lane d.item d.entry fair.0 in
    let after = behind seats d in
    let a = joined_append (entries_in d.entry) (gather_from entries_by after deeds) in
    ⊎_elim
    (λ t. let x = t.0 in let y = t.1 in sits_more n seats d deeds e (sit_from n m deeds after e fair.1 lanes.1 (omega arith) (omega arith)))
    (λ (t : Links seats after d.lane d.entry). let x = t.one in let y = t.more in
    ⊎_elim
    (λ (u : ((e == seats.joined) ≡ true) × (e ≡ seats.joined)). sits_first n m seats d deeds e t u.1 (within_of n m t.seat d.lane t.own lanes.0))
    (λ (u : ((e == seats.joined) ≡ false) × (e ≢ seats.joined)).
    let apart = u.1 in
    let past : seats.joined + 1 ≤ e = omega arith in
    sits_more n seats d deeds e (sit_from n m deeds after e fair.1 lanes.1 (omega arith) (omega arith)))
    (eqb_tells e seats.joined))
    s.counts

pub editors_sit : EditorsSit
editors_sit n m deeds fair lanes e below =
    let s = sit_from n m deeds (start n m) e fair lanes (omega arith) (omega arith) in
    record { number = s.number; within = s.within; place = s.place; at = s.at }
