-- Each start of which the history has a cause was tried in a servers' lane.
use Rattle.std.proofs.Common.{◌≡◌, ◌≢◌, ℕ, zero, suc, ◌==◌, ◌<◌, List, [], ◌∷◌, ◌++◌, Bool, true, false, if◌then◌else◌, length, refl, sym, ap, ◌∙◌, subst, ◌⊎◌, inl, inr, ⊎_elim, arith, Option, slice_get, append_assoc}
use Rattle.std.specs.declared.option.Option.TheVariants.{Some, None}
use Rattle.std.proofs.lemmas.Bool.Decides.{eqb_tells}
use Rattle.mux_history.specs.declared.entry.Entry.{Entry}
use Rattle.mux_history.specs.declared.out.Out.{Out}
use Rattle.mux_history.specs.declared.cause.Cause.{Cause}
use Rattle.mux_history.specs.declared.cause.Cause.TheVariants as cause
use Rattle.mux_history.specs.declared.cause.Why.TheVariants as why
use Rattle.lane_lists.specs.declared.item.LaneName.{LaneName}
use Rattle.lane_lists.specs.declared.item.LaneName.TheVariants as lane
use Rattle.lane_lists.specs.declared.item.Posted.TheVariants as posted
use Rattle.lane_lists.specs.declared.item.Side.TheVariants as side
use Rattle.lane_lists.specs.declared.item.Item.{Item}
use Rattle.lane_lists.specs.declared.item.Item.TheVariants as item
use Rattle.lane_lists.specs.Seats.{Seat, Seats, seat_at, meaning, is_now, on_seat, seat_cause, seat_item}
use Rattle.lane_lists.specs.Deeds.{Deed, start, behind, gather_from, same_lane, entries_in, entries_by, FairFrom, Meant}
use Rattle.lane_lists.specs.Starts.{start_of}
use Rattle.lane_lists.specs.StartHistory.{cause_from, causes_from, tried_of, tried_by}
use Rattle.lane_lists.specs.Origins.{StartsTriedIn}
use Rattle.lane_lists.proofs.Moves.{caused, did, Ways, by_editor, means, stray}
use Rattle.lane_lists.proofs.BySession.{all_free, many_free}
use Rattle.lane_lists.proofs.StartMoves.{held, held_seat, held_at, start_at, StartWays, by_try, StartActed, start_acted, start_acted_none, Kept, given_kept}
use Rattle.lane_lists.proofs.ByStart.{server_len}
use Rattle.lane_lists.proofs.Sitting.{at_behind}

-- this start is tried by a deed of this lane
pub record Tries (seats : Seats) (l : LaneName) (entry : Option Entry) (s : ℕ) : Type 0 where
  pub number : ℕ
  pub within : number < length seats.servers
  pub own : l ≡ lane.Server number
  pub said : tried_of entry ≡ s ∷ []

abbrev Down : Seats → ℕ → Type 0
Down seats s = (k : ℕ) → held_at k seats ≢ Some s

-- a deed behind which the start isn't up, or that tries it
abbrev Goes : Seats → Seats → LaneName → Option Entry → ℕ → Type 0
Goes seats after l entry s = ((causes_from s (entries_in entry) ≡ []) × Down after s) ⊎ Tries seats l entry s

other_test : (e n : ℕ) → e ≢ n → (e == n) ≡ false
other_test e n h = ⊎_elim (λ (t : ((e == n) ≡ true) × (e ≡ n)). absurd (h t.1)) (λ (t : ((e == n) ≡ false) × (e ≢ n)). t.0) (eqb_tells e n)

-- a cause of another start
not_from : (s n : ℕ) (c : Cause) (outs : List Out) → start_of c ≡ Some n → n ≢ s → causes_from s (record { cause = c; outs = outs } ∷ []) ≡ []
not_from s n c outs is apart = ap (λ (o : Option ℕ). (if is_now o s then c ∷ [] else []) ++ []) is ∙ ap (λ (b : Bool). (if b then c ∷ [] else []) ++ []) (other_test n s apart)

held_within : (l : List Seat) (k s : ℕ) → held_seat (seat_at k l) ≡ Some s → k < length l
held_within [] k s h = absurd cc
held_within (x ∷ xs) zero s h = omega arith
held_within (x ∷ xs) (suc k) s h = let r = held_within xs k s h in omega arith

now_within : (l : List Seat) (k s : ℕ) → (seat_at k l).now ≡ Some s → k < length l
now_within [] k s h = absurd cc
now_within (x ∷ xs) zero s h = omega arith
now_within (x ∷ xs) (suc k) s h = let r = now_within xs k s h in omega arith

module _ (seats : Seats) (s : ℕ) (down : Down seats s) where
  -- behind a deed of a servers' lane that leaves it another start, or none
  down_behind : (after : Seats) (j : ℕ) (seat : Seat) → StartActed seats after j seat → held_seat seat ≢ Some s → Down after s
  down_behind after j seat a apart k h = ⊎_elim
      (λ (t : ((k == j) ≡ true) × (k ≡ j)).
      let here : held_at j after ≡ Some s = subst (λ (i : ℕ). held_at i after ≡ Some s) t.1 h in
      let w = held_within after.servers j s here in
      let len = a.len in
      apart (sym (a.here (omega arith)).0 ∙ here))
      (λ (t : ((k == j) ≡ false) × (k ≢ j)). down k (sym (a.other k t.1).0 ∙ h)) (eqb_tells k j)

  elsewhere : (after : Seats) → ((k : ℕ) → held_at k after ≡ held_at k seats) → Down after s
  elsewhere after same k h = down k (sym (same k) ∙ h)

  module _ (j : ℕ) where
    abbrev next : Item → Option Entry → Seats
    next x entry = behind seats (did (lane.Server j) x entry)

    abbrev So : Item → Option Entry → Option ℕ → Bool → Bool → Type 0
    So x entry now up tail = now ≡ start_at j seats → up ≡ (seat_at j seats.servers).up → Goes seats (next x entry) (lane.Server j) entry s

    -- the start that is up there is another
    other : (n : ℕ) (up : Bool) → Some n ≡ start_at j seats → true ≡ (seat_at j seats.servers).up → n ≢ s
    other n up is u same = down j (ap (λ (b : Bool). held (start_at j seats) b) (sym u) ∙ ap (λ (o : Option ℕ). held o true) (sym is) ∙ ap Some same)

    tries : (n : ℕ) (x : Item) (c : Cause) (outs : List Out) → Some n ≡ start_at j seats → start_of c ≡ Some n → tried_of (Some (record { cause = c; outs = outs })) ≡ n ∷ [] → (held_seat (seat_cause (seat_item (seat_at j seats.servers) x) x c) ≡ Some s → n ≡ s)
        → Goes seats (next x (Some (record { cause = c; outs = outs }))) (lane.Server j) (Some (record { cause = c; outs = outs })) s
    tries n x c outs is from said mine = ⊎_elim
        (λ (t : ((n == s) ≡ true) × (n ≡ s)). inr (record { number = j; within = now_within seats.servers j n (sym is); own = refl; said = said ∙ ap (λ (k : ℕ). k ∷ []) t.1 }))
        (λ (t : ((n == s) ≡ false) × (n ≢ s)). inl (not_from s n c outs from t.1, down_behind (next x (Some (record { cause = c; outs = outs }))) j (seat_cause (seat_item (seat_at j seats.servers) x) x c) (start_acted seats j x c outs) (λ h. t.1 (mine h))))
        (eqb_tells n s)

    goes : (n : ℕ) (x : Item) (c : Cause) (outs : List Out) → n ≢ s → start_of c ≡ Some n → held_seat (seat_cause (seat_item (seat_at j seats.servers) x) x c) ≢ Some s
        → Goes seats (next x (Some (record { cause = c; outs = outs }))) (lane.Server j) (Some (record { cause = c; outs = outs })) s
    goes n x c outs apart from off = inl (not_from s n c outs from apart, down_behind (next x (Some (record { cause = c; outs = outs }))) j (seat_cause (seat_item (seat_at j seats.servers) x) x c) (start_acted seats j x c outs) off)

    silent_one : (x : Item) → held_seat (seat_item (seat_at j seats.servers) x) ≡ held_at j seats → Goes seats (next x None) (lane.Server j) None s
    silent_one x same = inl (refl, down_behind (next x None) j (seat_item (seat_at j seats.servers) x) (start_acted_none seats j x) (λ h. down j (sym same ∙ h)))

    try_ways : StartWays So
    try_ways = record {
      up = λ n outs is u. tries n (item.Posted posted.Up) (cause.Started n) outs is refl refl (λ h. let now : held (start_at j seats) true ≡ Some s = h in let same : Some n ≡ Some s = ap (λ (o : Option ℕ). held o true) is ∙ now in cc);
      failed = λ n outs is u. tries n (item.Posted posted.NoStart) (cause.StartFailed n) outs is refl refl (λ h. absurd cc);
      word = λ n tail body outs is u. goes n (item.Posted (posted.Body body)) (cause.FromServer n body) outs (other n true is u) refl (down j);
      over = λ n tail w outs real is u. goes n (item.Posted (posted.Ended w)) (cause.ServerGone n) outs (other n true is u) refl (λ h. absurd cc);
      broke = λ n tail outs is u. goes n (item.Side side.Broke) (cause.ServerGone n) outs (other n true is u) refl (λ h. absurd cc);
      idle = λ x now up tail is u. silent_one (item.Side x) refl;
      late = λ body now up h is u. silent_one (item.Posted (posted.Body body)) refl;
      late_end = λ w now up h is u. silent_one (item.Posted (posted.Ended w)) refl;
    }

    pub server_goes : (x : Item) (entry : Option Entry) → Meant (meaning seats (lane.Server j) x) entry → Goes seats (next x entry) (lane.Server j) entry s
    server_goes x entry m = by_try So try_ways seats j x entry m refl refl

  -- a deed of another lane
  far : (l : LaneName) (x : Item) (c : Cause) (outs : List Out) (mid : Seats) → start_of c ≡ None → mid.servers ≡ seats.servers → Kept mid.servers (behind seats (did l x (Some (record { cause = c; outs = outs })))).servers
      → Goes seats (behind seats (did l x (Some (record { cause = c; outs = outs })))) l (Some (record { cause = c; outs = outs })) s
  far l x c outs mid none same kept =
      inl (ap (λ (o : Option ℕ). (if is_now o s then c ∷ [] else []) ++ []) none, elsewhere (behind seats (did l x (Some (record { cause = c; outs = outs })))) (λ k. kept.held k ∙ ap (λ es. held_seat (seat_at k es)) same))

  module _ (j : ℕ) where
    abbrev E : Item → Option Entry → Type 0
    E x entry = Goes seats (behind seats (did (lane.Editor j) x entry)) (lane.Editor j) entry s

    near : (x : Item) (c : Cause) (outs : List Out) → start_of c ≡ None → E x (Some (record { cause = c; outs = outs }))
    near x c outs none =
        let mid = on_seat (lane.Editor j) (λ t. seat_item t x) seats in
        far (lane.Editor j) x c outs (caused mid (lane.Editor j) x c) none refl (given_kept mid (lane.Editor j) x c outs)

    near_none : (x : Item) → E x None
    near_none x = inl (refl, elsewhere (behind seats (did (lane.Editor j) x None)) (λ k. refl))

    editor_ways : Ways seats.joined (λ x entry now tail. E x entry)
    editor_ways = record {
      link = λ outs. near (item.Posted posted.Link) (cause.Joined seats.joined) outs refl;
      word = λ e tail body outs. near (item.Posted (posted.Body body)) (cause.FromEditor e body) outs refl;
      over = λ e tail w outs real. near (item.Posted (posted.Ended w)) (cause.EditorGone e w) outs refl;
      broke = λ e tail outs. near (item.Side side.Broke) (cause.EditorGone e why.WriteFault) outs refl;
      drained = λ e k tail outs. near (item.Side side.Wrote) (cause.Drained e k) outs refl;
      idle = λ x now tail. near_none (item.Side x);
      late = λ body. near_none (item.Posted (posted.Body body));
      late_end = λ w. near_none (item.Posted (posted.Ended w));
    }

  abbrev T : Item → Option Entry → Type 0
  T x entry = Goes seats (behind seats (did lane.Ticker x entry)) lane.Ticker entry s

  ticks : (x : Item) (entry : Option Entry) → Meant (meaning seats lane.Ticker x) entry → T x entry
  ticks (item.Posted (posted.Tick t)) entry m =
      means (cause.Tick t) (T (item.Posted (posted.Tick t))) entry (λ outs. far lane.Ticker (item.Posted (posted.Tick t)) (cause.Tick t) outs (caused seats lane.Ticker (item.Posted (posted.Tick t)) (cause.Tick t)) refl refl (given_kept seats lane.Ticker (item.Posted (posted.Tick t)) (cause.Tick t) outs)) m
  ticks (item.Posted posted.Link) entry m = stray (T (item.Posted posted.Link)) entry m
  ticks (item.Posted posted.Up) entry m = stray (T (item.Posted posted.Up)) entry m
  ticks (item.Posted posted.NoStart) entry m = stray (T (item.Posted posted.NoStart)) entry m
  ticks (item.Posted (posted.Body body)) entry m = stray (T (item.Posted (posted.Body body))) entry m
  ticks (item.Posted (posted.Ended w)) entry m = stray (T (item.Posted (posted.Ended w))) entry m
  ticks (item.Side x) entry m = stray (T (item.Side x)) entry m

  pub one_goes : (l : LaneName) (x : Item) (entry : Option Entry) → Meant (meaning seats l x) entry → Goes seats (behind seats (did l x entry)) l entry s
  one_goes (lane.Server j) x entry m = server_goes j x entry m
  one_goes (lane.Editor j) x entry m = by_editor seats.joined (λ y e now tail. E j y e) (editor_ways j) seats j x entry refl m
  one_goes lane.Ticker x entry m = ticks x entry m

-- how many servers' lanes there are stays
servers_len : (seats : Seats) (l : LaneName) (x : Item) (entry : Option Entry) → length (behind seats (did l x entry)).servers ≡ length seats.servers
servers_len seats l x entry = server_len l x entry seats

pub record TriedFrom (m : ℕ) (seats : Seats) (deeds : List Deed) (s : ℕ) : Type 0 where
  pub number : ℕ
  pub within : number < m
  pub place : ℕ
  pub at : slice_get (gather_from (tried_by (lane.Server number)) seats deeds) place ≡ Some s

causes_append : (s : ℕ) (a b : List Entry) → causes_from s (a ++ b) ≡ causes_from s a ++ causes_from s b
causes_append s [] b = refl
causes_append s (en ∷ a) b = ap (λ l. cause_from s en.cause ++ l) (causes_append s a b) ∙ sym (append_assoc (cause_from s en.cause) (causes_from s a) (causes_from s b))

tried_from : (m : ℕ) (deeds : List Deed) (seats : Seats) (s : ℕ) → FairFrom seats deeds → length seats.servers ≡ m → Down seats s → causes_from s (gather_from entries_by seats deeds) ≢ [] → TriedFrom m seats deeds s
tried_from m [] seats s fair len down some = absurd (some refl)
tried_from m (d ∷ deeds) seats s fair len down some =
    let after = behind seats d in
    let rest = gather_from entries_by after deeds in
    ⊎_elim
    (λ t.
    let r = tried_from m deeds after s fair.1 (servers_len seats d.lane d.item d.entry ∙ len) t.1 (λ none. some (causes_append s (entries_in d.entry) rest ∙ ap (λ l. l ++ causes_from s rest) t.0 ∙ none)) in
    let b = at_behind (tried_by (lane.Server r.number) seats d) (gather_from (tried_by (lane.Server r.number)) after deeds) r.place s r.at in
    record { number = r.number; within = r.within; place = b.0; at = b.1 })
    (λ (t : Tries seats d.lane d.entry s).
    let w = t.within in
    let mine : same_lane (lane.Server t.number) d.lane ≡ true = ap (λ l. same_lane (lane.Server t.number) l) t.own ∙ ⊎_elim (λ (u : ((t.number == t.number) ≡ true) × (t.number ≡ t.number)). u.0) (λ (u : ((t.number == t.number) ≡ false) × (t.number ≢ t.number)). absurd (u.1 refl)) (eqb_tells t.number t.number) in
    let said : tried_by (lane.Server t.number) seats d ≡ s ∷ [] = ap (λ (b : Bool). if b then tried_of d.entry else []) mine ∙ t.said in
    record { number = t.number; within = omega arith; place = 0; at = ap (λ l. slice_get (l ++ gather_from (tried_by (lane.Server t.number)) after deeds) 0) said })
    (one_goes seats s down d.lane d.item d.entry fair.0)

pub starts_tried_in : StartsTriedIn
starts_tried_in n m deeds fair s some =
    let t = tried_from m deeds (start n m) s fair (many_free m) (λ k h. let none : None ≡ Some s = sym (ap held_seat (all_free m k)) ∙ h in absurd cc) some in
    record { number = t.number; within = t.within; place = t.place; at = t.at }
