-- Each session of an editors' lane but the last one was ended: the history closes it, or it goes.
use Rattle.std.proofs.Common.{◌≡◌, ◌≢◌, ℕ, ◌==◌, ◌<◌, ◌≤◌, List, [], ◌∷◌, ◌++◌, Bool, true, false, if◌then◌else◌, length, refl, sym, ap, ◌∙◌, subst, ⊎_elim, arith, Option, append_assoc}
use Rattle.std.specs.Prelude.{⊤}
use Rattle.std.specs.declared.option.Option.TheVariants.{Some, None}
use Rattle.std.proofs.lemmas.Bool.Decides.{eqb_tells}
use Rattle.mux_history.specs.declared.entry.Entry.{Entry}
use Rattle.mux_history.specs.declared.out.Out.{Out}
use Rattle.mux_history.specs.declared.out.Out.TheVariants as out
use Rattle.mux_history.specs.declared.cause.Cause.{Cause}
use Rattle.mux_history.specs.declared.cause.Cause.TheVariants as cause
use Rattle.mux_history.specs.declared.cause.Why.{Why}
use Rattle.mux_history.specs.declared.cause.Why.TheVariants as why
use Rattle.lane_lists.specs.declared.item.LaneName.{LaneName}
use Rattle.lane_lists.specs.declared.item.LaneName.TheVariants as lane
use Rattle.lane_lists.specs.declared.item.Posted.TheVariants as posted
use Rattle.lane_lists.specs.declared.item.Side.TheVariants as side
use Rattle.lane_lists.specs.declared.item.Item.{Item}
use Rattle.lane_lists.specs.declared.item.Item.TheVariants as item
use Rattle.lane_lists.specs.Seats.{Seats, meaning, joined_behind, on_seat, seat_item}
use Rattle.lane_lists.specs.Deeds.{Deed, Fair, start, behind, gather_from, same_lane, session_in, entries_in, sessions_by, entries_by, FairFrom, Meant, entries, sessions}
use Rattle.lane_lists.specs.History.{Mark, Enters, Told, Closed, Leaves, mark_in, out_mark, out_marks, marks, entered, end_to, end_until}
use Rattle.lane_lists.proofs.Moves.{now_at, did, Ways, by_editor, acted, acted_none, given_like}
use Rattle.lane_lists.proofs.BySession.{Sound, sound_step, step, many_free, sound_start}
use Rattle.lane_lists.proofs.OrderSessions.{muted}

-- what stands before an end leaves one
ends_more : (ms ns : List Mark) → end_until ns ≢ [] → end_until (ms ++ ns) ≢ []
ends_more [] ns h = h
ends_more (Enters ∷ ms) ns h = ends_more ms ns h
ends_more (Told body ∷ ms) ns h = ends_more ms ns h
ends_more (Closed ∷ ms) ns h = λ e. absurd cc
ends_more (Leaves ∷ ms) ns h = λ e. absurd cc

abbrev pub LaterEnds : ℕ → List Entry → List ℕ → Type 0
LaterEnds joined history [] = ⊤
LaterEnds joined history (e ∷ ids) = (joined ≤ e) × (ids ≢ [] → end_to e history ≢ []) × LaterEnds joined history ids

pub record EndsAhead (joined : ℕ) (now : Option ℕ) (history : List Entry) (ids : List ℕ) : Type 0 where
  pub opened : (e : ℕ) → now ≡ Some e → ids ≢ [] → end_until (marks e history) ≢ []
  pub each : LaterEnds joined history ids

entered_out : (e : ℕ) (o : Out) (ms : List Mark) → entered (out_mark e o ++ ms) ≡ entered ms
entered_out e (out.ToEditor n body) ms = elim (n == e) as (λ b. entered ((if b then Told body ∷ [] else []) ++ ms) ≡ entered ms) [ true ↦ refl | false ↦ refl ]
entered_out e (out.CloseEditor n) ms = elim (n == e) as (λ b. entered ((if b then Closed ∷ [] else []) ++ ms) ≡ entered ms) [ true ↦ refl | false ↦ refl ]
entered_out e (out.ToServer s body) ms = refl
entered_out e (out.EndServer s) ms = refl
entered_out e (out.Spawn s group) ms = refl

entered_outs : (e : ℕ) (outs : List Out) (ms : List Mark) → entered (out_marks e outs ++ ms) ≡ entered ms
entered_outs e [] ms = refl
entered_outs e (o ∷ outs) ms = ap entered (append_assoc (out_mark e o) (out_marks e outs) ms) ∙ entered_out e o (out_marks e outs ++ ms) ∙ entered_outs e outs ms

later_more : (joined joined' : ℕ) (c : Cause) (outs : List Out) (history : List Entry) (ids : List ℕ) → joined ≤ joined' → ((e : ℕ) (ms : List Mark) → joined' ≤ e → entered (mark_in e c ++ ms) ≡ entered ms)
    → LaterEnds joined' history ids → LaterEnds joined (record { cause = c; outs = outs } ∷ history) ids
later_more joined joined' c outs history [] up pass z = tt
later_more joined joined' c outs history (e ∷ ids) up pass z =
    let above = z.0 in
    let same : entered (marks e (record { cause = c; outs = outs } ∷ history)) ≡ entered (marks e history) = pass e (out_marks e outs ++ marks e history) above ∙ entered_outs e outs (marks e history) in
    (omega (arith, up, above), (λ h. subst (λ ms. end_until ms ≢ []) (sym same) (z.1 h)), later_more joined joined' c outs history ids up pass z.2)

later_none : (joined joined' : ℕ) (history : List Entry) (ids : List ℕ) → joined ≤ joined' → LaterEnds joined' history ids → LaterEnds joined history ids
later_none joined joined' history [] up z = tt
later_none joined joined' history (e ∷ ids) up z = let above = z.0 in (omega (arith, up, above), z.1, later_none joined joined' history ids up z.2)

count : (seats : Seats) (l : LaneName) (x : Item) (c : Cause) (outs : List Out) → (behind seats (did l x (Some (record { cause = c; outs = outs })))).joined ≡ joined_behind seats.joined c
count seats (lane.Editor j) x c outs = (given_like (on_seat (lane.Editor j) (λ s. seat_item s x) seats) (lane.Editor j) x c outs).joined
count seats (lane.Server j) x c outs = (given_like (on_seat (lane.Server j) (λ s. seat_item s x) seats) (lane.Server j) x c outs).joined
count seats lane.Ticker x c outs = (given_like seats lane.Ticker x c outs).joined

count_none : (seats : Seats) (l : LaneName) (x : Item) → (behind seats (did l x None)).joined ≡ seats.joined
count_none seats (lane.Editor j) x = refl
count_none seats (lane.Server j) x = refl
count_none seats lane.Ticker x = refl

self : (e : ℕ) → (e == e) ≡ true
self e = ⊎_elim (λ t. t.0) (λ t. absurd (t.1 refl)) (eqb_tells e e)

module _ (seats : Seats) (i : ℕ) (within : i < length seats.editors) (history : List Entry) (ids : List ℕ) where
  abbrev after_of : LaneName → Item → Option Entry → Seats
  after_of l x entry = behind seats (did l x entry)

  -- an entry that leaves the editor of the lane as it is
  calm : (l : LaneName) (x : Item) (c : Cause) (outs : List Out) → Meant (meaning seats l x) (Some (record { cause = c; outs = outs })) → now_at i (after_of l x (Some (record { cause = c; outs = outs }))) ≡ now_at i seats
      → EndsAhead (after_of l x (Some (record { cause = c; outs = outs }))).joined (now_at i (after_of l x (Some (record { cause = c; outs = outs })))) history ids → EndsAhead seats.joined (now_at i seats) (record { cause = c; outs = outs } ∷ history) ids
  calm l x c outs m same a =
      let q = muted seats l x (Some (record { cause = c; outs = outs })) m in
      let s = step seats l x (Some (record { cause = c; outs = outs })) m in
      record {
        opened = λ e is more. ends_more (mark_in e c) (out_marks e outs ++ marks e history) (ends_more (out_marks e outs) (marks e history) (a.opened e (same ∙ is) more));
        each = later_more seats.joined (after_of l x (Some (record { cause = c; outs = outs }))).joined c outs history ids s.up (λ e ms h. q.pass e ms (subst (λ (k : ℕ). k ≤ e) (count seats l x c outs) h)) a.each;
      }

  -- an item that gives no entry
  still : (l : LaneName) (x : Item) → now_at i (after_of l x None) ≡ now_at i seats → EndsAhead (after_of l x None).joined (now_at i (after_of l x None)) history ids → EndsAhead seats.joined (now_at i seats) history ids
  still l x same a = record {
    opened = λ e is more. a.opened e (same ∙ is) more;
    each = later_none seats.joined (after_of l x None).joined history ids (let j = count_none seats l x in omega (arith, j)) a.each;
  }

  -- the editor of the lane goes
  gone : (x : Item) (e : ℕ) (w : Why) (outs : List Out) → Some e ≡ now_at i seats → Meant (meaning seats (lane.Editor i) x) (Some (record { cause = cause.EditorGone e w; outs = outs }))
      → EndsAhead (after_of (lane.Editor i) x (Some (record { cause = cause.EditorGone e w; outs = outs }))).joined (now_at i (after_of (lane.Editor i) x (Some (record { cause = cause.EditorGone e w; outs = outs })))) history ids
      → EndsAhead seats.joined (now_at i seats) (record { cause = cause.EditorGone e w; outs = outs } ∷ history) ids
  gone x e w outs is m a =
      let c = cause.EditorGone e w in
      let q = muted seats (lane.Editor i) x (Some (record { cause = c; outs = outs })) m in
      let s = step seats (lane.Editor i) x (Some (record { cause = c; outs = outs })) m in
      record {
        opened = λ n here more.
            let same : e ≡ n = (let b : Some e ≡ Some n = is ∙ here in cc) in
            let says : mark_in n c ≡ Leaves ∷ [] = subst (λ k. mark_in k c ≡ Leaves ∷ []) same (ap (λ (b : Bool). if b then Leaves ∷ [] else []) (self e)) in
            subst (λ ms. end_until (ms ++ (out_marks n outs ++ marks n history)) ≢ []) (sym says) (λ f. absurd cc);
        each = later_more seats.joined (after_of (lane.Editor i) x (Some (record { cause = c; outs = outs }))).joined c outs history ids s.up (λ n ms h. q.pass n ms (subst (λ (k : ℕ). k ≤ n) (count seats (lane.Editor i) x c outs) h)) a.each;
      }

  abbrev Tells : Item → Option Entry → Option ℕ → Bool → Type 0
  Tells x entry now tail = now ≡ now_at i seats → Meant (meaning seats (lane.Editor i) x) entry → EndsAhead (after_of (lane.Editor i) x entry).joined (now_at i (after_of (lane.Editor i) x entry)) history ids
      → EndsAhead seats.joined (now_at i seats) (entries_in entry ++ history) (session_in (lane.Editor i) entry ++ ids)

  own_tells : Ways seats.joined Tells
  own_tells = record {
    link = λ outs is m a.
        let x = item.Posted posted.Link in let c = cause.Joined seats.joined in
        let q = muted seats (lane.Editor i) x (Some (record { cause = c; outs = outs })) m in
        let s = step seats (lane.Editor i) x (Some (record { cause = c; outs = outs })) m in
        let here : now_at i (after_of (lane.Editor i) x (Some (record { cause = c; outs = outs }))) ≡ Some seats.joined = ((acted seats i x c outs).here within).0 in
        let enters : marks seats.joined (record { cause = c; outs = outs } ∷ history) ≡ Enters ∷ (out_marks seats.joined outs ++ marks seats.joined history) =
        ap (λ (b : Bool). (if b then Enters ∷ [] else []) ++ (out_marks seats.joined outs ++ marks seats.joined history)) (self seats.joined) in
        record {
          opened = λ e here more. absurd (let b : None ≡ Some e = is ∙ here in cc);
          each = (
            omega arith,
            (λ more. subst (λ ms. end_until (entered ms) ≢ []) (sym enters) (ends_more (out_marks seats.joined outs) (marks seats.joined history) (a.opened seats.joined here more))),
            later_more seats.joined (after_of (lane.Editor i) x (Some (record { cause = c; outs = outs }))).joined c outs history ids s.up (λ n ms h. q.pass n ms (subst (λ (k : ℕ). k ≤ n) (count seats (lane.Editor i) x c outs) h)) a.each,
          );
        };
    word = λ e tail body outs is m a. calm (lane.Editor i) (item.Posted (posted.Body body)) (cause.FromEditor e body) outs m ((acted seats i (item.Posted (posted.Body body)) (cause.FromEditor e body) outs).here within).0 a;
    over = λ e tail w outs real is m a. gone (item.Posted (posted.Ended w)) e w outs is m a;
    broke = λ e tail outs is m a. gone (item.Side side.Broke) e why.WriteFault outs is m a;
    drained = λ e k tail outs is m a. calm (lane.Editor i) (item.Side side.Wrote) (cause.Drained e k) outs m ((acted seats i (item.Side side.Wrote) (cause.Drained e k) outs).here within).0 a;
    idle = λ s now tail is m a. still (lane.Editor i) (item.Side s) ((acted_none seats i (item.Side s)).here within).0 a;
    late = λ body is m a. still (lane.Editor i) (item.Posted (posted.Body body)) ((acted_none seats i (item.Posted (posted.Body body))).here within).0 a;
    late_end = λ w is m a. still (lane.Editor i) (item.Posted (posted.Ended w)) ((acted_none seats i (item.Posted (posted.Ended w))).here within).0 a;
  }

  elsewhere : (l : LaneName) (x : Item) (entry : Option Entry) → l ≢ lane.Editor i → Meant (meaning seats l x) entry → EndsAhead (after_of l x entry).joined (now_at i (after_of l x entry)) history ids → EndsAhead seats.joined (now_at i seats) (entries_in entry ++ history) ids
  elsewhere l x None apart m a = still l x ((step seats l x None m).other i apart).0 a
  elsewhere l x (Some en) apart m a = calm l x en.cause en.outs m ((step seats l x (Some en) m).other i apart).0 a

  pub ends_deed : (l : LaneName) (x : Item) (entry : Option Entry) → Meant (meaning seats l x) entry → EndsAhead (after_of l x entry).joined (now_at i (after_of l x entry)) history ids
      → EndsAhead seats.joined (now_at i seats) (entries_in entry ++ history) ((if same_lane (lane.Editor i) l then session_in (lane.Editor i) entry else []) ++ ids)
  ends_deed (lane.Server j) x entry m a = elsewhere (lane.Server j) x entry (λ e. absurd cc) m a
  ends_deed lane.Ticker x entry m a = elsewhere lane.Ticker x entry (λ e. absurd cc) m a
  ends_deed (lane.Editor j) x entry m a = ⊎_elim
      (λ (t : ((i == j) ≡ true) × (i ≡ j)).
      subst (λ (b : Bool). EndsAhead seats.joined (now_at i seats) (entries_in entry ++ history) ((if b then session_in (lane.Editor i) entry else []) ++ ids)) (sym t.0)
      (subst (λ (k : ℕ). Meant (meaning seats (lane.Editor k) x) entry → EndsAhead (after_of (lane.Editor k) x entry).joined (now_at i (after_of (lane.Editor k) x entry)) history ids → EndsAhead seats.joined (now_at i seats) (entries_in entry ++ history) (session_in (lane.Editor i) entry ++ ids)) t.1
      (λ m a. by_editor seats.joined Tells own_tells seats i x entry refl m refl m a) m a))
      (λ (t : ((i == j) ≡ false) × (i ≢ j)).
      subst (λ (b : Bool). EndsAhead seats.joined (now_at i seats) (entries_in entry ++ history) ((if b then session_in (lane.Editor i) entry else []) ++ ids)) (sym t.0)
      (elsewhere (lane.Editor j) x entry (λ e. t.1 (let same : j ≡ i = cc in sym same)) m a))
      (eqb_tells i j)

pub all_ends : (i : ℕ) (deeds : List Deed) (seats : Seats) → i < length seats.editors → Sound seats → FairFrom seats deeds
    → EndsAhead seats.joined (now_at i seats) (gather_from entries_by seats deeds) (gather_from (sessions_by (lane.Editor i)) seats deeds)
all_ends i [] seats within sound fair = record { opened = λ e is more. absurd (more refl); each = tt }
all_ends i (d ∷ deeds) seats within sound fair =
    let s = step seats d.lane d.item d.entry fair.0 in
    let after = behind seats d in
    let len = s.len in
    ends_deed seats i within (gather_from entries_by after deeds) (gather_from (sessions_by (lane.Editor i)) after deeds) d.lane d.item d.entry fair.0
    (all_ends i deeds after (omega (arith, len, within)) (sound_step seats after d.lane (entries_in d.entry) s sound) fair.1)

-- each but the last one has an end
abbrev pub AllEnd : List Entry → List ℕ → Type 0
AllEnd history [] = ⊤
AllEnd history (e ∷ ids) = (ids ≢ [] → end_to e history ≢ []) × AllEnd history ids

forget : (history : List Entry) (ids : List ℕ) → LaterEnds 0 history ids → AllEnd history ids
forget history [] z = tt
forget history (e ∷ ids) z = (z.1, forget history ids z.2)

pub by_ends : (n m i : ℕ) (deeds : List Deed) → i < n → Fair n m deeds → AllEnd (entries n m deeds) (sessions n m (lane.Editor i) deeds)
by_ends n m i deeds within fair = forget (entries n m deeds) (sessions n m (lane.Editor i) deeds) (all_ends i deeds (start n m) (let h = many_free n in omega (arith, h, within)) (sound_start n m) fair).each
