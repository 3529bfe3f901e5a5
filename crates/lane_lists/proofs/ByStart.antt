-- The posted items of a servers' lane are, start by start, what the history says of the starts that were tried in it.
use Rattle.std.proofs.Common.{◌≡◌, ◌≢◌, ℕ, zero, suc, ◌+◌, ◌==◌, ◌<◌, ◌≤◌, List, [], ◌∷◌, ◌++◌, Bool, true, false, if◌then◌else◌, length, refl, sym, ap, ◌∙◌, subst, ◌⊎◌, inl, inr, ⊎_elim, arith, Option, slice_set}
use Rattle.std.specs.Prelude.{⊤}
use Rattle.std.specs.declared.option.Option.TheVariants.{Some, None}
use Rattle.std.proofs.lemmas.Bool.Decides.{eqb_tells}
use Rattle.mux_history.specs.declared.entry.Entry.{Entry}
use Rattle.mux_history.specs.declared.out.Out.{Out}
use Rattle.mux_history.specs.declared.cause.Cause.{Cause}
use Rattle.mux_history.specs.declared.cause.Cause.TheVariants as cause
use Rattle.mux_history.specs.Cores.{spawns, spawns_of_outs}
use Rattle.lane_lists.specs.declared.item.LaneName.{LaneName}
use Rattle.lane_lists.specs.declared.item.LaneName.TheVariants as lane
use Rattle.lane_lists.specs.declared.item.Posted.{Posted}
use Rattle.lane_lists.specs.declared.item.Posted.TheVariants as posted
use Rattle.lane_lists.specs.declared.item.Side.TheVariants as side
use Rattle.lane_lists.specs.declared.item.Item.{Item}
use Rattle.lane_lists.specs.declared.item.Item.TheVariants as item
use Rattle.lane_lists.specs.Seats.{Seat, Seats, seat_at, is_now, meaning, seat_cause, seat_item, on_seat}
use Rattle.lane_lists.specs.Sessions.{chain}
use Rattle.lane_lists.specs.Deeds.{Deed, start, behind, gather_from, gather, same_lane, posted_in, entries_in, posts_by, entries_by, FairFrom, Meant, entries, posts}
use Rattle.lane_lists.specs.Starts.{start_of}
use Rattle.lane_lists.specs.StartHistory.{cause_from, causes_from, tried_of, tried_by, went, went_of, went_by, StartSessions}
use Rattle.lane_lists.proofs.Ahead.{no_late}
use Rattle.lane_lists.proofs.Moves.{set_like, caused, did}
use Rattle.lane_lists.proofs.BySession.{all_free, many_free}
use Rattle.lane_lists.proofs.ByOrders.{within_now, is_now_is}
use Rattle.lane_lists.proofs.Tally.{hit, seated, total, item_keeps, entry_total, deed_total, seated_one, seated_apart, seated_same, spawns_append, none_seated}
use Rattle.lane_lists.proofs.StartLanes.{by_start, no_start_editor, no_start_ticker}
use Rattle.lane_lists.proofs.StartMoves.{held, held_seat, held_at, late_at, start_at, held_now, given_kept, StartWays, by_try, start_acted, start_acted_none}
use Rattle.lane_lists.proofs.StartAhead.{StartAhead, unwent, is_try, untried, cause_other, ahead_other, ahead_up, ahead_failed, ahead_word, ahead_over, ahead_broke, ahead_late, ahead_late_end}

-- the lane that has the start of a cause
pub record StartHere (seats : Seats) (l : LaneName) (s : ℕ) : Type 0 where
  pub place : ℕ
  pub lane : l ≡ lane.Server place
  pub now : start_at place seats ≡ Some s

abbrev HereIn : Seats → LaneName → Option ℕ → Option Entry → Type 0
HereIn seats l now None = ⊤
HereIn seats l now (Some en) = start_of en.cause ≡ now

pub start_here : (seats : Seats) (l : LaneName) (x : Item) (en : Entry) (s : ℕ) → Meant (meaning seats l x) (Some en) → start_of en.cause ≡ Some s → StartHere seats l s
start_here seats (lane.Editor j) x en s m is = let f : None ≡ Some s = sym (no_start_editor seats j x (Some en) m) ∙ is in absurd cc
start_here seats lane.Ticker x en s m is = let f : None ≡ Some s = sym (no_start_ticker seats x (Some en) m) ∙ is in absurd cc
start_here seats (lane.Server j) x en s m is =
    let same : start_of en.cause ≡ start_at j seats = by_start (λ now e. HereIn seats (lane.Server j) now e) (λ now. tt) (λ now c outs f of. of) seats j x (Some en) m in
    record { place = j; lane = refl; now = sym same ∙ is }

-- a start that a write takes out of a lane
seated_off : (s : ℕ) (f : Seat → Seat) (l : List Seat) (j : ℕ) → (seat_at j l).now ≡ Some s → (f (seat_at j l)).now ≡ None → seated s (slice_set l j (f (seat_at j l))) + 1 ≤ seated s l
seated_off s f [] j is off = absurd cc
seated_off s f (x ∷ xs) zero is off =
    let t : is_now x.now s ≡ true = ap (λ o. is_now o s) is ∙ (grind arith) in
    let h : hit s x.now ≡ 1 = ap (λ (b : Bool). if b then 1 else 0) t in
    let z : hit s (f x).now ≡ 0 = ap (hit s) off in omega arith
seated_off s f (x ∷ xs) (suc j) is off = let r = seated_off s f xs j is off in omega arith

leaves : (s : ℕ) (seats : Seats) (j : ℕ) (x : Item) (c : Cause) (outs : List Out) → start_at j seats ≡ Some s → ((t : Seat) → (seat_cause t x c).now ≡ None)
    → total s (behind seats (did (lane.Server j) x (Some (record { cause = c; outs = outs })))) + 1 ≤ total s seats + spawns_of_outs s outs
leaves s seats j x c outs is off =
    let l : List Seat = slice_set seats.servers j (seat_item (seat_at j seats.servers) x) in
    let still : (seat_at j l).now ≡ Some s = set_like (λ s. s.now) (λ s. seat_item s x) (item_keeps x) seats.servers j j ∙ is in
    let q = seated_off s (λ t. seat_cause t x c) l j still (off (seat_at j l)) in
    let a = entry_total s (on_seat (lane.Server j) (λ t. seat_item t x) seats) (lane.Server j) x c outs in
    let b = seated_same s (λ t. seat_item t x) seats.servers j (item_keeps x) in omega arith

-- behind its deed a start is up, or it left its lane
abbrev Stays : Seats → ℕ → Item → Option Entry → Option ℕ → Bool → Type 0
Stays seats j x None now up = ⊤
Stays seats j x (Some en) now up = now ≡ start_at j seats → up ≡ (seat_at j seats.servers).up → (s : ℕ) → start_at j seats ≡ Some s
    → (held_at j (behind seats (did (lane.Server j) x (Some en))) ≡ Some s) ⊎ (total s (behind seats (did (lane.Server j) x (Some en))) + 1 ≤ total s seats + spawns_of_outs s en.outs)

stays : (seats : Seats) (j : ℕ) (x : Item) (en : Entry) (s : ℕ) → Meant (meaning seats (lane.Server j) x) (Some en) → start_at j seats ≡ Some s
    → (held_at j (behind seats (did (lane.Server j) x (Some en))) ≡ Some s) ⊎ (total s (behind seats (did (lane.Server j) x (Some en))) + 1 ≤ total s seats + spawns_of_outs s en.outs)
stays seats j x en s m here = by_try (λ x entry now up tail. Stays seats j x entry now up) (record {
  up = λ n outs is so s at.
      inl (((start_acted seats j (item.Posted posted.Up) (cause.Started n) outs).here (within_now seats.servers j s at)).0 ∙ ap (λ (o : Option ℕ). held o true) at);
  failed = λ n outs is so s at. inr (leaves s seats j (item.Posted posted.NoStart) (cause.StartFailed n) outs at (λ t. refl));
  word = λ n tail body outs is so s at.
      inl (((start_acted seats j (item.Posted (posted.Body body)) (cause.FromServer n body) outs).here (within_now seats.servers j s at)).0 ∙ ap (λ (b : Bool). held (start_at j seats) b) (sym so) ∙ ap (λ (o : Option ℕ). held o true) at);
  over = λ n tail w outs real is so s at. inr (leaves s seats j (item.Posted (posted.Ended w)) (cause.ServerGone n) outs at (λ t. refl));
  broke = λ n tail outs is so s at. inr (leaves s seats j (item.Side side.Broke) (cause.ServerGone n) outs at (λ t. refl));
  idle = λ s now up tail. tt;
  late = λ body now up h. tt;
  late_end = λ w now up h. tt;
}) seats j x (Some en) m refl refl s here

-- a start that is up isn't tried
abbrev Untries : Option Entry → Option ℕ → Bool → Type 0
Untries None now up = ⊤
Untries (Some en) now up = (s : ℕ) → held now up ≡ Some s → is_try en.cause ≡ false

no_try : (seats : Seats) (j : ℕ) (x : Item) (en : Entry) (s : ℕ) → Meant (meaning seats (lane.Server j) x) (Some en) → held_at j seats ≡ Some s → is_try en.cause ≡ false
no_try seats j x en s m here = by_try (λ x entry now up tail. Untries entry now up) (record {
  up = λ n outs s is. absurd cc;
  failed = λ n outs s is. absurd cc;
  word = λ n tail body outs s is. refl;
  over = λ n tail w outs real s is. refl;
  broke = λ n tail outs s is. refl;
  idle = λ s now up tail. tt;
  late = λ body now up h. tt;
  late_end = λ w now up h. tt;
}) seats j x (Some en) m s here

-- a deed of another lane
pub record Apart (seats after : Seats) (k : ℕ) : Type 0 where
  pub held : held_at k after ≡ held_at k seats
  pub tail : late_at k after ≡ late_at k seats

servers_same : (l : LaneName) (x : Item) (seats : Seats) → ((j : ℕ) → l ≢ lane.Server j) → (on_seat l (λ s. seat_item s x) seats).servers ≡ seats.servers
servers_same (lane.Editor j) x seats off = refl
servers_same lane.Ticker x seats off = refl
servers_same (lane.Server j) x seats off = absurd (off j refl)

caused_same : (l : LaneName) (x : Item) (c : Cause) (seats : Seats) → ((j : ℕ) → l ≢ lane.Server j) → (caused seats l x c).servers ≡ seats.servers
caused_same (lane.Editor j) x c seats off = refl
caused_same lane.Ticker x c seats off = refl
caused_same (lane.Server j) x c seats off = absurd (off j refl)

elsewhere : (l : LaneName) (x : Item) (entry : Option Entry) (seats : Seats) (k : ℕ) → ((j : ℕ) → l ≢ lane.Server j) → Apart seats (behind seats (did l x entry)) k
elsewhere l x None seats k off = let e = servers_same l x seats off in record { held = ap (λ t. held_seat (seat_at k t)) e; tail = ap (λ t. (seat_at k t).tail) e }
elsewhere l x (Some en) seats k off =
    let mid = on_seat l (λ s. seat_item s x) seats in
    let g = given_kept mid l x en.cause en.outs in
    let e : (caused mid l x en.cause).servers ≡ seats.servers = caused_same l x en.cause mid off ∙ servers_same l x seats off in
    record { held = g.held k ∙ ap (λ t. held_seat (seat_at k t)) e; tail = g.tail k ∙ ap (λ t. (seat_at k t).tail) e }

pub other_lane : (l : LaneName) (x : Item) (entry : Option Entry) (seats : Seats) (k : ℕ) → l ≢ lane.Server k → Apart seats (behind seats (did l x entry)) k
other_lane (lane.Editor j) x entry seats k off = elsewhere (lane.Editor j) x entry seats k (λ n. λ e. absurd cc)
other_lane lane.Ticker x entry seats k off = elsewhere lane.Ticker x entry seats k (λ n. λ e. absurd cc)
other_lane (lane.Server j) x None seats k off = let a = (start_acted_none seats j x).other k (λ e. off (ap lane.Server (sym e))) in record { held = a.0; tail = a.1 }
other_lane (lane.Server j) x (Some en) seats k off = let a = (start_acted seats j x en.cause en.outs).other k (λ e. off (ap lane.Server (sym e))) in record { held = a.0; tail = a.1 }

pub server_len : (l : LaneName) (x : Item) (entry : Option Entry) (seats : Seats) → length (behind seats (did l x entry)).servers ≡ length seats.servers
server_len (lane.Editor j) x None seats = refl
server_len lane.Ticker x None seats = refl
server_len (lane.Editor j) x (Some en) seats = (given_kept (on_seat (lane.Editor j) (λ s. seat_item s x) seats) (lane.Editor j) x en.cause en.outs).len
server_len lane.Ticker x (Some en) seats = (given_kept seats lane.Ticker x en.cause en.outs).len
server_len (lane.Server j) x None seats = (start_acted_none seats j x).len
server_len (lane.Server j) x (Some en) seats = (start_acted seats j x en.cause en.outs).len

pub item_held : (x : Item) (s : Seat) → held_seat (seat_item s x) ≡ held_seat s
item_held (item.Side t) s = refl
item_held (item.Posted posted.Link) s = refl
item_held (item.Posted posted.Up) s = refl
item_held (item.Posted posted.NoStart) s = refl
item_held (item.Posted (posted.Body body)) s = refl
item_held (item.Posted (posted.Ended w)) s = refl
item_held (item.Posted (posted.Tick t)) s = refl

none_held : (l : LaneName) (x : Item) (seats : Seats) (k : ℕ) → held_at k (behind seats (did l x None)) ≡ held_at k seats
none_held (lane.Editor j) x seats k = refl
none_held lane.Ticker x seats k = refl
none_held (lane.Server j) x seats k = set_like held_seat (λ s. seat_item s x) (item_held x) seats.servers j k

-- a start that is nowhere, and is spawned no more: nothing is of it
quiet_deed : (l : LaneName) (x : Item) (entry : Option Entry) (seats : Seats) (s : ℕ) (history : List Entry) → Meant (meaning seats l x) entry → seated s seats.servers ≡ 0 → causes_from s history ≡ [] → causes_from s (entries_in entry ++ history) ≡ []
quiet_deed l x None seats s history m none q = q
quiet_deed l x (Some en) seats s history m none q =
    ap (λ cs. cs ++ causes_from s history) (cause_other s en.cause (λ is. let here = start_here seats l x en s m is in let one = seated_one s seats.servers here.place here.now in absurd (omega arith))) ∙ q

pub quiet : (deeds : List Deed) (seats : Seats) (s : ℕ) → FairFrom seats deeds → total s seats + spawns s (gather_from entries_by seats deeds) ≡ 0 → causes_from s (gather_from entries_by seats deeds) ≡ []
quiet [] seats s fair none = refl
quiet (d ∷ deeds) seats s fair none =
    let rest = gather_from entries_by (behind seats d) deeds in
    let h = deed_total s seats d.lane d.item d.entry fair.0 in
    let e = spawns_append s (entries_in d.entry) rest in
    quiet_deed d.lane d.item d.entry seats s rest fair.0 (omega arith) (quiet deeds (behind seats d) s fair.1 (omega arith))

-- a start that is up is tried no more
tried_deed : (l : LaneName) (x : Item) (entry : Option Entry) (seats : Seats) (s j : ℕ) (history : List Entry) → Meant (meaning seats l x) entry → seated s seats.servers ≤ 1 → held_at j seats ≡ Some s
    → (held_at j (behind seats (did l x entry)) ≡ Some s → untried (causes_from s history) ≡ false) → untried (causes_from s (entries_in entry ++ history)) ≡ false
tried_deed l x None seats s j history m one here more = more (none_held l x seats j ∙ here)
tried_deed l x (Some en) seats s j history m one here more = (elim (is_now (start_of en.cause) s) as (λ b. is_now (start_of en.cause) s ≡ b → untried ((if b then en.cause ∷ [] else []) ++ causes_from s history) ≡ false) [
  | true ↦ λ is.
      let at = start_here seats l x en s m (is_now_is (start_of en.cause) s is) in
      let now = held_now (start_at j seats) (seat_at j seats.servers).up s here in
      let same : at.place ≡ j = seated_apart s seats.servers at.place j one at.now now.0 in
      no_try seats j x en s (subst (λ (n : ℕ). Meant (meaning seats (lane.Server n) x) (Some en)) same (subst (λ (l : LaneName). Meant (meaning seats l x) (Some en)) at.lane m)) here
  | false ↦ λ is.
      let now = held_now (start_at j seats) (seat_at j seats.servers).up s here in
      more ((other_lane l x (Some en) seats j (λ own.
      let of : start_of en.cause ≡ start_at j seats = by_start (λ now e. HereIn seats (lane.Server j) now e) (λ now. tt) (λ now c outs f of. of) seats j x (Some en) (subst (λ (l : LaneName). Meant (meaning seats l x) (Some en)) own m) in
      let t : is_now (Some s) s ≡ true = grind arith in
      let f : true ≡ false = sym t ∙ ap (λ o. is_now o s) (sym (of ∙ now.0)) ∙ is in absurd cc)).held ∙ here)
]) refl

pub tried_past : (deeds : List Deed) (seats : Seats) (s j : ℕ) → FairFrom seats deeds → total s seats + spawns s (gather_from entries_by seats deeds) ≤ 1 → held_at j seats ≡ Some s → untried (causes_from s (gather_from entries_by seats deeds)) ≡ false
tried_past [] seats s j fair once here = refl
tried_past (d ∷ deeds) seats s j fair once here =
    let rest = gather_from entries_by (behind seats d) deeds in
    let h = deed_total s seats d.lane d.item d.entry fair.0 in
    let e = spawns_append s (entries_in d.entry) rest in
    tried_deed d.lane d.item d.entry seats s j rest fair.0 (omega arith) here (λ there. tried_past deeds (behind seats d) s j fair.1 (omega arith) there)

-- the start of an entry isn't tried behind it
past_deed : (l : LaneName) (x : Item) (en : Entry) (seats : Seats) (deeds : List Deed) (s : ℕ) → Meant (meaning seats l x) (Some en) → FairFrom (behind seats (did l x (Some en))) deeds
    → total s seats + spawns s (en ∷ gather_from entries_by (behind seats (did l x (Some en))) deeds) ≤ 1 → start_of en.cause ≡ Some s → untried (causes_from s (gather_from entries_by (behind seats (did l x (Some en))) deeds)) ≡ false
past_deed l x en seats deeds s m fair once is =
    let at = start_here seats l x en s m is in
    let after = behind seats (did l x (Some en)) in
    let rest = gather_from entries_by after deeds in
    let h = deed_total s seats l x (Some en) m in
    let own : behind seats (did (lane.Server at.place) x (Some en)) ≡ after = ap (λ l. behind seats (did l x (Some en))) (sym at.lane) in
    ⊎_elim
    (λ up. tried_past deeds after s at.place fair (omega arith) (ap (λ t. held_at at.place t) (sym own) ∙ up))
    (λ off. let off' : total s after + 1 ≤ total s seats + spawns_of_outs s en.outs = subst (λ (t : Seats). total s t + 1 ≤ total s seats + spawns_of_outs s en.outs) own off in ap untried (quiet deeds after s fair (omega arith)))
    (stays seats at.place x en s (subst (λ (l : LaneName). Meant (meaning seats l x) (Some en)) at.lane m) at.now)

-- one deed before what is ahead
start_ahead_at : (held held' : Option ℕ) (tail tail' : Bool) (history : List Entry) (by : ℕ → List Item) (items : List Posted) (ids : List ℕ) → held ≡ held' → tail ≡ tail' → StartAhead held tail history by items ids → StartAhead held' tail' history by items ids
start_ahead_at held held' tail tail' history by items ids h t a = subst (λ (x : Bool). StartAhead held' x history by items ids) t (subst (λ (x : Option ℕ). StartAhead x tail history by items ids) h a)

module _ (seats : Seats) (i : ℕ) (within : i < length seats.servers) (history : List Entry) (by : ℕ → List Item) (items : List Posted) (ids : List ℕ) where
  abbrev then_at : Item → Option Entry → Seats
  then_at x entry = behind seats (did (lane.Server i) x entry)

  abbrev Left : Item → Option Entry → Type 0
  Left x entry = (s : ℕ) → total s (then_at x entry) + 1 ≤ total s seats + spawns s (entries_in entry) → (causes_from s history ≡ []) × (by s ≡ [])

  abbrev Adds : Item → Option Entry → Option ℕ → Bool → Bool → Type 0
  Adds x entry now up tail = now ≡ start_at i seats → up ≡ (seat_at i seats.servers).up → tail ≡ late_at i seats → Left x entry → StartAhead (held_at i (then_at x entry)) (late_at i (then_at x entry)) history by items ids
      → StartAhead (held now up) tail (entries_in entry ++ history) (λ s. went_of s x entry ++ by s) (posted_in x ++ items) (tried_of entry ++ ids)

  abbrev some : Cause → List Out → Option Entry
  some c outs = Some (record { cause = c; outs = outs })

  -- what was ahead behind an entry and behind none
  past : (x : Item) (c : Cause) (outs : List Out) (now : Option ℕ) (tail : Bool) → held_seat (seat_cause (seat_item (seat_at i seats.servers) x) x c) ≡ now → (seat_cause (seat_item (seat_at i seats.servers) x) x c).tail ≡ tail
      → StartAhead (held_at i (then_at x (some c outs))) (late_at i (then_at x (some c outs))) history by items ids → StartAhead now tail history by items ids
  past x c outs now tail h t a =
      let y = (start_acted seats i x c outs).here within in let after = then_at x (some c outs) in
      start_ahead_at (held_at i after) now (late_at i after) tail history by items ids (y.0 ∙ h) (y.1 ∙ t) a

  past_none : (x : Item) (now : Option ℕ) (tail : Bool) → held_seat (seat_item (seat_at i seats.servers) x) ≡ now → (seat_item (seat_at i seats.servers) x).tail ≡ tail
      → StartAhead (held_at i (then_at x None)) (late_at i (then_at x None)) history by items ids → StartAhead now tail history by items ids
  past_none x now tail h t a =
      let y = (start_acted_none seats i x).here within in let after = then_at x None in
      start_ahead_at (held_at i after) now (late_at i after) tail history by items ids (y.0 ∙ h) (y.1 ∙ t) a

  over_quiet : (x : Item) (c : Cause) (outs : List Out) (s : ℕ) → Some s ≡ start_at i seats → ((t : Seat) → (seat_cause t x c).now ≡ None) → Left x (some c outs) → (causes_from s history ≡ []) × (by s ≡ [])
  over_quiet x c outs s is off left = left s (let h = leaves s seats i x c outs (sym is) off in omega arith)

  is_held : (now : Option ℕ) (up : Bool) → now ≡ start_at i seats → up ≡ (seat_at i seats.servers).up → held_at i seats ≡ held now up
  is_held now up n u = ap (λ (o : Option ℕ). held o (seat_at i seats.servers).up) (sym n) ∙ ap (held now) (sym u)

  own_ways : StartWays Adds
  own_ways = record {
    up = λ s outs n u t left a.
        ahead_up s false outs history by items ids (past (item.Posted posted.Up) (cause.Started s) outs (Some s) false (ap (λ (o : Option ℕ). held o true) (sym n)) (sym t) a);
    failed = λ s outs n u t left a.
        let x = item.Posted posted.NoStart in let c = cause.StartFailed s in
        ahead_failed s outs history by items ids (over_quiet x c outs s n (λ t. refl) left).0 (past x c outs None false refl refl a);
    word = λ s tail body outs n u t left a.
        ahead_word s tail body outs history by items ids (past (item.Posted (posted.Body body)) (cause.FromServer s body) outs (Some s) tail (is_held (Some s) true n u) (sym t) a);
    over = λ s tail w outs real n u t left a.
        let x = item.Posted (posted.Ended w) in let c = cause.ServerGone s in
        let q = over_quiet x c outs s n (λ t. refl) left in
        ahead_over s tail w real outs history by items ids q.0 q.1 (past x c outs None false refl refl a);
    broke = λ s tail outs n u t left a.
        let x = item.Side side.Broke in let c = cause.ServerGone s in
        let q = over_quiet x c outs s n (λ t. refl) left in
        ahead_broke s tail outs history by items ids q.0 q.1 (past x c outs None true refl refl a);
    idle = λ s now up tail n u t left a. past_none (item.Side s) (held now up) tail (is_held now up n u) (sym t) a;
    late = λ body now up none n u t left a.
        start_ahead_at None (held now up) true true (history) by (posted.Body body ∷ items) ids (sym none) refl
        (ahead_late body history by items ids (past_none (item.Posted (posted.Body body)) None true (is_held now up n u ∙ none) (sym t) a));
    late_end = λ w now up none n u t left a.
        start_ahead_at None (held now up) true true (history) by (posted.Ended w ∷ items) ids (sym none) refl
        (ahead_late_end w history by items ids (past_none (item.Posted (posted.Ended w)) None false (is_held now up n u ∙ none) refl a));
  }

  -- a deed of another lane
  foreign_lane : (l : LaneName) (x : Item) (entry : Option Entry) → l ≢ lane.Server i → ((s : ℕ) → seated s seats.servers ≤ 1) → Meant (meaning seats l x) entry
      → ((s : ℕ) (en : Entry) → entry ≡ Some en → start_of en.cause ≡ Some s → untried (causes_from s history) ≡ false)
      → StartAhead (held_at i (behind seats (did l x entry))) (late_at i (behind seats (did l x entry))) history by items ids → StartAhead (held_at i seats) (late_at i seats) (entries_in entry ++ history) (λ s. went_of s x entry ++ by s) items ids
  foreign_lane l x None off one m p a =
      let o = other_lane l x None seats i off in let after = behind seats (did l x None) in
      start_ahead_at (held_at i after) (held_at i seats) (late_at i after) (late_at i seats) history by items ids o.held o.tail a
  foreign_lane l x (Some en) off one m p a =
      let o = other_lane l x (Some en) seats i off in let after = behind seats (did l x (Some en)) in
      ahead_other (held_at i seats) (late_at i seats) x en.cause en.outs history by items ids (λ s is. p s en refl is)
      (λ s up. cause_other s en.cause (λ is.
      let at = start_here seats l x en s m is in
      let same : at.place ≡ i = seated_apart s seats.servers at.place i (one s) at.now (held_now (start_at i seats) (seat_at i seats.servers).up s up).0 in
      off (at.lane ∙ ap lane.Server same)))
      (start_ahead_at (held_at i after) (held_at i seats) (late_at i after) (late_at i seats) history by items ids o.held o.tail a)

  pub start_deed : (l : LaneName) (x : Item) (entry : Option Entry) → ((s : ℕ) → seated s seats.servers ≤ 1) → Meant (meaning seats l x) entry
      → ((s : ℕ) (en : Entry) → entry ≡ Some en → start_of en.cause ≡ Some s → untried (causes_from s history) ≡ false)
      → ((s : ℕ) → total s (behind seats (did l x entry)) + 1 ≤ total s seats + spawns s (entries_in entry) → (causes_from s history ≡ []) × (by s ≡ []))
      → StartAhead (held_at i (behind seats (did l x entry))) (late_at i (behind seats (did l x entry))) history by items ids
      → StartAhead (held_at i seats) (late_at i seats) (entries_in entry ++ history) (λ s. went_of s x entry ++ by s) ((if same_lane (lane.Server i) l then posted_in x else []) ++ items) ((if same_lane (lane.Server i) l then tried_of entry else []) ++ ids)
  start_deed (lane.Editor j) x entry one m p q a = foreign_lane (lane.Editor j) x entry (λ e. absurd cc) one m p a
  start_deed lane.Ticker x entry one m p q a = foreign_lane lane.Ticker x entry (λ e. absurd cc) one m p a
  start_deed (lane.Server j) x entry one m p q a = ⊎_elim
      (λ (t : ((i == j) ≡ true) × (i ≡ j)).
      subst (λ (b : Bool). StartAhead (held_at i seats) (late_at i seats) (entries_in entry ++ history) (λ s. went_of s x entry ++ by s) ((if b then posted_in x else []) ++ items) ((if b then tried_of entry else []) ++ ids)) (sym t.0)
      (by_try Adds own_ways seats i x entry (subst (λ (k : ℕ). Meant (meaning seats (lane.Server k) x) entry) (sym t.1) m) refl refl refl
      (subst (λ (k : ℕ). (s : ℕ) → total s (behind seats (did (lane.Server k) x entry)) + 1 ≤ total s seats + spawns s (entries_in entry) → (causes_from s history ≡ []) × (by s ≡ [])) (sym t.1) q)
      (subst (λ (k : ℕ). StartAhead (held_at i (behind seats (did (lane.Server k) x entry))) (late_at i (behind seats (did (lane.Server k) x entry))) history by items ids) (sym t.1) a)))
      (λ (t : ((i == j) ≡ false) × (i ≢ j)).
      subst (λ (b : Bool). StartAhead (held_at i seats) (late_at i seats) (entries_in entry ++ history) (λ s. went_of s x entry ++ by s) ((if b then posted_in x else []) ++ items) ((if b then tried_of entry else []) ++ ids)) (sym t.0)
      (foreign_lane (lane.Server j) x entry (λ e. let n = t.1 in let same : i ≡ j = cc in n same) one m p a))
      (eqb_tells i j)

past_entry : (d : Deed) (seats : Seats) (deeds : List Deed) (entry : Option Entry) (s : ℕ) (en : Entry) → d.entry ≡ entry → entry ≡ Some en → FairFrom seats (d ∷ deeds)
    → total s seats + spawns s (gather_from entries_by seats (d ∷ deeds)) ≤ 1 → start_of en.cause ≡ Some s → untried (causes_from s (gather_from entries_by (behind seats d) deeds)) ≡ false
past_entry d seats deeds entry s en at is fair once of =
    let e : d.entry ≡ Some en = at ∙ is in
    let m : Meant (meaning seats d.lane d.item) (Some en) = subst (λ (o : Option Entry). Meant (meaning seats d.lane d.item) o) e fair.0 in
    let same : behind seats (did d.lane d.item (Some en)) ≡ behind seats d = ap (λ (o : Option Entry). behind seats (did d.lane d.item o)) (sym e) in
    subst (λ (t : Seats). untried (causes_from s (gather_from entries_by t deeds)) ≡ false) same
    (past_deed d.lane d.item en seats deeds s m (subst (λ (t : Seats). FairFrom t deeds) (sym same) fair.1)
    (subst (λ (o : Option Entry). total s seats + spawns s (entries_in o ++ gather_from entries_by (behind seats (did d.lane d.item o)) deeds) ≤ 1) e once) of)

start_end : (held : Option ℕ) (tail : Bool) → StartAhead held tail [] (λ s. []) [] []
start_end None tail = record { front = []; made = []; is = refl; opened = (no_late, λ _. refl); each = tt }
start_end (Some s) tail = record { front = []; made = []; is = refl; opened = record { bodies = []; gone = []; rest = []; says = refl; is = refl; ends = inl (refl, refl, refl) }; each = tt }

none_first : {X : Type 0} (xs ys : List X) → xs ++ ys ≡ [] → (xs ≡ []) × (ys ≡ [])
none_first [] ys none = (refl, none)
none_first (x ∷ xs) ys none = absurd cc

-- of a start without causes no item tells how it went
mute_entry : (s : ℕ) (x : Item) (entry : Option Entry) (history : List Entry) (more : List Item) → causes_from s (entries_in entry ++ history) ≡ [] → (causes_from s history ≡ [] → more ≡ []) → went_of s x entry ++ more ≡ []
mute_entry s x None history more none f = f none
mute_entry s x (Some en) history more none f =
    let e = none_first (cause_from s en.cause) (causes_from s history) none in ap (λ l. l ++ more) (unwent s x en.cause e.0) ∙ f e.1

mute : (deeds : List Deed) (seats : Seats) (s : ℕ) → causes_from s (gather_from entries_by seats deeds) ≡ [] → gather_from (went_by s) seats deeds ≡ []
mute [] seats s none = refl
mute (d ∷ deeds) seats s none = mute_entry s d.item d.entry (gather_from entries_by (behind seats d) deeds) (gather_from (went_by s) (behind seats d) deeds) none (λ e. mute deeds (behind seats d) s e)

pub all_starts : (i : ℕ) (deeds : List Deed) (seats : Seats) → i < length seats.servers → FairFrom seats deeds → ((s : ℕ) → total s seats + spawns s (gather_from entries_by seats deeds) ≤ 1)
    → StartAhead (held_at i seats) (late_at i seats) (gather_from entries_by seats deeds) (λ s. gather_from (went_by s) seats deeds) (gather_from (posts_by (lane.Server i)) seats deeds) (gather_from (tried_by (lane.Server i)) seats deeds)
all_starts i [] seats within fair once = start_end (held_at i seats) (late_at i seats)
all_starts i (d ∷ deeds) seats within fair once =
    let after = behind seats d in
    let rest = gather_from entries_by after deeds in
    let still : i < length after.servers = let h = server_len d.lane d.item d.entry seats in omega arith in
    start_deed seats i within rest (λ s. gather_from (went_by s) after deeds) (gather_from (posts_by (lane.Server i)) after deeds) (gather_from (tried_by (lane.Server i)) after deeds) d.lane d.item d.entry
    (λ s. let h = once s in omega arith) fair.0
    (λ s en is of. past_entry d seats deeds d.entry s en refl is fair (once s) of)
    (λ s off. let h = once s in let e = spawns_append s (entries_in d.entry) rest in let q = quiet deeds after s fair.1 (omega arith) in (q, mute deeds after s q))
    (all_starts i deeds after still fair.1 (λ s. let h = once s in let e = spawns_append s (entries_in d.entry) rest in let g = deed_total s seats d.lane d.item d.entry fair.0 in omega arith))

pub by_start_sessions : StartSessions
by_start_sessions n m i deeds within fair once =
    let seats = start n m in
    let a : StartAhead None false (entries n m deeds) (went n m deeds) (posts n m (lane.Server i) deeds) (gather n m (tried_by (lane.Server i)) deeds) =
    start_ahead_at (held_at i seats) None (late_at i seats) false (entries n m deeds) (went n m deeds) (posts n m (lane.Server i) deeds) (gather n m (tried_by (lane.Server i)) deeds) (ap held_seat (all_free m i)) (ap (λ (s : Seat). s.tail) (all_free m i))
    (all_starts i deeds seats (let h = many_free m in omega arith) fair (λ s. let h = once s in let z = none_seated s m in omega arith)) in record {
      made = a.made;
      posts = a.is ∙ ap (λ l. l ++ chain a.made) (a.opened.1 refl);
      each = a.each;
    }
