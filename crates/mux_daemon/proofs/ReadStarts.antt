-- The bodies from a start are the first frames that its program's session read.
use Rattle.std.proofs.Common.{◌≡◌, ◌≢◌, ℕ, zero, suc, ◌≤◌, ◌<◌, ◌⊎◌, inl, inr, List, [], ◌∷◌, ◌++◌, length, map, slice_get, refl, ap, sym, ◌∙◌, subst, arith, append_assoc, append-nil}
use Rattle.std.specs.Prelude.{All, Option, Some, None}
use Rattle.std.proofs.lemmas.List.Elements.{All-head, All-tail}
use Rattle.base_frame.specs.Frames.{Splits}
use Rattle.mux_history.specs.declared.entry.Entry.{Entry}
use Rattle.mux_history.specs.declared.cause.Why.{Why}
use Rattle.mux_history.specs.declared.cause.Why.TheVariants as why
use Rattle.mux_history.specs.declared.cause.Cause.{Cause}
use Rattle.mux_history.specs.declared.cause.Cause.TheVariants as cause
use Rattle.lane_lists.specs.declared.item.Order.{Order}
use Rattle.lane_lists.specs.declared.item.Order.TheVariants as order
use Rattle.lane_lists.specs.declared.item.Posted.{Posted}
use Rattle.lane_lists.specs.declared.item.Posted.TheVariants as posted
use Rattle.lane_lists.specs.declared.item.Side.TheVariants as side
use Rattle.lane_lists.specs.declared.item.Item.{Item}
use Rattle.lane_lists.specs.declared.item.Item.TheVariants as item
use Rattle.lane_lists.specs.Sessions.{chain, parts, IsSession}
use Rattle.lane_lists.specs.StartHistory.{CameUp, Failed, GoneBy, StartHeard, is_tried}
use Rattle.lane_lists.specs.StartHistory as starts
use Rattle.lane_lists.proofs.Parts.{parts_go_on, parts_made}
use Rattle.lane_lists.proofs.ByParts.{Free, free_append, free_map, free_more, free_none}
use Rattle.session_io.specs.declared.part.End.{End}
use Rattle.session_io.specs.Reads.{StoppedBy, bodies, end_items, why_of}
use Rattle.mux_lanes.specs.Runs.{IsRun, IsWholeRun, Run, order_of}
use Rattle.mux_lanes.specs.Lanes.{Turn, linked, ran, refused}
use Rattle.mux_lanes.specs.Starts.{Begun, CutBegun, WholeStart}
use Rattle.mux_lanes.specs.Starts as begins
use Rattle.mux_daemon.specs.Starts.{StartRead, WentBy, failed_turn, up_turn}
use Rattle.mux_daemon.proofs.Places.{same_item}
use Rattle.mux_daemon.proofs.Reading.{first_of, stopped_as}

-- what a turn of a start shows: that it failed, or a session
pub record ShowsNone (Whole : Type 0) (turn : Turn) : Type 0 where
  pub start : ℕ
  pub orders : List Order
  pub is : turn ≡ failed_turn start orders
  pub whole : Whole → (o : End) × (orders ≡ order_of o ∷ [])

pub record ShowsRun (Whole : Type 0) (limit : ℕ) (turn : Turn) : Type 0 where
  pub start : ℕ
  pub run : Run
  pub is_run : IsRun limit run
  pub is : turn ≡ up_turn start run
  pub whole : Whole → IsWholeRun run

abbrev pub Shown : Type 0 → ℕ → Turn → Type 0
Shown Whole limit turn = ShowsNone Whole turn ⊎ ShowsRun Whole limit turn

less_whole : (Whole Less : Type 0) (limit : ℕ) (turn : Turn) → (Less → Whole) → Shown Whole limit turn → Shown Less limit turn
less_whole Whole Less limit turn f (inl n) = inl (record { start = n.start; orders = n.orders; is = n.is; whole = λ l. n.whole (f l) })
less_whole Whole Less limit turn f (inr s) = inr (record { start = s.start; run = s.run; is_run = s.is_run; is = s.is; whole = λ l. s.whole (f l) })

abbrev behind_begin : ℕ → Turn → Turn
behind_begin start rest = record rest { orders = order.Begin start ∷ rest.orders }

run_shown : (Whole : Type 0) (limit start : ℕ) (turn rest : Turn) (run : Run) → turn ≡ behind_begin start rest → IsRun limit run → rest ≡ linked posted.Up run → (Whole → IsWholeRun run) → Shown Whole limit turn
run_shown Whole limit start turn rest run is r e whole = inr (record { start = start; run = run; is_run = r; is = is ∙ ap (behind_begin start) e; whole = whole })

none_shown : (Whole : Type 0) (limit start : ℕ) (turn rest : Turn) (orders : List Order) → turn ≡ behind_begin start rest → rest ≡ begins.idle 1 (posted.NoStart ∷ []) orders → (Whole → (o : End) × (orders ≡ order_of o ∷ [])) → Shown Whole limit turn
none_shown Whole limit start turn rest orders is e whole = inl (record { start = start; orders = orders; is = is ∙ ap (behind_begin start) e; whole = whole })

whole_shown : (Whole : Type 0) (limit : ℕ) (turn : Turn) → Begun (WholeStart limit) turn → Shown Whole limit turn
whole_shown Whole limit turn b = elim b.behind [
  | begins.went_up w ↦ run_shown Whole limit b.start turn b.rest w.run b.is w.is_run w.is (λ _. w.is_whole)
  | begins.failed end e ↦ none_shown Whole limit b.start turn b.rest (order_of end ∷ []) b.is e (λ _. (end, refl))
]

-- a turn that was cut off shows the same, or posted nothing
cut_shown : (Whole : Type 0) (limit : ℕ) (turn : Turn) → (Whole → ⊥) → CutBegun limit turn → Shown Whole limit turn ⊎ (turn.posts ≡ [])
cut_shown Whole limit turn never (begins.misled o e) = inr (ap (λ (t : Turn). t.posts) e)
cut_shown Whole limit turn never (begins.begun b) = elim b.behind [
  | begins.cut_up c ↦ elim c [
    | ran run is torn e ↦ inl (run_shown Whole limit b.start turn b.rest run b.is is e (λ w. absurd (never w)))
    | refused session e ↦ inr (ap (λ (t : Turn). t.posts) b.is ∙ ap (λ (t : Turn). t.posts) e)
  ]
  | begins.cut_failed orders few short e ↦ inl (none_shown Whole limit b.start turn b.rest orders b.is e (λ w. absurd (never w)))
  | begins.wanted rises e ↦ inr (ap (λ (t : Turn). t.posts) b.is ∙ ap (λ (t : Turn). t.posts) e)
]

-- the turns that posted something, which are the first ones; so many are whole
pub record Kept (limit count : ℕ) (turns : List Turn) : Type 0 where
  pub kept : List Turn
  pub each : (k : ℕ) (turn : Turn) → slice_get kept k ≡ Some turn → (slice_get turns k ≡ Some turn) × Shown (k < count) limit turn
  pub posts : chain (map (λ (t : Turn). t.posts) turns) ≡ chain (map (λ (t : Turn). t.posts) kept)

none_kept : (limit : ℕ) → Kept limit 0 []
none_kept limit = record { kept = []; each = λ k turn at. absurd cc; posts = refl }

whole_kept : (limit count : ℕ) (turn : Turn) (turns : List Turn) → Begun (WholeStart limit) turn → Kept limit count turns → Kept limit (suc count) (turn ∷ turns)
whole_kept limit count turn turns b f = record { kept = turn ∷ f.kept; each = first; posts = ap (λ l. turn.posts ++ l) f.posts }
  where
    first : (k : ℕ) (t : Turn) → slice_get (turn ∷ f.kept) k ≡ Some t → (slice_get (turn ∷ turns) k ≡ Some t) × Shown (k < suc count) limit t
    first zero t at = (at, (let same : turn ≡ t = same_item turn t at in subst (λ x. Shown (0 < suc count) limit x) same (whole_shown (0 < suc count) limit turn b)))
    first (suc k) t at = let e = f.each k t at in (e.0, less_whole (k < count) (suc k < suc count) limit t (λ h. omega (arith, h)) e.1)

cut_kept : (limit : ℕ) (turn : Turn) → Shown (0 < 0) limit turn → Kept limit 0 (turn ∷ [])
cut_kept limit turn s = record { kept = turn ∷ []; each = first; posts = refl }
  where
    first : (k : ℕ) (t : Turn) → slice_get (turn ∷ []) k ≡ Some t → (slice_get (turn ∷ []) k ≡ Some t) × Shown (k < 0) limit t
    first zero t at = (at, (let same : turn ≡ t = same_item turn t at in subst (λ x. Shown (0 < 0) limit x) same s))
    first (suc k) t at = absurd cc

last_kept : (limit : ℕ) (last : List Turn) → All (CutBegun limit) last → length last ≤ 1 → Kept limit 0 last
last_kept limit [] a h = none_kept limit
last_kept limit (t ∷ u ∷ last) a h = absurd (omega arith)
last_kept limit (t ∷ []) a h = elim (cut_shown (0 < 0) limit t (λ z. omega (arith, z)) (All-head (CutBegun limit) t [] a)) [
  | inl s ↦ cut_kept limit t s
  | inr e ↦ record { kept = []; each = λ k turn at. absurd cc; posts = ap (λ l. l ++ []) e }
]

pub all_kept : (limit : ℕ) (turns last : List Turn) → All (Begun (WholeStart limit)) turns → All (CutBegun limit) last → length last ≤ 1 → Kept limit (length turns) (turns ++ last)
all_kept limit [] last a b h = last_kept limit last b h
all_kept limit (t ∷ turns) last a b h =
    whole_kept limit (length turns) t (turns ++ last) (All-head (Begun (WholeStart limit)) t turns a) (all_kept limit turns last (All-tail (Begun (WholeStart limit)) t turns a) b h)

free_end : (w : Option Why) → Free is_tried (end_items w)
free_end None = free_none is_tried
free_end (Some w) = free_more is_tried (posted.Ended w) [] refl (free_none is_tried)

shown_session : (Whole : Type 0) (limit : ℕ) (turn : Turn) → Shown Whole limit turn → IsSession is_tried turn.posts
shown_session Whole limit turn (inl r) = record { first = posted.NoStart; rest = []; is = ap (λ (t : Turn). t.posts) r.is; begun = refl; none = free_none is_tried }
shown_session Whole limit turn (inr s) =
    let read = s.is_run.read in record {
      first = posted.Up;
      rest = s.run.posts;
      is = ap (λ (t : Turn). t.posts) s.is;
      begun = refl;
      none = subst (λ l. Free is_tried l) (sym read.posted) (free_append is_tried (bodies read.given) (end_items (why_of s.run.stop)) (free_map is_tried posted.Body (λ b. refl) read.given) (free_end (why_of s.run.stop)));
    }

kept_at : (turns : List Turn) (k : ℕ) (session : List Posted) → slice_get (map (λ (t : Turn). t.posts) turns) k ≡ Some session → (turn : Turn) × (slice_get turns k ≡ Some turn) × (turn.posts ≡ session)
kept_at [] k session at = absurd cc
kept_at (t ∷ turns) zero session at = (t, refl, same_item t.posts session at)
kept_at (t ∷ turns) (suc k) session at = kept_at turns k session at

kept_sessions : (limit count : ℕ) (turns : List Turn) (f : Kept limit count turns) (k : ℕ) (session : List Posted) → slice_get (map (λ (t : Turn). t.posts) f.kept) k ≡ Some session → IsSession is_tried session
kept_sessions limit count turns f k session at =
    let t = kept_at f.kept k session at in
    subst (λ l. IsSession is_tried l) t.2 (shown_session (k < count) limit t.0 (f.each k t.0 t.1).1)

-- the k-th part of what was taken is the front of what the k-th turn posted
pub record TurnAt (limit count : ℕ) (turns : List Turn) (k : ℕ) (part : List Posted) : Type 0 where
  pub turn : Turn
  pub at : slice_get turns k ≡ Some turn
  pub shown : Shown (k < count) limit turn
  pub more : List Posted
  pub posts : turn.posts ≡ part ++ more

pub turn_at : (limit count : ℕ) (turns : List Turn) (f : Kept limit count turns) (taken rest : List Posted) (made : List (List Posted)) → taken ++ rest ≡ chain (map (λ (t : Turn). t.posts) f.kept) → parts is_tried taken ≡ [] ∷ made
    → (k : ℕ) (part : List Posted) → slice_get made k ≡ Some part → TurnAt limit count turns k part
turn_at limit count turns f taken rest made whole cut k part at =
    let shown = map (λ (t : Turn). t.posts) f.kept in
    let here : slice_get (parts is_tried taken) (suc k) ≡ Some part = ap (λ l. slice_get l (suc k)) cut ∙ at in
    let goes = parts_go_on is_tried taken rest (suc k) part here in
    let all : parts is_tried (taken ++ rest) ≡ [] ∷ shown = ap (λ l. parts is_tried l) whole ∙ parts_made is_tried [] shown (kept_sessions limit count turns f) in
    let there : slice_get shown k ≡ Some (part ++ goes.more) = ap (λ l. slice_get l (suc k)) (sym all) ∙ goes.at in
    let t = kept_at f.kept k (part ++ goes.more) there in
    let e = f.each k t.0 t.1 in
    record { turn = t.0; at = e.0; shown = e.1; more = goes.more; posts = t.2 }

-- by which items a start went
went_by_item : (by : List Item) (rest : List Posted) → GoneBy by rest → WentBy by
went_by_item by rest (starts.ended w real is e) = inl (w, real, is)
went_by_item by rest (starts.broke is l) = inr is

-- where it went by an end, nothing was posted between its bodies and this end
end_alone : (w : Why) (more : List Posted) (others : List (List ℕ)) (end : Option Why) → posted.Ended w ∷ more ≡ bodies others ++ end_items end → (others ≡ []) × (end ≡ Some w)
end_alone w more [] None e = absurd cc
end_alone w more [] (Some v) e = (refl, cc)
end_alone w more (b ∷ others) end e = absurd cc

ended_so : (causes : List Cause) (by : List Item) (start : ℕ) (items : List Posted) (h : StartHeard causes by start items) (w : Why) → by ≡ item.Posted (posted.Ended w) ∷ [] → (w ≢ why.WriteFault) × (h.rest ≡ posted.Ended w ∷ [])
ended_so causes by start items h w is = elim h.ends [
  | inl n ↦ (let f : [] ≡ item.Posted (posted.Ended w) ∷ [] = sym n.2 ∙ is in absurd cc)
  | inr n ↦ by_item n.1
] where
  by_item : GoneBy by h.rest → (w ≢ why.WriteFault) × (h.rest ≡ posted.Ended w ∷ [])
  by_item (starts.ended v real told e) =
      let both : item.Posted (posted.Ended v) ∷ [] ≡ item.Posted (posted.Ended w) ∷ [] = sym told ∙ is in
      let same : v ≡ w = cc in (subst (λ x. x ≢ why.WriteFault) same real, e ∙ ap (λ x. posted.Ended x ∷ []) same)
  by_item (starts.broke told l) = let f : item.Side side.Broke ∷ [] ≡ item.Posted (posted.Ended w) ∷ [] = sym told ∙ is in absurd cc

-- a start that came up has a run, and one that failed has none
pub up_run : (Whole : Type 0) (limit : ℕ) (history : List Entry) (by : ℕ → List Item) (start : ℕ) (turn : Turn) (part more : List Posted) → CameUp history by start part → turn.posts ≡ part ++ more → Shown Whole limit turn → (s : ShowsRun Whole limit turn) × StartRead limit history (by start) start s.run
up_run Whole limit history by start turn part more c e (inl r) = let f : posted.NoStart ∷ [] ≡ (posted.Up ∷ c.items) ++ more = sym (ap (λ (t : Turn). t.posts) r.is) ∙ e ∙ ap (λ l. l ++ more) c.is in absurd cc
up_run Whole limit history by start turn part more c e (inr s) =
    let h = c.heard in
    let read = s.is_run.read in
    let whole : posted.Up ∷ s.run.posts ≡ posted.Up ∷ (c.items ++ more) = sym (ap (λ (t : Turn). t.posts) s.is) ∙ e ∙ ap (λ l. l ++ more) c.is in
    let items : s.run.posts ≡ c.items ++ more = cc in
    let spread : bodies read.given ++ end_items (why_of s.run.stop) ≡ bodies h.bodies ++ (h.rest ++ more) = sym read.posted ∙ items ∙ ap (λ l. l ++ more) h.is ∙ append_assoc (bodies h.bodies) h.rest more in
    let f = first_of h.bodies read.given (h.rest ++ more) (why_of s.run.stop) spread in (
      s,
      record {
        bodies = h.bodies;
        gone = h.gone;
        says = c.says ∙ ap (λ l. cause.Started start ∷ l) h.says;
        ends = elim h.ends [ inl n ↦ inl (n.0, n.2) | inr n ↦ inr (n.0, went_by_item (by start) h.rest n.1) ];
        fed = read.fed;
        others = f.others ++ read.lost;
        rest = read.rest;
        read = read.read;
        splits = subst (λ l. Splits limit read.fed l read.rest) (ap (λ l. l ++ read.lost) f.are ∙ append_assoc h.bodies f.others read.lost) read.splits;
        ended = λ w is.
            let so = ended_so c.causes (by start) start c.items h w is in
            let b = end_alone w more f.others (why_of s.run.stop) (ap (λ l. l ++ more) (sym so.1) ∙ f.rest) in
            let given : read.given ≡ h.bodies = f.are ∙ ap (λ l. h.bodies ++ l) b.0 ∙ append-nil h.bodies in
            stopped_as limit s.run read.fed h.bodies w s.run.stop refl so.0 b.1 (subst (λ l. StoppedBy limit read.fed l s.run.ended.left s.run.began.source_faults s.run.ended.source_faults s.run.stop) given read.stopped);
      },
    )

pub no_run : (Whole : Type 0) (limit : ℕ) (history : List Entry) (start : ℕ) (turn : Turn) (part more : List Posted) → Failed history start part → turn.posts ≡ part ++ more → Shown Whole limit turn → ShowsNone Whole turn
no_run Whole limit history start turn part more c e (inl r) = r
no_run Whole limit history start turn part more c e (inr s) = let f : posted.Up ∷ s.run.posts ≡ (posted.NoStart ∷ []) ++ more = sym (ap (λ (t : Turn). t.posts) s.is) ∙ e ∙ ap (λ l. l ++ more) c.is in absurd cc
