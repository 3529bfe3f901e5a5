-- The bodies from an editor are the first frames that its session read.
use Rattle.std.proofs.Common.{◌≡◌, ◌≢◌, ℕ, zero, suc, ◌<◌, ◌≤◌, ◌+◌, ◌⊎◌, inl, inr, List, [], ◌∷◌, ◌++◌, length, map, slice_get, refl, ap, sym, ◌∙◌, subst, arith, append_assoc, append-nil}
use Rattle.std.specs.Prelude.{All, Option, Some, None, ⊤}
use Rattle.std.proofs.lemmas.List.Elements.{All-head, All-tail}
use Rattle.outside_io.specs.Sessions.{Session}
use Rattle.mux_history.specs.declared.entry.Entry.{Entry}
use Rattle.mux_history.specs.declared.cause.Why.{Why}
use Rattle.mux_history.specs.declared.cause.Why.TheVariants as why
use Rattle.lane_lists.specs.declared.item.Order.TheVariants as order
use Rattle.lane_lists.specs.declared.item.Posted.{Posted}
use Rattle.lane_lists.specs.declared.item.Posted.TheVariants as posted
use Rattle.lane_lists.specs.Sessions.{chain, parts, IsSession}
use Rattle.lane_lists.specs.History.{AllZip, SessionOf, bodies_from, ended_items, ended_of, is_link}
use Rattle.lane_lists.proofs.Parts.{parts_go_on, parts_made}
use Rattle.lane_lists.proofs.ByParts.{Free, free_append, free_map, free_more, free_none}
use Rattle.base_frame.specs.Frames.{Splits}
use Rattle.session_io.specs.declared.part.End.TheVariants as end
use Rattle.session_io.specs.declared.read.Stop.{Stop}
use Rattle.session_io.specs.declared.read.Stop.TheVariants as stop
use Rattle.session_io.specs.Reads.{StoppedBy, bodies, end_items, why_of}
use Rattle.mux_lanes.specs.Runs.{IsRun, IsWholeRun, Run, order_of}
use Rattle.mux_lanes.specs.Lanes.{CutLink, Turn, WholeLink, linked, ran, refused, unlinked}
use Rattle.mux_daemon.specs.Sessions.{ReadOf}
use Rattle.mux_daemon.proofs.Places.{same_item}

-- the member that goes with another one
pub zip_at : {A B : Type 0} (R : A → B → Type 0) (xs : List A) (ys : List B) → AllZip R xs ys → (k : ℕ) (x : A) → slice_get xs k ≡ Some x → (y : B) × (slice_get ys k ≡ Some y) × R x y
zip_at R [] [] z k x e = absurd cc
zip_at R [] (b ∷ ys) z k x e = absurd cc
zip_at R (a ∷ xs) [] z k x e = absurd cc
zip_at R (a ∷ xs) (b ∷ ys) z zero x e = (b, refl, (let same : a ≡ x = same_item a x e in subst (λ y. R y b) same z.0))
zip_at R (a ∷ xs) (b ∷ ys) z (suc k) x e = zip_at R xs ys z.1 k x e

-- each run but the last one is whole
abbrev pub FrontWhole : List Run → Type 0
FrontWhole [] = ⊤
FrontWhole (r ∷ runs) = (runs ≢ [] → IsWholeRun r) × FrontWhole runs

-- each run is whole
abbrev pub AllWholeRuns : List Run → Type 0
AllWholeRuns [] = ⊤
AllWholeRuns (r ∷ runs) = IsWholeRun r × AllWholeRuns runs

pub whole_at : (runs : List Run) → AllWholeRuns runs → (k : ℕ) (run : Run) → slice_get runs k ≡ Some run → IsWholeRun run
whole_at [] a k run at = absurd cc
whole_at (r ∷ runs) a zero run at = let same : r ≡ run = same_item r run at in subst (λ x. IsWholeRun x) same a.0
whole_at (r ∷ runs) a (suc k) run at = whole_at runs a.1 k run at

pub front_at : (runs : List Run) → FrontWhole runs → (k : ℕ) (run : Run) → k + 1 < length runs → slice_get runs k ≡ Some run → IsWholeRun run
front_at [] f k run h at = absurd cc
front_at (r ∷ []) f k run h at = absurd (omega (arith, h))
front_at (r ∷ s ∷ runs) f zero run h at = let same : r ≡ run = same_item r run at in subst (λ x. IsWholeRun x) same (f.0 (λ e. absurd cc))
front_at (r ∷ s ∷ runs) f (suc k) run h at = front_at (s ∷ runs) f.1 k run (omega (arith, h)) at

-- the runs of a lane's turns, and the links that were refused: none, and each run is whole, where no turn was cut off
pub record RunsOf (limit : ℕ) (turns : List Turn) (Whole : Type 0) : Type 0 where
  pub runs : List Run
  pub refused : List Session
  pub one : length refused ≤ 1
  pub front : FrontWhole runs
  pub whole : Whole → (refused ≡ []) × AllWholeRuns runs
  pub each : (k : ℕ) (run : Run) → slice_get runs k ≡ Some run → IsRun limit run
  pub came : chain (map (λ (t : Turn). t.came) turns) ≡ map (λ (r : Run). r.began) runs ++ refused
  pub back : chain (map (λ (t : Turn). t.back) turns) ≡ map (λ (r : Run). r.ended) runs ++ refused
  pub posts : chain (map (λ (t : Turn). t.posts) turns) ≡ chain (map (λ (r : Run). posted.Link ∷ r.posts) runs)
  pub orders : chain (map (λ (t : Turn). t.orders) turns) ≡ chain (map (λ (r : Run). r.orders) runs)
  pub sides : chain (map (λ (t : Turn). t.sides) turns) ≡ chain (map (λ (r : Run). r.sides) runs)

run_first : (limit : ℕ) (Whole : Type 0) (run : Run) (turn : Turn) (turns : List Turn) → IsRun limit run → turn ≡ linked posted.Link run → (f : RunsOf limit turns Whole) → (f.runs ≢ [] → IsWholeRun run) → (Whole → IsWholeRun run) → RunsOf limit (turn ∷ turns) Whole
run_first limit Whole run turn turns is e f front whole = record {
  runs = run ∷ f.runs;
  refused = f.refused;
  one = f.one;
  front = (front, f.front);
  whole = λ w. let r = f.whole w in (r.0, (whole w, r.1));
  each = λ k r at. first k r at;
  came = ap (λ (t : Turn). t.came ++ chain (map (λ (t : Turn). t.came) turns)) e ∙ ap (λ l. run.began ∷ l) f.came;
  back = ap (λ (t : Turn). t.back ++ chain (map (λ (t : Turn). t.back) turns)) e ∙ ap (λ l. run.ended ∷ l) f.back;
  posts = ap (λ (t : Turn). t.posts ++ chain (map (λ (t : Turn). t.posts) turns)) e ∙ ap (λ l. (posted.Link ∷ run.posts) ++ l) f.posts;
  orders = ap (λ (t : Turn). t.orders ++ chain (map (λ (t : Turn). t.orders) turns)) e ∙ ap (λ l. run.orders ++ l) f.orders;
  sides = ap (λ (t : Turn). t.sides ++ chain (map (λ (t : Turn). t.sides) turns)) e ∙ ap (λ l. run.sides ++ l) f.sides;
}
  where
    first : (k : ℕ) (r : Run) → slice_get (run ∷ f.runs) k ≡ Some r → IsRun limit r
    first zero r at = let same : run ≡ r = same_item run r at in subst (λ x. IsRun limit x) same is
    first (suc k) r at = f.each k r at

abbrev no_runs : (limit : ℕ) (Whole : Type 0) → RunsOf limit [] Whole
no_runs limit Whole = record { runs = []; refused = []; one = omega arith; front = tt; whole = λ _. (refl, tt); each = λ k r at. absurd cc; came = refl; back = refl; posts = refl; orders = refl; sides = refl }

one_refused : (limit : ℕ) (Whole : Type 0) (session : Session) (turn : Turn) → turn ≡ unlinked session → (Whole → ⊥) → RunsOf limit (turn ∷ []) Whole
one_refused limit Whole session turn e torn = record {
  runs = [];
  refused = session ∷ [];
  one = omega arith;
  front = tt;
  whole = λ w. absurd (torn w);
  each = λ k r at. absurd cc;
  came = ap (λ (t : Turn). t.came ++ []) e;
  back = ap (λ (t : Turn). t.back ++ []) e;
  posts = ap (λ (t : Turn). t.posts ++ []) e;
  orders = ap (λ (t : Turn). t.orders ++ []) e;
  sides = ap (λ (t : Turn). t.sides ++ []) e;
}

last_runs : (limit : ℕ) (last : List Turn) → All (CutLink posted.Link limit) last → length last ≤ 1 → RunsOf limit last (last ≡ [])
last_runs limit [] a h = no_runs limit ([] ≡ [])
last_runs limit (t ∷ u ∷ last) a h = absurd (omega arith)
last_runs limit (t ∷ []) a h = elim (All-head (CutLink posted.Link limit) t [] a) [
  | ran run is torn e ↦ run_first limit (t ∷ [] ≡ []) run t [] is e (no_runs limit (t ∷ [] ≡ [])) (λ h. absurd (h refl)) (λ w. absurd cc)
  | refused session e ↦ one_refused limit (t ∷ [] ≡ []) session t e (λ w. absurd cc)
]

pub all_runs : (limit : ℕ) (turns last : List Turn) → All (WholeLink posted.Link limit) turns → All (CutLink posted.Link limit) last → length last ≤ 1 → RunsOf limit (turns ++ last) (last ≡ [])
all_runs limit [] last a b h = last_runs limit last b h
all_runs limit (t ∷ turns) last a b h =
    let w = All-head (WholeLink posted.Link limit) t turns a in
    run_first limit (last ≡ []) w.run t (turns ++ last) w.is_run w.is (all_runs limit turns last (All-tail (WholeLink posted.Link limit) t turns a) b h) (λ _. w.is_whole) (λ _. w.is_whole)

-- the items of a run begin no session
free_end : (w : Option Why) → Free is_link (end_items w)
free_end None = free_none is_link
free_end (Some w) = free_more is_link (posted.Ended w) [] refl (free_none is_link)

run_session : (limit : ℕ) (run : Run) → IsRun limit run → IsSession is_link (posted.Link ∷ run.posts)
run_session limit run is = record {
  first = posted.Link;
  rest = run.posts;
  is = refl;
  begun = refl;
  none = subst (λ l. Free is_link l) (sym is.read.posted) (free_append is_link (bodies is.read.given) (end_items (why_of run.stop)) (free_map is_link posted.Body (λ b. refl) is.read.given) (free_end (why_of run.stop)));
}

sessions_of : (limit : ℕ) (runs : List Run) → ((k : ℕ) (run : Run) → slice_get runs k ≡ Some run → IsRun limit run) → (k : ℕ) (session : List Posted) → slice_get (map (λ (r : Run). posted.Link ∷ r.posts) runs) k ≡ Some session → IsSession is_link session
sessions_of limit [] each k session at = absurd cc
sessions_of limit (r ∷ runs) each zero session at = let same : posted.Link ∷ r.posts ≡ session = same_item (posted.Link ∷ r.posts) session at in subst (λ l. IsSession is_link l) same (run_session limit r (each 0 r refl))
sessions_of limit (r ∷ runs) each (suc k) session at = sessions_of limit runs (λ j run here. each (suc j) run here) k session at

mapped_at : (runs : List Run) (k : ℕ) (session : List Posted) → slice_get (map (λ (r : Run). posted.Link ∷ r.posts) runs) k ≡ Some session → (run : Run) × (slice_get runs k ≡ Some run) × (posted.Link ∷ run.posts ≡ session)
mapped_at [] k session at = absurd cc
mapped_at (r ∷ runs) zero session at = (r, refl, same_item (posted.Link ∷ r.posts) session at)
mapped_at (r ∷ runs) (suc k) session at = mapped_at runs k session at

-- bodies that stand before other items are the first ones
pub record FirstOf (first all : List (List ℕ)) (behind : List Posted) (end : Option Why) : Type 0 where
  pub others : List (List ℕ)
  pub are : all ≡ first ++ others
  pub rest : behind ≡ bodies others ++ end_items end

pub first_of : (first all : List (List ℕ)) (behind : List Posted) (end : Option Why) → bodies all ++ end_items end ≡ bodies first ++ behind → FirstOf first all behind end
first_of [] all behind end e = record { others = all; are = refl; rest = sym e }
first_of (b ∷ first) [] behind None e = absurd cc
first_of (b ∷ first) [] behind (Some w) e = absurd cc
first_of (b ∷ first) (c ∷ all) behind end e =
    let one : c ≡ b = cc in
    let f = first_of first all behind end cc in record { others = f.others; are = ap (λ x. x ∷ all) one ∙ ap (λ l. b ∷ l) f.are; rest = f.rest }

-- how a session ended, where the history tells that it didn't go by a failed write
pub ended_by : (w : Why) (others : List (List ℕ)) (behind : List Posted) (end : Option Why) → w ≢ why.WriteFault → ended_items (w ∷ []) ++ behind ≡ bodies others ++ end_items end → (others ≡ []) × (end ≡ Some w)
ended_by why.WriteFault others behind end real e = absurd (real refl)
ended_by why.End [] behind None real e = absurd cc
ended_by why.End [] behind (Some v) real e = (refl, cc)
ended_by why.End (b ∷ others) behind end real e = absurd cc
ended_by why.ReadFault [] behind None real e = absurd cc
ended_by why.ReadFault [] behind (Some v) real e = (refl, cc)
ended_by why.ReadFault (b ∷ others) behind end real e = absurd cc
ended_by why.BadFrame [] behind None real e = absurd cc
ended_by why.BadFrame [] behind (Some v) real e = (refl, cc)
ended_by why.BadFrame (b ∷ others) behind end real e = absurd cc

pub stopped_as : (limit : ℕ) (run : Run) (fed : List ℕ) (given : List (List ℕ)) (w : Why) (told : Stop) → run.stop ≡ told → w ≢ why.WriteFault → why_of told ≡ Some w → StoppedBy limit fed given run.ended.left run.began.source_faults run.ended.source_faults told
    → StoppedBy limit fed given run.ended.left run.began.source_faults run.ended.source_faults (stop.Ended w) ⊎ ((w ≡ why.End) × (IsWholeRun run → run.wrote.end ≡ Some order.Close))
stopped_as limit run fed given w (stop.Ended v) is real e s = let same : v ≡ w = same_item v w e in inl (subst (λ x. StoppedBy limit fed given run.ended.left run.began.source_faults run.ended.source_faults (stop.Ended x)) same s)
stopped_as limit run fed given w (stop.Told end.Closed) is real e s = inr (sym (same_item why.End w e), λ whole. whole.ordered ∙ ap (λ x. Some (order_of x)) (sym (whole.agreed end.Closed is)))
stopped_as limit run fed given w (stop.Told end.Done) is real e s = absurd (real (sym (same_item why.WriteFault w e)))
stopped_as limit run fed given w stop.Cut is real e s = absurd cc

pub read_of : (limit : ℕ) (history : List Entry) (e : ℕ) (run : Run) (part more : List Posted) → IsRun limit run → SessionOf history e part → posted.Link ∷ run.posts ≡ part ++ more → ReadOf limit history e run
read_of limit history e run part more is s same =
    let h = s.heard in
    let from = bodies_from e history in
    let whole : posted.Link ∷ run.posts ≡ posted.Link ∷ (s.items ++ more) = same ∙ ap (λ l. l ++ more) s.is in
    let items : run.posts ≡ s.items ++ more = cc in
    let ends = ended_of e history in
    let spread : bodies is.read.given ++ end_items (why_of run.stop) ≡ bodies from ++ (ends ++ (h.late ++ more)) =
    sym is.read.posted ∙ items ∙ ap (λ l. l ++ more) h.is ∙ append_assoc (bodies from ++ ends) h.late more ∙ append_assoc (bodies from) ends (h.late ++ more) in
    let f = first_of from is.read.given (ends ++ (h.late ++ more)) (why_of run.stop) spread in
    record {
      fed = is.read.fed;
      others = f.others ++ is.read.lost;
      rest = is.read.rest;
      read = is.read.read;
      splits = subst (λ l. Splits limit is.read.fed l is.read.rest) (ap (λ l. l ++ is.read.lost) f.are ∙ append_assoc from f.others is.read.lost) is.read.splits;
      ended = λ w gone real.
          let b = ended_by w f.others (h.late ++ more) (why_of run.stop) real (ap (λ ws. ended_items ws ++ (h.late ++ more)) (sym gone) ∙ f.rest) in
          let given : is.read.given ≡ from = f.are ∙ ap (λ l. from ++ l) b.0 ∙ append-nil from in
          stopped_as limit run is.read.fed from w run.stop refl real b.1 (subst (λ l. StoppedBy limit is.read.fed l run.ended.left run.began.source_faults run.ended.source_faults run.stop) given is.read.stopped);
    }

-- the k-th part of what was taken is the front of what the k-th run posted
pub run_at : (limit : ℕ) (runs : List Run) (taken rest : List Posted) (made : List (List Posted)) → ((k : ℕ) (run : Run) → slice_get runs k ≡ Some run → IsRun limit run) → taken ++ rest ≡ chain (map (λ (r : Run). posted.Link ∷ r.posts) runs) → parts is_link taken ≡ [] ∷ made
    → (k : ℕ) (part : List Posted) → slice_get made k ≡ Some part → (run : Run) × (slice_get runs k ≡ Some run) × ((more : List Posted) × (posted.Link ∷ run.posts ≡ part ++ more))
run_at limit runs taken rest made each whole cut k part at =
    let here : slice_get (parts is_link taken) (suc k) ≡ Some part = ap (λ l. slice_get l (suc k)) cut ∙ at in
    let goes = parts_go_on is_link taken rest (suc k) part here in
    let all : parts is_link (taken ++ rest) ≡ [] ∷ map (λ (r : Run). posted.Link ∷ r.posts) runs = ap (λ l. parts is_link l) whole ∙ parts_made is_link [] (map (λ (r : Run). posted.Link ∷ r.posts) runs) (sessions_of limit runs each) in
    let there : slice_get (map (λ (r : Run). posted.Link ∷ r.posts) runs) k ≡ Some (part ++ goes.more) = ap (λ l. slice_get l (suc k)) (sym all) ∙ goes.at in
    let m = mapped_at runs k (part ++ goes.more) there in
    (m.0, m.1, (goes.more, m.2))
