-- What each event of the history came of, by the sessions of the links and the starts of the berths.
use Rattle.std.proofs.Common.{◌≡◌, ◌≢◌, ℕ, zero, suc, ◌<◌, ◌≤◌, ◌+◌, ◌==◌, ◌⊎◌, inl, inr, Bool, true, false, List, [], ◌∷◌, ◌++◌, length, map, slice_get, refl, ap, sym, ◌∙◌, subst, arith, append_assoc, append-nil, ⊎_elim}
use Rattle.std.specs.Prelude.{Option, Some, None}
use Rattle.outside_io.specs.Faults.{Rose}
use Rattle.outside_io.specs.Sessions.{Session}
use Rattle.outside_io.specs.Told.{append_to, prepend_to}
use Rattle.outside_io.specs.contracts.memory.port.MemPortPort.TheImpl as port
use Rattle.std.proofs.lemmas.Bool.Decides.{eqb_tells}
use Rattle.mux_history.specs.declared.entry.Entry.{Entry}
use Rattle.mux_history.specs.declared.cause.Why.TheVariants as why
use Rattle.lane_lists.specs.declared.item.LaneName.TheVariants as lane
use Rattle.lane_lists.specs.declared.item.Order.{Order}
use Rattle.lane_lists.specs.declared.item.Order.TheVariants as order
use Rattle.lane_lists.specs.declared.item.Posted.TheVariants as posted
use Rattle.lane_lists.specs.declared.item.Item.{Item}
use Rattle.lane_lists.specs.declared.item.Side.{Side}
use Rattle.lane_lists.specs.declared.item.Side.TheVariants as side
use Rattle.lane_lists.specs.Deeds.{Fair, gather, orders, sessions, sides}
use Rattle.lane_lists.specs.Sides.{Answered, DrainedAnswered, FailedAnswered, answers, tagged}
use Rattle.lane_lists.specs.Sessions.{chain}
use Rattle.lane_lists.specs.History.{bodies_to, end_to}
use Rattle.lane_lists.specs.StartHistory.{tried_by}
use Rattle.lane_lists.specs.StartSides.{BeginOnce, StartAnswered, StartFailedAnswered, start_tagged}
use Rattle.mux_history.specs.Cores.{spawns}
use Rattle.lane_lists.specs.Origins.{AllIn, SitsIn, TriedIn}
use Rattle.lane_lists.specs.StartOrders.{bodies_to_start, end_to_start}
use Rattle.session_io.specs.declared.part.End.TheVariants as end
use Rattle.session_io.specs.declared.read.Stop.{Stop}
use Rattle.session_io.specs.declared.read.Stop.TheVariants as stop
use Rattle.session_io.specs.Reads.{StoppedBy}
use Rattle.mux_lanes.specs.Lanes.{Turn, all_rises}
use Rattle.mux_lanes.specs.Runs.{IsRun, IsWholeRun, Run, order_of}
use Rattle.mux_daemon.specs.declared.open.Lanes.{Lanes}
use Rattle.mux_daemon.specs.declared.serve.Answer.{Answer}
use Rattle.mux_daemon.specs.Served.{Story, history, is_end}
use Rattle.mux_daemon.specs.Sessions.{PortSessions, SaidIn, WrittenAs}
use Rattle.mux_daemon.specs.Starts.{BerthStarts, StartFailedAs, StartRan, failed_turn, how, up_turn}
use Rattle.mux_daemon.specs.Events.{CameOf}
use Rattle.mux_daemon.specs.Causes.{BodySaid, CameFrom, EditorCame, EventsOf, FailureCame, JoinedBy, ProgramCame, SinkRose, SourceOver, StartedBy, by_own, by_port, came_up, failed, in_berth, of_own, of_port}
use Rattle.mux_daemon.proofs.Places.{same_item}

item_at : {X : Type 0} (xs : List X) (i : ℕ) → i < length xs → (x : X) × (slice_get xs i ≡ Some x)
item_at [] i h = absurd (omega (arith, h))
item_at (x ∷ xs) zero h = (x, refl)
item_at (x ∷ xs) (suc i) h = item_at xs i (omega (arith, h))

within_at : {X : Type 0} (xs : List X) (i : ℕ) (x : X) → slice_get xs i ≡ Some x → i < length xs
within_at [] i x at = absurd cc
within_at (y ∷ xs) zero x at = omega arith
within_at (y ∷ xs) (suc i) x at = let w = within_at xs i x at in omega (arith, w)

-- what stands before and behind a part
abbrev Around : {Y : Type 0} → List Y → List Y → Type 0
Around {Y} whole part = (before : List Y) × (behind : List Y) × (whole ≡ before ++ (part ++ behind))

around_map : {X Y : Type 0} (f : X → Y) (xs : List X) (more : List Y) (k : ℕ) (x : X) → slice_get xs k ≡ Some x → Around (map f xs ++ more) (f x ∷ [])
around_map f [] more k x at = absurd cc
around_map f (y ∷ xs) more zero x at = ([], map f xs ++ more, ap (λ z. f z ∷ (map f xs ++ more)) (same_item y x at))
around_map f (y ∷ xs) more (suc k) x at = let r = around_map f xs more k x at in (f y ∷ r.0, r.1, ap (λ l. f y ∷ l) r.2)

around_chain : {X Y : Type 0} (f : X → List Y) (xs : List X) (k : ℕ) (x : X) → slice_get xs k ≡ Some x → Around (chain (map f xs)) (f x)
around_chain f [] k x at = absurd cc
around_chain f (y ∷ xs) zero x at = ([], chain (map f xs), ap (λ z. f z ++ chain (map f xs)) (same_item y x at))
around_chain f (y ∷ xs) (suc k) x at = let r = around_chain f xs k x at in (f y ++ r.0, r.1, ap (λ l. f y ++ l) r.2 ∙ sym (append_assoc (f y) r.0 (f x ++ r.1)))

came_from : {P : Type 0} (back left : P → Option (List Session)) (old new : P) (run : Run) (came gave : List Session) → left old ≡ prepend_to came (left new) → back new ≡ append_to (back old) gave → Around came (run.began ∷ []) → Around gave (run.ended ∷ []) → CameFrom back left old new run
came_from back left old new run came gave l b c g = record {
  came_before = c.0;
  came_behind = c.1;
  came = l ∙ ap (λ x. prepend_to x (left new)) c.2;
  back_before = g.0;
  back_behind = g.1;
  handed_back = b ∙ ap (λ x. append_to (back old) x) g.2;
}

-- a whole session that was ordered to be closed was closed by the history
closed_by : (bodies : List (List ℕ)) (given : List Order) (run : Run) → WrittenAs bodies given run → IsWholeRun run → run.wrote.end ≡ Some order.Close → given ≡ order.Close ∷ []
closed_by bodies given run w whole close = let e = w.ends whole in e.2 ∙ ap (λ o. o ∷ []) (same_item (order_of e.0) order.Close (sym e.1 ∙ close))

module _ {P : Type 0} (limit : ℕ) (s : Story) (went : Bool) (i : ℕ) (back left : P → Option (List Session)) (old new : P) (f : PortSessions limit s went i back left old new) where
  editor_came : (k e : ℕ) → slice_get (sessions s.editors s.servers (lane.Editor i) s.deeds) k ≡ Some e → EditorCame limit (history s) went back left old new e
  editor_came k e at =
      let r = f.served k e at in
      let run = r.0 in
      let read = r.2 in
      let wrote = r.3 in
      record {
        run = run;
        is_run = f.each k run r.1;
        whole = λ w. (f.whole w).1 k run r.1;
        link = came_from back left old new run (map (λ (r : Run). r.began) f.runs ++ f.refused) (map (λ (r : Run). r.ended) f.runs ++ f.refused) f.left_are f.back_are
            (around_map (λ (r : Run). r.began) f.runs f.refused k run r.1) (around_map (λ (r : Run). r.ended) f.runs f.refused k run r.1);
        read = read;
        written = wrote;
        ended = λ gone whole. ⊎_elim (λ t. inl t.1) (λ t. inr (closed_by (bodies_to e (history s)) (end_to e (history s)) run wrote whole (t.1 whole))) (read.ended why.End gone (λ h. absurd cc));
        read_fault = λ gone. ⊎_elim (λ t. t.1) (λ t. absurd (let none = t.0 in cc)) (read.ended why.ReadFault gone (λ h. absurd cc));
        bad_frame = λ gone. ⊎_elim (λ t. record { fed = read.fed; rest = t.0; read = read.read; splits = t.1.0; fault = t.2 }) (λ t. absurd (let none = t.0 in cc)) (read.ended why.BadFrame gone (λ h. absurd cc));
      }

  -- what was said of a body, in the session of its editor
  said_came : (k e bytes : ℕ) (what : Side)
      → slice_get (answers (sides s.editors s.servers (lane.Editor i) s.deeds) (tagged (sessions s.editors s.servers (lane.Editor i) s.deeds) (orders s.editors s.servers (lane.Editor i) s.deeds))) k ≡ Some ((e, bytes), what)
      → (came : EditorCame limit (history s) went back left old new e) × SaidIn came.run bytes what
  unfolding editor_came
  said_came k e bytes what at =
      let t = f.said k e bytes what at in
      let r = f.served t.place e t.of in
      (editor_came t.place e t.of, subst (λ run. SaidIn run bytes what) (same_item t.run r.0 (sym t.at ∙ r.1)) t.said)

rises_at : (turns : List Turn) (k : ℕ) (turn : Turn) → slice_get turns k ≡ Some turn → turn.rises ≤ all_rises turns
rises_at [] k turn at = absurd cc
rises_at (t ∷ turns) zero turn at = let same = ap (λ (t : Turn). t.rises) (same_item t turn at) in omega (arith, same)
rises_at (t ∷ turns) (suc k) turn at = let more = rises_at turns k turn at in omega (arith, more)

abbrev ran_as : (A W : Type 0) (limit servers : ℕ) (history : List Entry) (by : List Item) (start : ℕ) (turn : Turn) → (W → A) → StartRan A limit servers history by start turn → StartRan W limit servers history by start turn
ran_as A W limit servers history by start turn f r = record { run = r.run; is = r.is; is_run = r.is_run; whole = λ w. r.whole (f w); read = r.read; written = r.written }

failed_as : (A W : Type 0) (servers : ℕ) (history : List Entry) (start : ℕ) (turn : Turn) → (W → A) → StartFailedAs A servers history start turn → StartFailedAs W servers history start turn
failed_as A W servers history start turn f r = record { orders = r.orders; is = r.is; says = r.says; ends = λ w. r.ends (f w) }

over_as : (limit : ℕ) (bodies : List (List ℕ)) (given : List Order) (run : Run) (told : Stop) → run.stop ≡ told → IsRun limit run → WrittenAs bodies given run → IsWholeRun run → SourceOver limit run ⊎ (given ≡ order.Close ∷ []) ⊎ (run.stop ≡ stop.Told end.Done)
over_as limit bodies given run (stop.Ended w) is r wrote whole = inl (record {
  by = w;
  told = is;
  fed = r.read.fed;
  given = r.read.given;
  read = r.read.read;
  stopped = subst (λ x. StoppedBy limit r.read.fed r.read.given run.ended.left run.began.source_faults run.ended.source_faults x) is r.read.stopped;
})
over_as limit bodies given run (stop.Told end.Closed) is r wrote whole = inr (inl (closed_by bodies given run wrote whole (whole.ordered ∙ ap (λ x. Some (order_of x)) (sym (whole.agreed end.Closed is)))))
over_as limit bodies given run (stop.Told end.Done) is r wrote whole = inr (inr is)
over_as limit bodies given run stop.Cut is r wrote whole = absurd (whole.read is)

module _ {B : Type 0} (limit : ℕ) (s : Story) (went : Bool) (i : ℕ) (runs left : B → Option (List Session)) (misses : B → ℕ) (old new : B) (f : BerthStarts limit s went i runs left misses old new) where
  -- with a done work each turn is whole
  not_cut : (k : ℕ) (turn : Turn) → slice_get (f.turns ++ f.last) k ≡ Some turn → went ≡ true → k < length f.turns
  not_cut k turn at w = within_at f.turns k turn (ap (λ l. slice_get l k) (sym (append-nil f.turns) ∙ ap (λ l. f.turns ++ l) (sym (f.whole w))) ∙ at)

  program_came : (k x : ℕ) (turn : Turn) → slice_get (f.turns ++ f.last) k ≡ Some turn → StartRan (k < length f.turns) limit s.servers (history s) (how s x) x turn → ProgramCame limit s.servers (history s) (how s x) went runs left old new x
  program_came k x turn at did =
      let run = did.run in
      let all = f.turns ++ f.last in
      let c = around_chain (λ (t : Turn). t.came) all k turn at in
      let b = around_chain (λ (t : Turn). t.back) all k turn at in
      record {
        turn = turn;
        did = ran_as (k < length f.turns) (went ≡ true) limit s.servers (history s) (how s x) x turn (not_cut k turn at) did;
        program = came_from runs left old new run (chain (map (λ (t : Turn). t.came) all)) (chain (map (λ (t : Turn). t.back) all)) f.left_are f.back_are
            (c.0, c.1, c.2 ∙ ap (λ (t : Turn). c.0 ++ (t.came ++ c.1)) did.is) (b.0, b.1, b.2 ∙ ap (λ (t : Turn). b.0 ++ (t.back ++ b.1)) did.is);
        over = λ whole. over_as limit (bodies_to_start s.servers x (history s)) (end_to_start s.servers x (history s)) run run.stop refl did.is_run did.written whole;
        ended = λ w is whole. ⊎_elim (λ t. inl t) (λ t. inr (closed_by (bodies_to_start s.servers x (history s)) (end_to_start s.servers x (history s)) run did.written whole (t.1 whole))) (did.read.ended w is);
      }

  -- one turn is that of a run, and it is that of another, or of a start that failed
  began_same : (x : ℕ) (a b : Run) → up_turn x a ≡ up_turn x b → a.began ≡ b.began
  began_same x a b same = let came : a.began ∷ [] ≡ b.began ∷ [] = ap (λ (t : Turn). t.came) same in cc

  ended_same : (x : ℕ) (a b : Run) → up_turn x a ≡ up_turn x b → a.ended ≡ b.ended
  ended_same x a b same = let back : a.ended ∷ [] ≡ b.ended ∷ [] = ap (λ (t : Turn). t.back) same in cc

  not_failed : (x : ℕ) (orders : List Order) (run : Run) → failed_turn x orders ≡ up_turn x run → ⊥
  not_failed x orders run same = let posts : posted.NoStart ∷ [] ≡ posted.Up ∷ run.posts = ap (λ (t : Turn). t.posts) same in absurd cc

  -- the session of a start that went since a write failed
  sink_came : BeginOnce (orders s.editors s.servers (lane.Server i) s.deeds) → (k x bytes : ℕ)
      → slice_get (answers (sides s.editors s.servers (lane.Server i) s.deeds) (start_tagged None (orders s.editors s.servers (lane.Server i) s.deeds))) k ≡ Some ((x, bytes), side.Broke)
      → (place : ℕ) → slice_get (gather s.editors s.servers (tried_by (lane.Server i)) s.deeds) place ≡ Some x → (came : ProgramCame limit s.servers (history s) (how s x) went runs left old new x) × Rose came.did.run.began.sink_faults came.did.run.ended.sink_faults
  unfolding program_came
  sink_came once k x bytes at place tried =
      let b = f.broke once k x bytes at in
      let r = f.served place x tried in
      elim r.2 [
        | inl did ↦ absurd (not_failed x did.orders b.run (sym did.is ∙ b.only place r.0 did.orders r.1 (ap (λ (t : Turn). t.orders) did.is) ∙ b.is))
        | inr did ↦ (let same : up_turn x did.run ≡ up_turn x b.run = sym did.is ∙ b.only place r.0 did.run.orders r.1 (ap (λ (t : Turn). t.orders) did.is) ∙ b.is in (
          program_came place x r.0 r.1 did,
          subst (λ (y : Session). Rose y.sink_faults did.run.ended.sink_faults) (sym (began_same x did.run b.run same)) (subst (λ (z : Session). Rose b.run.began.sink_faults z.sink_faults) (sym (ended_same x did.run b.run same)) b.rose),
        ))
      ]

  failure_came : (k x : ℕ) (turn : Turn) → slice_get (f.turns ++ f.last) k ≡ Some turn → StartFailedAs (k < length f.turns) s.servers (history s) x turn → FailureCame s.servers (history s) went misses old new x
  failure_came k x turn at did = record {
    turn = turn;
    did = failed_as (k < length f.turns) (went ≡ true) s.servers (history s) x turn (not_cut k turn at) did;
    rose = (let one = ap (λ (t : Turn). t.rises) did.is in let least = rises_at (f.turns ++ f.last) k turn at in let by = f.rose in omega (arith, one, least, by));
  }

module _ {P B C : Type 0} (links_back links : P → Option (List Session)) (runs left : B → Option (List Session)) (misses : B → ℕ) (given moments : C → Option (List ℕ)) (limit : ℕ) (s : Story) (x : Answer) (old new : Lanes P B C)
    (servers : s.servers ≡ length old.berths.items) (ports_len : length new.ports.items ≡ length old.ports.items) (berths_len : length new.berths.items ≡ length old.berths.items) (f : CameOf links_back links runs left misses given moments limit s x old new) where
  joined_by : (e : ℕ) → (sits : SitsIn (length old.ports.items + 1) (length old.berths.items) s.deeds e) → s.editors ≡ length old.ports.items + 1 → JoinedBy links_back links runs left misses limit s x old new e
  joined_by e sits n =
      let i = sits.number in
      let at : slice_get (sessions s.editors s.servers (lane.Editor i) s.deeds) sits.place ≡ Some e =
      subst (λ (k : ℕ). slice_get (sessions k s.servers (lane.Editor i) s.deeds) sits.place ≡ Some e) (sym n) (subst (λ (k : ℕ). slice_get (sessions (length old.ports.items + 1) k (lane.Editor i) s.deeds) sits.place ≡ Some e) (sym servers) sits.at) in
      ⊎_elim
      (λ (t : ((i == length old.ports.items) ≡ true) × (i ≡ length old.ports.items)).
      let here : slice_get (sessions s.editors s.servers (lane.Editor (length old.ports.items)) s.deeds) sits.place ≡ Some e = subst (λ (k : ℕ). slice_get (sessions s.editors s.servers (lane.Editor k) s.deeds) sits.place ≡ Some e) t.1 at in
      of_own (λ stopped. let none : slice_get [] sits.place ≡ Some e = subst (λ l. slice_get l sits.place ≡ Some e) (f.stopped stopped) here in absurd cc)
      (editor_came limit s (is_end x) (length old.ports.items) port.ghosts.sessions port.ghosts.links old.own.outside new.own.outside f.own sits.place e here))
      (λ (t : ((i == length old.ports.items) ≡ false) × (i ≢ length old.ports.items)).
      let w = sits.within in
      let apart = t.1 in
      let p = item_at old.ports.items i (omega (arith, w, apart)) in
      let q = item_at new.ports.items i (omega (arith, w, apart, ports_len)) in
      of_port i p.0 q.0 p.1 q.1 (editor_came limit s (is_end x) i links_back links p.0.outside q.0.outside (f.ports i p.0 q.0 p.1 q.1) sits.place e at))
      (eqb_tells i (length old.ports.items))

  started_by : (n : ℕ) → (tried : TriedIn (length old.ports.items + 1) (length old.berths.items) s.deeds n) → s.editors ≡ length old.ports.items + 1 → StartedBy links_back links runs left misses limit s x old new n
  started_by n tried editors =
      let i = tried.number in
      let w = tried.within in
      let at : slice_get (gather s.editors s.servers (tried_by (lane.Server i)) s.deeds) tried.place ≡ Some n =
      subst (λ (k : ℕ). slice_get (gather k s.servers (tried_by (lane.Server i)) s.deeds) tried.place ≡ Some n) (sym editors) (subst (λ (k : ℕ). slice_get (gather (length old.ports.items + 1) k (tried_by (lane.Server i)) s.deeds) tried.place ≡ Some n) (sym servers) tried.at) in
      let p = item_at old.berths.items i w in
      let q = item_at new.berths.items i (omega (arith, w, berths_len)) in
      let b = f.berths i p.0 q.0 p.1 q.1 in
      let r = b.served tried.place n at in
      ⊎_elim
      (λ did. failed i p.0 q.0 p.1 q.1 (failure_came limit s (is_end x) i runs left misses p.0.outside q.0.outside b tried.place n r.0 r.1 did))
      (λ did. came_up i p.0 q.0 p.1 q.1 (program_came limit s (is_end x) i runs left misses p.0.outside q.0.outside b tried.place n r.0 r.1 did))
      r.2

  body_said : (e bytes : ℕ) (what : Side) → Answered s.editors s.servers s.deeds e bytes what → s.editors ≡ length old.ports.items + 1 → BodySaid links_back links runs left misses limit s x old new e bytes what
  body_said e bytes what a n =
      let i = a.number in
      let w = a.within in
      ⊎_elim
      (λ (t : ((i == length old.ports.items) ≡ true) × (i ≡ length old.ports.items)).
      let at = subst (λ (k : ℕ). slice_get (answers (sides s.editors s.servers (lane.Editor k) s.deeds) (tagged (sessions s.editors s.servers (lane.Editor k) s.deeds) (orders s.editors s.servers (lane.Editor k) s.deeds))) a.place ≡ Some ((e, bytes), what)) t.1 a.at in
      let said = said_came limit s (is_end x) (length old.ports.items) port.ghosts.sessions port.ghosts.links old.own.outside new.own.outside f.own a.place e bytes what at in
      let sits = (f.own.said a.place e bytes what at) in
      by_own (λ stopped. let none : slice_get [] sits.place ≡ Some e = subst (λ l. slice_get l sits.place ≡ Some e) (f.stopped stopped) sits.of in absurd cc) said.0 said.1)
      (λ (t : ((i == length old.ports.items) ≡ false) × (i ≢ length old.ports.items)).
      let apart = t.1 in
      let p = item_at old.ports.items i (omega (arith, w, n, apart)) in
      let q = item_at new.ports.items i (omega (arith, w, n, apart, ports_len)) in
      let said = said_came limit s (is_end x) i links_back links p.0.outside q.0.outside (f.ports i p.0 q.0 p.1 q.1) a.place e bytes what a.at in
      by_port i p.0 q.0 p.1 q.1 said.0 said.1)
      (eqb_tells i (length old.ports.items))

  sink_rose : (n bytes : ℕ) → StartAnswered s.editors s.servers s.deeds n bytes side.Broke → SinkRose links_back links runs left misses limit s x old new n
  sink_rose n bytes a =
      let i = a.number in
      let w = a.within in
      let p = item_at old.berths.items i (omega (arith, w, servers)) in
      let q = item_at new.berths.items i (omega (arith, w, servers, berths_len)) in
      let came = sink_came limit s (is_end x) i runs left misses p.0.outside q.0.outside (f.berths i p.0 q.0 p.1 q.1) a.once a.place n bytes a.at a.tried a.tried_at in
      in_berth i p.0 q.0 p.1 q.1 came.0 came.1

  pub events_of : Fair s.editors s.servers s.deeds → AllIn s.editors s.servers s.deeds → DrainedAnswered → FailedAnswered → ((y : ℕ) → spawns y (history s) ≤ 1) → StartFailedAnswered → s.editors ≡ length old.ports.items + 1 → EventsOf links_back links runs left misses limit s x old new
  events_of fair lanes drained_law failed_law once starts_law n = record {
    editors = λ e below. joined_by e (f.editors e below) n;
    starts = λ k some. started_by k (f.starts k some) n;
    drained = λ k e bytes at. body_said e bytes side.Wrote (drained_law s.editors s.servers s.deeds fair lanes k e bytes at) n;
    broke = λ k e at. let a = failed_law s.editors s.servers s.deeds fair lanes k e at in (a.0, body_said e a.0 side.Broke a.1 n);
    sinks = λ k m at. let a = starts_law s.editors s.servers s.deeds fair lanes once m k at in sink_rose m a.0 a.1;
  }
