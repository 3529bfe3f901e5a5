-- What follows of what a daemon served.
use Rattle.std.proofs.Common.{◌≡◌, ℕ, Bool, true, List, [], ◌∷◌, ◌++◌, length, map, slice_get, refl, ap, sym, ◌∙◌, subst, arith, append_assoc}
use Rattle.std.specs.Prelude.{Option, Some, None}
use Rattle.std.proofs.lemmas.Option.{slice_get_within}
use Rattle.outside_io.specs.Sessions.{Session}
use Rattle.outside_io.specs.Told.{append_to, prepend_to}
use Rattle.outside_io.specs.contracts.memory.port.MemPortPort.TheImpl as port
use Rattle.mux_history.specs.declared.entry.Entry.{Entry}
use Rattle.lane_lists.specs.declared.item.LaneName.TheVariants as lane
use Rattle.lane_lists.specs.declared.item.Posted.{Posted}
use Rattle.lane_lists.specs.declared.item.Posted.TheVariants as posted
use Rattle.lane_lists.specs.Deeds.{posts, sessions}
use Rattle.lane_lists.specs.Origins.{EditorsSit, SitsIn, StartsTriedIn, TicksPosted, TriedIn, ticks_of}
use Rattle.lane_desk.specs.Desks.{posted_at}
use Rattle.mux_lanes.specs.Runs.{Run}
use Rattle.mux_daemon.specs.declared.open.Lanes.{Lanes}
use Rattle.mux_daemon.specs.declared.serve.Answer.{Answer}
use Rattle.mux_daemon.specs.Served.{ClockServed, ServedAs, Story, history, is_end}
use Rattle.mux_daemon.specs.Sessions.{PortLaw, PortSessions}
use Rattle.mux_daemon.specs.Starts.{BerthLaw}
use Rattle.mux_daemon.specs.Events.{CameOf, TicksAre}

-- what was posted first are the first of the moments
moments_front : (xs ys : List ℕ) (zs : List Posted) → map posted.Tick xs ≡ map posted.Tick ys ++ zs → (rest : List ℕ) × (xs ≡ ys ++ rest)
moments_front xs [] zs e = (xs, refl)
moments_front [] (y ∷ ys) zs e = absurd cc
moments_front (x ∷ xs) (y ∷ ys) zs e =
    let one : x ≡ y = cc in
    let r = moments_front xs ys zs cc in (r.0, ap (λ z. z ∷ xs) one ∙ ap (λ l. y ∷ l) r.1)

ticks_are : {C : Type 0} (s : Story) (went : Bool) (given left : C → Option (List ℕ)) (old new : C) → posts s.editors s.servers lane.Ticker s.deeds ≡ map posted.Tick (ticks_of (history s)) → ClockServed s went given left old new → TicksAre given left (history s) old new
ticks_are s went given left old new law c =
    let t = c.ticked in
    let q = c.queues in
    let ticks = ticks_of (history s) in
    let taken = posts s.editors s.servers lane.Ticker s.deeds in
    let more = posted_at lane.Ticker s.more in
    let f = moments_front t.ticks ticks (more ++ q.unread) (sym t.posted ∙ q.posts_are ∙ append_assoc taken more q.unread ∙ ap (λ l. l ++ (more ++ q.unread)) law) in
    let all : t.ticks ++ t.refused ≡ ticks ++ (f.0 ++ t.refused) = ap (λ l. l ++ t.refused) f.1 ∙ append_assoc ticks f.0 t.refused in
    record { rest = f.0 ++ t.refused; given_are = t.given_are ∙ ap (λ l. append_to (given old) l) all; left_are = t.left_are ∙ ap (λ l. prepend_to l (left new)) all }

-- nothing was handed back
none_added : (before : Option (List Session)) (more : List Session) → Some [] ≡ append_to before more → more ≡ []
none_added None more e = absurd cc
none_added (Some []) more e = let m : [] ≡ more = cc in sym m
none_added (Some (s ∷ before)) more e = absurd cc

no_runs : (runs : List Run) → map (λ (r : Run). r.ended) runs ++ [] ≡ [] → runs ≡ []
no_runs [] e = refl
no_runs (r ∷ runs) e = absurd cc

no_sessions : (ids : List ℕ) (runs : List Run) → runs ≡ [] → ((k e : ℕ) → slice_get ids k ≡ Some e → (run : Run) × (slice_get runs k ≡ Some run)) → ids ≡ []
no_sessions [] runs none f = refl
no_sessions (e ∷ ids) [] none f = let r = f 0 e refl in let at = r.1 in absurd cc
no_sessions (e ∷ ids) (run ∷ runs) none f = absurd cc

-- a port that got no link back had no editor
none_sat : {P : Type 0} (limit : ℕ) (s : Story) (i : ℕ) (back left : P → Option (List Session)) (old new : P) → back new ≡ Some [] → PortSessions limit s true i back left old new → sessions s.editors s.servers (lane.Editor i) s.deeds ≡ []
none_sat limit s i back left old new none p =
    let refused : p.refused ≡ [] = (p.whole refl).0 in
    let more = none_added (back old) (map (λ (r : Run). r.ended) p.runs ++ p.refused) (sym none ∙ p.back_are) in
    let runs : p.runs ≡ [] = no_runs p.runs (ap (λ l. map (λ (r : Run). r.ended) p.runs ++ l) (sym refused) ∙ more) in
    no_sessions (sessions s.editors s.servers (lane.Editor i) s.deeds) p.runs runs (λ k e at. let r = p.served k e at in (r.0, r.1))

module _ {K P B C : Type 0} (stands : K → List Entry → Type 0) (too_many : List Entry → Type 0) (stops : List Entry → Bool) (links_back links : P → Option (List Session)) (faults : P → ℕ) (runs left : B → Option (List Session)) (misses : B → ℕ) (given moments : C → Option (List ℕ)) (limit : ℕ) (core : K) (old new : Lanes P B C)
    (port_law : PortLaw links_back links faults) (own_law : PortLaw port.ghosts.sessions port.ghosts.links port.ghosts.faults) (berth_law : BerthLaw runs left misses) (ticks : TicksPosted) (editors : EditorsSit) (starts : StartsTriedIn) where
  pub came_of : (x : Answer) (f : ServedAs stands too_many stops links_back links faults runs left misses given moments limit core old new x) → CameOf links_back links runs left misses given moments limit f.story x old new
  came_of x f =
      let s = f.story in
      let n = f.editors in
      let m = f.servers in
      let own : PortSessions limit s (is_end x) (length old.ports.items) port.ghosts.sessions port.ghosts.links old.own.outside new.own.outside =
      own_law limit s (is_end x) (length old.ports.items) old.own.outside new.own.outside (omega arith) f.fair f.own in
      record {
        ports = λ i p q at at'. let w = slice_get_within old.ports.items i p at in port_law limit s (is_end x) i p.outside q.outside (omega arith) f.fair (f.ports i p q at at');
        own = own;
        berths = λ i p q at at'. let w = slice_get_within old.berths.items i p at in berth_law limit s (is_end x) i p.outside q.outside (omega arith) f.fair f.once (f.berths i p q at at');
        editors = λ e below. subst (λ (k : ℕ). SitsIn k (length old.berths.items) s.deeds e) n (subst (λ (k : ℕ). SitsIn s.editors k s.deeds e) m (editors s.editors s.servers s.deeds f.fair f.lanes e below));
        starts = λ k some. subst (λ (j : ℕ). TriedIn j (length old.berths.items) s.deeds k) n (subst (λ (j : ℕ). TriedIn s.editors j s.deeds k) m (starts s.editors s.servers s.deeds f.fair k some));
        ticks = ticks_are s (is_end x) given moments old.clock.outside new.clock.outside (ticks s.editors s.servers s.deeds f.fair) f.clock;
        closed = λ e. (f.closed e).2;
        stopped = λ e. none_sat limit s (length old.ports.items) port.ghosts.sessions port.ghosts.links old.own.outside new.own.outside (f.stopped e) (subst (λ y. PortSessions limit s (is_end y) (length old.ports.items) port.ghosts.sessions port.ghosts.links old.own.outside new.own.outside) e own);
      }
