-- What all lanes and the deck did, as one story.
use Rattle.std.proofs.Common.{◌≡◌, ◌≢◌, ℕ, zero, suc, ◌<◌, ◌+◌, ◌-◌, ◌⊎◌, nat_lt, if◌then◌else◌, Bool, not, true, false, List, [], ◌∷◌, ◌++◌, length, map, slice_get, refl, ap, ap₂, sym, ◌∙◌, subst, arith, append_assoc}
use Rattle.std.specs.Prelude.{IfSome, Option, Some, None}
use Rattle.std.proofs.lemmas.Option.{slice_get_within}
use Rattle.std.proofs.lemmas.Bool.Decides.{nat_tests}
use Rattle.outside_io.specs.Faults.{Rose}
use Rattle.outside_io.specs.Sessions.{Session}
use Rattle.outside_io.specs.contracts.memory.port.MemPortPort.TheImpl as port
use Rattle.mux_history.specs.declared.entry.Entry.{Entry}
use Rattle.mux_steps.specs.declared.fault.StepFault.{StepFault}
use Rattle.mux_steps.specs.declared.fault.StepFault.TheVariants as fault
use Rattle.lane_lists.specs.declared.item.LaneName.{LaneName}
use Rattle.lane_lists.specs.declared.item.LaneName.TheVariants as lane
use Rattle.lane_lists.specs.declared.item.Posted.TheVariants as posted
use Rattle.lane_lists.specs.Deeds.{entries, seats_of}
use Rattle.lane_lists.specs.Origins.{JoinedLast}
use Rattle.lane_queue.specs.Ends.{HubSide}
use Rattle.lane_desk.specs.Desks.{EndsAre, Ids, ids}
use Rattle.lane_desk.specs.Places.{name}
use Rattle.lane_desk.specs.Stops.{has_no_editor, is_done}
use Rattle.mux_lanes.specs.declared.lane_end.LaneEnd.TheVariants as lane_end
use Rattle.mux_lanes.specs.declared.session.Ends.{Ends}
use Rattle.mux_lanes.specs.Lanes.{CutLink, IsSameLane, RanAs, Turn, WholeLink, standing}
use Rattle.mux_lanes.specs.Starts.{Begun, CutBegun, WholeStart}
use Rattle.mux_lanes.specs.Ticks.{TickedAs}
use Rattle.mux_serve.specs.declared.job.LaneJob.{LaneJob}
use Rattle.mux_serve.specs.Jobs.{AllThrough, LaneRan}
use Rattle.mux_daemon.specs.declared.open.Lanes.{Lanes}
use Rattle.mux_daemon.specs.declared.open.Hubs.{Hubs}
use Rattle.mux_daemon.specs.declared.serve.Answer.{Answer}
use Rattle.mux_daemon.specs.declared.serve.Answer.TheVariants as answer
use Rattle.mux_daemon.specs.Opens.{IsOpened, IsPair, OpenedLanes, SameLanes}
use Rattle.mux_daemon.specs.Settles.{IsSettled, LanesPaired, LanesSettled}
use Rattle.mux_daemon.specs.Rans.{AreOver, HasSession, LanesRan, LanesWhole, NoneCut}
use Rattle.mux_daemon.specs.Served.{ClockServed, FinishedAs, LaneServed, LeftAs, QueuesAre, ServedAs, Story, begun_at, is_end}
use Rattle.mux_daemon.proofs.Places.{get_there, same_item, index_of}
use Rattle.mux_daemon.proofs.Running.{ran_none, ticked_none}

-- the lane of each place
pub name_editor : (n m i : ℕ) → i < n → name n m i ≡ lane.Editor i
name_editor n m i h = elim (nat_lt i n) as (λ b. nat_lt i n ≡ b → (if b then lane.Editor i else if nat_lt i (n + m) then lane.Server (i - n) else lane.Ticker) ≡ lane.Editor i) [ true ↦ λ t. refl | false ↦ λ t. absurd (grind (arith, nat_tests)) ] refl

pub name_server : (n m j : ℕ) → j < m → name n m (n + j) ≡ lane.Server j
name_server n m j h =
    elim (nat_lt (n + j) n) as (λ b. nat_lt (n + j) n ≡ b → (if b then lane.Editor (n + j) else if nat_lt (n + j) (n + m) then lane.Server ((n + j) - n) else lane.Ticker) ≡ lane.Server j) [
      | true ↦ λ t. absurd (grind (arith, nat_tests))
      | false ↦ λ t. elim (nat_lt (n + j) (n + m)) as (λ b. nat_lt (n + j) (n + m) ≡ b → (if b then lane.Server ((n + j) - n) else lane.Ticker) ≡ lane.Server j) [ true ↦ λ u. ap (λ k. lane.Server k) (omega arith) | false ↦ λ u. absurd (grind (arith, nat_tests)) ] refl
    ] refl

pub name_ticker : (n m : ℕ) → name n m (n + m) ≡ lane.Ticker
name_ticker n m =
    elim (nat_lt (n + m) n) as (λ b. nat_lt (n + m) n ≡ b → (if b then lane.Editor (n + m) else if nat_lt (n + m) (n + m) then lane.Server ((n + m) - n) else lane.Ticker) ≡ lane.Ticker) [
      | true ↦ λ t. absurd (grind (arith, nat_tests))
      | false ↦ λ t. elim (nat_lt (n + m) (n + m)) as (λ b. nat_lt (n + m) (n + m) ≡ b → (if b then lane.Server ((n + m) - n) else lane.Ticker) ≡ lane.Ticker) [ true ↦ λ u. absurd (grind (arith, nat_tests)) | false ↦ λ u. refl ] refl
    ] refl

-- ends of the same queues, at the same place
pub mapped : (xs ys : List HubSide) → map ids xs ≡ map ids ys → (k : ℕ) (x : HubSide) → slice_get xs k ≡ Some x → (y : HubSide) × (slice_get ys k ≡ Some y) × (ids x ≡ ids y)
mapped [] ys e k x at = absurd cc
mapped (a ∷ xs) [] e k x at = absurd cc
mapped (a ∷ xs) (b ∷ ys) e zero x at = (b, refl, (let same : a ≡ x = same_item a x at in let head : ids a ≡ ids b = cc in ap ids (sym same) ∙ head))
mapped (a ∷ xs) (b ∷ ys) e (suc k) x at = let tail : map ids xs ≡ map ids ys = cc in mapped xs ys tail k x at

pub pair_over : (e e' : Ends) (h h' : HubSide) → IsPair e h → IsSameLane e e' → ids h' ≡ ids h → IsPair e' h'
pair_over e e' h h' p s i = record {
  posted = s.posted ∙ p.posted ∙ sym (ap (λ (x : Ids). x.0) i);
  sides = s.sides ∙ p.sides ∙ sym (ap (λ (x : Ids). x.1.0) i);
  orders = s.orders ∙ p.orders ∙ sym (ap (λ (x : Ids). x.1.1) i);
}

-- the queues of a lane, by the deeds and by the join
pub queues_are : (s : Story) (all none went : Bool) (l : LaneName) (e : Ends) (hub : HubSide) → EndsAre s.editors s.servers s.deeds s.more all l hub → IsSettled e hub none → (went ≡ true → (all ≡ true) × (none ≡ true)) → QueuesAre s went l e.inn.pushed e.out.orders.taken e.out.sides.pushed
queues_are s all none went l e hub k t good = record {
  unread = t.unread;
  posts_are = t.posted ∙ ap (λ x. x ++ t.unread) k.posted;
  unsaid = t.unsaid;
  sides_are = t.said ∙ ap (λ x. x ++ t.unsaid) k.sides;
  unheard = t.unheard ++ k.rest;
  orders_are = k.pushed ∙ ap (λ x. x ++ k.rest) t.ordered ∙ append_assoc e.out.orders.taken t.unheard k.rest;
  all = λ w. let g = good w in ap₂ (λ x y. x ++ y) (t.none g.1) (k.whole g.0);
}

module _ {P : Type 0} (s : Story) (all none went : Bool) (l : LaneName) (back left : P → Option (List Session)) (faults : P → ℕ) (Whole Cut : Turn → Type 0) where
  pub lane_served : (old new : LaneJob P) (outside : P) (h0 h1 : HubSide) → IsOpened old h0 → ((e : Ends) → old.ends ≡ Some e → LaneRan back left faults Whole Cut old new e) → ((e : Ends) → new.ends ≡ Some e → IsSettled e h1 none)
      → EndsAre s.editors s.servers s.deeds s.more all l h1 → (went ≡ true → (all ≡ true) × (none ≡ true)) → (went ≡ true → new.end ≢ lane_end.Cut) → outside ≡ new.outside → LaneServed s went l Whole Cut back left faults old.outside outside
  lane_served old new outside h0 h1 o r t k good whole same =
      let ran = r o.ends o.has in
      let f = o.fresh in
      let start : standing back left faults old.outside o.ends ≡ begun_at back left faults old.outside =
      ap (λ x. record { back = back old.outside; left = left old.outside; faults = faults old.outside; posts = x; orders = o.ends.out.orders.taken; sides = o.ends.out.sides.pushed }) f.posts
      ∙ ap (λ x. record { back = back old.outside; left = left old.outside; faults = faults old.outside; posts = []; orders = x; sides = o.ends.out.sides.pushed }) f.orders
      ∙ ap (λ x. record { back = back old.outside; left = left old.outside; faults = faults old.outside; posts = []; orders = []; sides = x }) f.sides in
      record {
        posted = ran.after.inn.pushed;
        ordered = ran.after.out.orders.taken;
        said = ran.after.out.sides.pushed;
        end = new.end;
        ran = subst (λ a. RanAs Whole Cut a (record { back = back outside; left = left outside; faults = faults outside; posts = ran.after.inn.pushed; orders = ran.after.out.orders.taken; sides = ran.after.out.sides.pushed }) new.end) start
            (subst (λ y. RanAs Whole Cut (standing back left faults old.outside o.ends) (record { back = back y; left = left y; faults = faults y; posts = ran.after.inn.pushed; orders = ran.after.out.orders.taken; sides = ran.after.out.sides.pushed }) new.end) (sym same) ran.ran);
        queues = queues_are s all none went l ran.after h1 k (t ran.after ran.ends) good;
        whole = whole;
      }

  pub lane_none : (old : P) → (went ≡ true → ⊥) → QueuesAre s went l [] [] [] → LaneServed s went l Whole Cut back left faults old old
  lane_none old idle q = record {
    posted = [];
    ordered = [];
    said = [];
    end = lane_end.Over;
    ran = ran_none Whole Cut (begun_at back left faults old) lane_end.Over refl;
    queues = q;
    whole = λ w. absurd (idle w);
  }

none_cut : {P : Type 0} (jobs : List (LaneJob P)) → NoneCut jobs → (i : ℕ) (job : LaneJob P) → slice_get jobs i ≡ Some job → job.end ≢ lane_end.Cut
none_cut jobs f i job at e = f i job (slice_get_within jobs i job at) (ap (λ j. j.end) (index_of jobs i job job at) ∙ e)

-- some ends are there
pub hub_at : (hubs : List HubSide) (k : ℕ) → k < length hubs → (h : HubSide) × (slice_get hubs k ≡ Some h)
hub_at hubs k h = get_there hubs k h

module _ {P B C : Type 0} where
  pub over_opened : (lanes : Lanes P B C) (hubs : Hubs) → OpenedLanes lanes hubs → AreOver lanes
  over_opened lanes hubs o =
      let e = o.editors in
      let s = o.servers in
      let n = o.count in
      record {
        ports = λ i job at. let w = slice_get_within lanes.ports.items i job at in let h = hub_at hubs.ends.items i (omega (arith, e, s, n, w)) in (o.ports i job h.0 at h.1).end;
        own = let h = hub_at hubs.ends.items (length lanes.ports.items) (omega (arith, e, s, n)) in (o.own h.0 h.1).end;
        berths = λ i job at. let w = slice_get_within lanes.berths.items i job at in let h = hub_at hubs.ends.items (hubs.editors + i) (omega (arith, e, s, n, w)) in (o.berths i job h.0 at h.1).end;
        clock = let h = hub_at hubs.ends.items (hubs.editors + hubs.servers) (omega (arith, e, s, n)) in (o.clock h.0 h.1).end;
      }

  pub clock_opened : (lanes : Lanes P B C) (hubs : Hubs) → OpenedLanes lanes hubs → (e : Ends) × (lanes.clock.ends ≡ Some e)
  clock_opened lanes hubs o =
      let n = o.count in
      let h = hub_at hubs.ends.items (hubs.editors + hubs.servers) (omega (arith, n)) in
      let c = o.clock h.0 h.1 in (c.ends, c.has)

-- the ends that a lane came back with, and those of the deck
pair_back : {P : Type 0} (old new : LaneJob P) (h0 h1 : HubSide) → IsOpened old h0 → ids h1 ≡ ids h0 → ((e : Ends) → old.ends ≡ Some e → (after : Ends) × (new.ends ≡ Some after) × IsSameLane e after) → (e : Ends) → new.ends ≡ Some e → IsPair e h1
pair_back old new h0 h1 o i r e has =
    let ran = r o.ends o.has in
    let same : ran.0 ≡ e = same_item ran.0 e (sym ran.1 ∙ has) in
    subst (λ x. IsPair x h1) same (pair_over o.ends ran.0 h0 h1 o.pair ran.2 i)

mapped_length : (xs ys : List HubSide) → map ids xs ≡ map ids ys → length xs ≡ length ys
mapped_length [] [] e = refl
mapped_length [] (y ∷ ys) e = absurd cc
mapped_length (x ∷ xs) [] e = absurd cc
mapped_length (x ∷ xs) (y ∷ ys) e = let tail : map ids xs ≡ map ids ys = cc in ap suc (mapped_length xs ys tail)

module _ {P B C : Type 0} (sessions links : P → Option (List Session)) (faults : P → ℕ) (runs left : B → Option (List Session)) (misses : B → ℕ) (given moments : C → Option (List ℕ)) (limit : ℕ) (old new : Lanes P B C) (hubs : Hubs) (back : List HubSide)
    (o : OpenedLanes old hubs) (r : LanesRan sessions links faults runs left misses given moments limit old new) (same : map ids back ≡ map ids hubs.ends.items) where
  pub lanes_paired : LanesPaired new back
  lanes_paired =
      let e = o.editors in
      let s = o.servers in
      let n = o.count in
      let len = mapped_length back hubs.ends.items same in
      let pl = r.ports.len in
      let bl = r.berths.len in
      record {
        count = omega (arith, e, s, n, len, pl, bl);
        pairs = record {
          ports = λ i job ends hub at has at'.
              let w = slice_get_within new.ports.items i job at in
              let was = get_there old.ports.items i (omega (arith, pl, w)) in
              let h0 = mapped back hubs.ends.items same i hub at' in
              pair_back was.0 job h0.0 hub (o.ports i was.0 h0.0 was.1 h0.1) h0.2 (λ e1 has1. let ran = (r.ports.each i was.0 job was.1 at e1 has1).did in (ran.after, ran.ends, ran.lane)) ends has;
          own = λ ends hub has at'.
              let h0 = mapped back hubs.ends.items same (length new.ports.items) hub at' in
              pair_back old.own new.own h0.0 hub (o.own h0.0 (subst (λ k. slice_get hubs.ends.items k ≡ Some h0.0) pl h0.1)) h0.2 (λ e1 has1. let ran = (r.own e1 has1).did in (ran.after, ran.ends, ran.lane)) ends has;
          berths = λ i job ends hub at has at'.
              let w = slice_get_within new.berths.items i job at in
              let was = get_there old.berths.items i (omega (arith, bl, w)) in
              let h0 = mapped back hubs.ends.items same ((length new.ports.items + 1) + i) hub at' in
              let place : (length new.ports.items + 1) + i ≡ hubs.editors + i = omega (arith, pl, e) in
              pair_back was.0 job h0.0 hub (o.berths i was.0 h0.0 was.1 (subst (λ k. slice_get hubs.ends.items k ≡ Some h0.0) place h0.1)) h0.2 (λ e1 has1. let ran = (r.berths.each i was.0 job was.1 at e1 has1).did in (ran.after, ran.ends, ran.lane)) ends has;
          clock = λ ends hub has at'.
              let h0 = mapped back hubs.ends.items same ((length new.ports.items + 1) + length new.berths.items) hub at' in
              let place : (length new.ports.items + 1) + length new.berths.items ≡ hubs.editors + hubs.servers = omega (arith, pl, bl, e, s) in
              pair_back old.clock new.clock h0.0 hub (o.clock h0.0 (subst (λ k. slice_get hubs.ends.items k ≡ Some h0.0) place h0.1)) h0.2 (λ e1 has1. let ran = r.clock e1 has1 in (ran.after, ran.ends, ran.lane)) ends has;
        };
      }

  module _ {K : Type 0} (stands : K → List Entry → Type 0) (too_many : List Entry → Type 0) (stops : List Entry → Bool) (core : K) (spent done no_editor closed own_last : Bool) (why : Option StepFault) (last : Lanes P B C) (x : Answer)
      (k : LeftAs stands too_many stops hubs.editors hubs.servers core back spent done no_editor own_last why) (goes : done ≡ true → spent ≡ false) (through : closed ≡ true → AllThrough new.ports.items) (f : FinishedAs new back done no_editor closed own_last last x) (l : SameLanes new last) (numbers : x ≡ answer.Numbers → why ≡ Some fault.Numbers) where
    abbrev story : Story
    story = record { editors = hubs.editors; servers = hubs.servers; deeds = k.1.deeds; more = k.1.more }

    abbrev all : Bool
    all = not spent

    all_of : done ≡ true → not spent ≡ true
    all_of e = ap not (goes e)

    good : is_end x ≡ true → (all ≡ true) × (f.none_left ≡ true)
    good e = let g = f.over e in (all_of g.0, g.2)

    ends_at : (i : ℕ) (h : HubSide) (n : LaneName) → slice_get back i ≡ Some h → name hubs.editors hubs.servers i ≡ n → EndsAre story.editors story.servers story.deeds story.more all n h
    ends_at i h n at e = subst (λ y. EndsAre hubs.editors hubs.servers k.1.deeds k.1.more all y h) e (k.1.ends_are i h at)

    pub served : ServedAs stands too_many stops sessions links faults runs left misses given moments limit core old last x
    served =
        let e = o.editors in
        let s = o.servers in
        let n = o.count in
        let len = mapped_length back hubs.ends.items same in
        let pl = r.ports.len in
        let bl = r.berths.len in
        let lp = l.ports.len in
        let lb = l.berths.len in
        record {
          story = story;
          editors = e;
          servers = s;
          fair = k.1.fair;
          lanes = k.1.lanes;
          stands_for = k.1.stands_for;
          once = k.1.once;
          ports_len = lp ∙ pl;
          ports = λ i p q at at'.
              let w = slice_get_within old.ports.items i p at in
              let mid = get_there new.ports.items i (omega (arith, pl, w)) in
              let h1 = get_there back i (omega (arith, len, n, e, s, w)) in
              let h0 = mapped back hubs.ends.items same i h1.0 h1.1 in
              lane_served story all f.none_left (is_end x) (lane.Editor i) sessions links faults (WholeLink posted.Link limit) (CutLink posted.Link limit) p mid.0 q.outside h0.0 h1.0 (o.ports i p h0.0 at h0.1) (λ a b. (r.ports.each i p mid.0 at mid.1 a b).did)
              (λ a b. f.settled.ports i mid.0 a h1.0 mid.1 b h1.1) (ends_at i h1.0 (lane.Editor i) h1.1 (name_editor hubs.editors hubs.servers i (omega (arith, e, w)))) good (λ g. none_cut new.ports.items (f.over g).3.ports i mid.0 mid.1) (l.ports.each i mid.0 q mid.1 at');
          own =
              let h1 = get_there back (length old.ports.items) (omega (arith, len, n, e, s)) in
              let h0 = mapped back hubs.ends.items same (length old.ports.items) h1.0 h1.1 in
              lane_served story all f.none_left (is_end x) (lane.Editor (length old.ports.items)) port.ghosts.sessions port.ghosts.links port.ghosts.faults (WholeLink posted.Link limit) (CutLink posted.Link limit) old.own new.own last.own.outside h0.0 h1.0 (o.own h0.0 h0.1) (λ a b. (r.own a b).did)
              (λ a b. f.settled.own a h1.0 b (subst (λ j. slice_get back j ≡ Some h1.0) (sym pl) h1.1)) (ends_at (length old.ports.items) h1.0 (lane.Editor (length old.ports.items)) h1.1 (name_editor hubs.editors hubs.servers (length old.ports.items) (omega (arith, e)))) good (λ g. (f.over g).3.own) l.own;
          berths_len = lb ∙ bl;
          berths = λ i p q at at'.
              let w = slice_get_within old.berths.items i p at in
              let mid = get_there new.berths.items i (omega (arith, bl, w)) in
              let h1 = get_there back (hubs.editors + i) (omega (arith, len, n, e, s, w)) in
              let h0 = mapped back hubs.ends.items same (hubs.editors + i) h1.0 h1.1 in
              let place : hubs.editors + i ≡ (length new.ports.items + 1) + i = omega (arith, pl, e) in
              lane_served story all f.none_left (is_end x) (lane.Server i) runs left misses (Begun (WholeStart limit)) (CutBegun limit) p mid.0 q.outside h0.0 h1.0 (o.berths i p h0.0 at h0.1) (λ a b. (r.berths.each i p mid.0 at mid.1 a b).did)
              (λ a b. f.settled.berths i mid.0 a h1.0 mid.1 b (subst (λ j. slice_get back j ≡ Some h1.0) place h1.1)) (ends_at (hubs.editors + i) h1.0 (lane.Server i) h1.1 (name_server hubs.editors hubs.servers i (omega (arith, s, w)))) good (λ g. none_cut new.berths.items (f.over g).3.berths i mid.0 mid.1) (l.berths.each i mid.0 q mid.1 at');
          clock =
              let h1 = get_there back (hubs.editors + hubs.servers) (omega (arith, len, n)) in
              let h0 = mapped back hubs.ends.items same (hubs.editors + hubs.servers) h1.0 h1.1 in
              let place : hubs.editors + hubs.servers ≡ (length new.ports.items + 1) + length new.berths.items = omega (arith, pl, bl, e, s) in
              let opened = o.clock h0.0 h0.1 in
              let ran = r.clock opened.ends opened.has in
              let q = queues_are story all f.none_left (is_end x) lane.Ticker ran.after h1.0 (ends_at (hubs.editors + hubs.servers) h1.0 lane.Ticker h1.1 (name_ticker hubs.editors hubs.servers)) (f.settled.clock ran.after h1.0 ran.ends (subst (λ j. slice_get back j ≡ Some h1.0) place h1.1)) good in
              let heard : ran.after.out.orders.taken ≡ [] = ap (λ y. y.orders.taken) ran.silent ∙ opened.fresh.orders in
              let said : ran.after.out.sides.pushed ≡ [] = ap (λ y. y.sides.pushed) ran.silent ∙ opened.fresh.sides in
              record {
                posted = ran.after.inn.pushed;
                end = new.clock.end;
                ticked = subst (λ y. TickedAs (given old.clock.outside) (given y) (moments old.clock.outside) (moments y) [] ran.after.inn.pushed new.clock.end) (sym l.clock)
                    (subst (λ y. TickedAs (given old.clock.outside) (given new.clock.outside) (moments old.clock.outside) (moments new.clock.outside) y ran.after.inn.pushed new.clock.end) opened.fresh.posts ran.ticked);
                queues = subst (λ y. QueuesAre story (is_end x) lane.Ticker ran.after.inn.pushed [] y) said (subst (λ y. QueuesAre story (is_end x) lane.Ticker ran.after.inn.pushed y ran.after.out.sides.pushed) heard q);
                whole = λ g. (f.over g).3.clock;
              };
          over = λ g.
              let h = f.over g in
              let here : k.0 ≡ seats_of hubs.editors hubs.servers k.1.deeds = k.1.seats_are (all_of h.0) in (
                k.1.none_more (all_of h.0),
                ap (λ y. is_done stops (entries hubs.editors hubs.servers k.1.deeds) y) (sym here) ∙ k.2.stopped (entries hubs.editors hubs.servers k.1.deeds) k.1.stands_for h.0,
                ap has_no_editor (sym here) ∙ sym k.2.left ∙ h.1,
              );
          closed = λ g.
              let c = f.closed g in (
                (λ i p q at at'.
                    let w = slice_get_within old.ports.items i p at in
                    let mid = get_there new.ports.items i (omega (arith, pl, w)) in
                    let h1 = get_there back i (omega (arith, len, n, e, s, w)) in
                    let h0 = mapped back hubs.ends.items same i h1.0 h1.1 in
                    let opened = o.ports i p h0.0 at h0.1 in
                    let came : mid.0.end ≡ lane_end.Through = ap (λ (j : LaneJob P). j.end) (sym (index_of new.ports.items i mid.0 mid.0 mid.1)) ∙ through c.0 i mid.0 (slice_get_within new.ports.items i mid.0 mid.1) in
                    let ran = r.ports.each i p mid.0 at mid.1 opened.ends opened.has in
                    subst (λ y. IfSome (links y) (λ none. none ≡ []) ⊎ Rose (faults p.outside) (faults y)) (sym (l.ports.each i mid.0 q mid.1 at')) (ran.closed came)),
                c.2,
                (let own = k.1.own_last c.1 in let is_last = own.is_last in let number : own.number ≡ length old.ports.items = omega arith in
                    subst (λ (i : ℕ). JoinedLast hubs.editors hubs.servers i k.1.deeds) number own.joined),
              );
          stopped = f.stopped;
          numbers = λ e. k.1.numbers (numbers e);
        }

-- nothing was run
pub served_none : {K P B C : Type 0} (stands : K → List Entry → Type 0) (too_many : List Entry → Type 0) (stops : List Entry → Bool) (sessions links : P → Option (List Session)) (faults : P → ℕ) (runs left : B → Option (List Session)) (misses : B → ℕ) (given moments : C → Option (List ℕ)) (limit : ℕ) (core : K) (lanes : Lanes P B C)
    → stands core [] → ServedAs stands too_many stops sessions links faults runs left misses given moments limit core lanes lanes answer.Memory
served_none stands too_many stops sessions links faults runs left misses given moments limit core lanes s =
    let story : Story = record { editors = length lanes.ports.items + 1; servers = length lanes.berths.items; deeds = []; more = None } in
    let queues : (l : LaneName) → QueuesAre story false l [] [] [] = λ l. record { unread = []; posts_are = refl; unsaid = []; sides_are = refl; unheard = []; orders_are = refl; all = λ e. absurd cc } in
    record {
      story = story;
      editors = refl;
      servers = refl;
      fair = tt;
      lanes = tt;
      stands_for = s;
      once = λ x. omega arith;
      ports_len = refl;
      ports = λ i p q at at'. let e : p ≡ q = same_item p q (sym at ∙ at') in
          subst (λ y. LaneServed story false (lane.Editor i) (WholeLink posted.Link limit) (CutLink posted.Link limit) sessions links faults p.outside y.outside) e
          (lane_none story true true false (lane.Editor i) sessions links faults (WholeLink posted.Link limit) (CutLink posted.Link limit) p.outside (λ w. absurd cc) (queues (lane.Editor i)));
      own = lane_none story true true false (lane.Editor (length lanes.ports.items)) port.ghosts.sessions port.ghosts.links port.ghosts.faults (WholeLink posted.Link limit) (CutLink posted.Link limit) lanes.own.outside (λ w. absurd cc) (queues (lane.Editor (length lanes.ports.items)));
      berths_len = refl;
      berths = λ i p q at at'. let e : p ≡ q = same_item p q (sym at ∙ at') in
          subst (λ y. LaneServed story false (lane.Server i) (Begun (WholeStart limit)) (CutBegun limit) runs left misses p.outside y.outside) e
          (lane_none story true true false (lane.Server i) runs left misses (Begun (WholeStart limit)) (CutBegun limit) p.outside (λ w. absurd cc) (queues (lane.Server i)));
      clock = record { posted = []; end = lane_end.Over; ticked = ticked_none (given lanes.clock.outside) (moments lanes.clock.outside); queues = queues lane.Ticker; whole = λ w. absurd cc };
      over = λ g. absurd cc;
      closed = λ g. absurd cc;
      stopped = λ g. absurd cc;
      numbers = λ g. absurd cc;
    }

-- from what the lanes served before they were opened
pub served_from : {K P B C : Type 0} (stands : K → List Entry → Type 0) (too_many : List Entry → Type 0) (stops : List Entry → Bool) (sessions links : P → Option (List Session)) (faults : P → ℕ) (runs left : B → Option (List Session)) (misses : B → ℕ) (given moments : C → Option (List ℕ)) (limit : ℕ) (core : K) (before old new : Lanes P B C) (x : Answer)
    → SameLanes before old → ServedAs stands too_many stops sessions links faults runs left misses given moments limit core old new x → ServedAs stands too_many stops sessions links faults runs left misses given moments limit core before new x
served_from {K} {P} {B} {C} stands too_many stops sessions links faults runs left misses given moments limit core before old new x l f = record {
  story = f.story;
  editors = f.editors ∙ ap (λ k. k + 1) l.ports.len;
  servers = f.servers ∙ l.berths.len;
  fair = f.fair;
  lanes = f.lanes;
  stands_for = f.stands_for;
  once = f.once;
  ports_len = f.ports_len ∙ l.ports.len;
  ports = λ i p q at at'.
      let mid = get_there old.ports.items i (let w = slice_get_within before.ports.items i p at in let e = l.ports.len in omega (arith, w, e)) in
      subst (λ y. LaneServed f.story (is_end x) (lane.Editor i) (WholeLink posted.Link limit) (CutLink posted.Link limit) sessions links faults y q.outside) (l.ports.each i p mid.0 at mid.1) (f.ports i mid.0 q mid.1 at');
  own = subst (λ k. LaneServed f.story (is_end x) (lane.Editor k) (WholeLink posted.Link limit) (CutLink posted.Link limit) port.ghosts.sessions port.ghosts.links port.ghosts.faults before.own.outside new.own.outside) l.ports.len
      (subst (λ y. LaneServed f.story (is_end x) (lane.Editor (length old.ports.items)) (WholeLink posted.Link limit) (CutLink posted.Link limit) port.ghosts.sessions port.ghosts.links port.ghosts.faults y new.own.outside) l.own f.own);
  berths_len = f.berths_len ∙ l.berths.len;
  berths = λ i p q at at'.
      let mid = get_there old.berths.items i (let w = slice_get_within before.berths.items i p at in let e = l.berths.len in omega (arith, w, e)) in
      subst (λ y. LaneServed f.story (is_end x) (lane.Server i) (Begun (WholeStart limit)) (CutBegun limit) runs left misses y q.outside) (l.berths.each i p mid.0 at mid.1) (f.berths i mid.0 q mid.1 at');
  clock = subst (λ y. ClockServed f.story (is_end x) given moments y new.clock.outside) l.clock f.clock;
  over = f.over;
  closed = λ g. let c = f.closed g in (
    (λ i p q at at'.
        let mid = get_there old.ports.items i (let w = slice_get_within before.ports.items i p at in let e = l.ports.len in omega (arith, w, e)) in
        subst (λ y. IfSome (links q.outside) (λ none. none ≡ []) ⊎ Rose (faults y) (faults q.outside)) (l.ports.each i p mid.0 at mid.1) (c.0 i mid.0 q mid.1 at')),
    c.1,
    subst (λ (k : ℕ). JoinedLast f.story.editors f.story.servers k f.story.deeds) l.ports.len c.2,
  );
  stopped = f.stopped;
  numbers = f.numbers;
}

-- from what was looked up at the end
pub finished : {P B C : Type 0} (lanes new : Lanes P B C) (hubs : List HubSide) (done no_editor ports_closed own_last none_left is_whole is_done is_closed has_own : Bool) (x : Answer) → LanesSettled lanes hubs none_left → (is_whole ≡ true → LanesWhole lanes) → (is_end x ≡ true → is_done ≡ true)
    → (is_done ≡ true → (done ≡ true) × (no_editor ≡ true) × (none_left ≡ true) × (is_whole ≡ true)) → (x ≡ answer.PortsClosed → is_closed ≡ true) → (is_closed ≡ true → (ports_closed ≡ true) × (own_last ≡ true) × HasSession new.own.outside)
    → (x ≡ answer.Stopped → has_own ≡ false) → (has_own ≡ false → port.ghosts.sessions new.own.outside ≡ Some []) → FinishedAs lanes hubs done no_editor ports_closed own_last new x
finished lanes new hubs done no_editor ports_closed own_last none_left is_whole is_done is_closed has_own x settled whole end all closed both stopped none = record {
  none_left = none_left;
  settled = settled;
  over = λ e. let a = all (end e) in (a.0, a.1, a.2, whole a.3);
  closed = λ e. both (closed e);
  stopped = λ e. none (stopped e);
}
