-- What lanes did, place by place; and lanes that weren't run.
use Rattle.std.proofs.Common.{Bool, ◌≡◌, ℕ, ◌<◌, List, [], length, slice_get, slice_index_or, true, false, refl, ap, sym, ◌∙◌, subst, arith, append-nil}
use Rattle.std.specs.Prelude.{Option, Some, None}
use Rattle.std.proofs.lemmas.Option.{slice_get_within}
use Rattle.std.proofs.lemmas.List.Elements.{All-nil}
use Rattle.outside_io.specs.Sessions.{Session}
use Rattle.outside_io.specs.declared.memory.port.MemPort.{MemPort}
use Rattle.lane_queue.specs.Ends.{OutSide, Pushing}
use Rattle.outside_io.specs.Told.{append_to, prepend_to}
use Rattle.outside_io.specs.contracts.memory.port.MemPortPort.TheImpl as port
use Rattle.lane_lists.specs.declared.item.Posted.{Posted}
use Rattle.lane_lists.specs.declared.item.Posted.TheVariants as posted
use Rattle.mux_lanes.specs.declared.lane_end.LaneEnd.{LaneEnd}
use Rattle.mux_lanes.specs.declared.lane_end.LaneEnd.TheVariants as lane_end
use Rattle.mux_lanes.specs.declared.session.Ends.{Ends}
use Rattle.mux_lanes.specs.Lanes.{CutLink, RanAs, Standing, Turn, WholeLink, standing}
use Rattle.mux_lanes.specs.Starts.{Begun, CutBegun, WholeStart}
use Rattle.mux_lanes.specs.Ticks.{TickedAs}
use Rattle.mux_serve.specs.declared.job.LaneJob.{LaneJob}
use Rattle.mux_serve.specs.Jobs.{AllBerthsRan, AllPortsRan, BerthRan, LaneRan, PortRan}
use Rattle.mux_daemon.specs.declared.open.Lanes.{Lanes}
use Rattle.mux_daemon.specs.Opens.{Pairs}
use Rattle.mux_daemon.specs.Rans.{AreOver, ClockRan, LanesRan}
use Rattle.mux_daemon.proofs.Places.{index_of, same_item}

appended_none : {T : Type 0} (told : Option (List T)) → told ≡ append_to told []
appended_none None = refl
appended_none (Some xs) = ap (λ l. Some l) (sym (append-nil xs))

prepended_none : {T : Type 0} (told : Option (List T)) → told ≡ prepend_to [] told
prepended_none None = refl
prepended_none (Some xs) = refl

pub ticked_none : (given left : Option (List ℕ)) → TickedAs given given left left [] [] lane_end.Over
ticked_none given left = record { ticks = []; refused = []; given_are = appended_none given; left_are = prepended_none left; posted = refl; one = omega arith; whole = λ _. refl; through = λ t. absurd cc }

-- by index
pub by_index : {P : Type 0} (Q : LaneJob P → LaneJob P → Ends → Type 0) (old new : List (LaneJob P)) → length new ≡ length old
    → ((i : ℕ) (d : LaneJob P) (e : Ends) → i < length old → (slice_index_or old i d).ends ≡ Some e → Q (slice_index_or old i d) (slice_index_or new i d) e) → Pairs (λ (p q : LaneJob P). (e : Ends) → p.ends ≡ Some e → Q p q e) old new
by_index {P} Q old new len f = record {
  len = len;
  each = λ i p q at at' e has.
      let here : slice_index_or old i p ≡ p = index_of old i p p at in
      let there : slice_index_or new i p ≡ q = index_of new i p q at' in
      let ran = f i p e (slice_get_within old i p at) (ap (λ (j : LaneJob P). j.ends) here ∙ has) in
      subst (λ y. Q p y e) there (subst (λ x. Q x (slice_index_or new i p) e) here ran);
}

-- no turns
pub ran_none : (Whole Cut : Turn → Type 0) (at : Standing) (end : LaneEnd) → end ≡ lane_end.Over → RanAs Whole Cut at at end
ran_none Whole Cut at end over = record {
  turns = [];
  last = [];
  each = All-nil Whole;
  cut = All-nil Cut;
  few = omega arith;
  adds = record {
    left = prepended_none at.left;
    back = appended_none at.back;
    later = omega arith;
    rise = omega arith;
    posts = sym (append-nil at.posts);
    orders = sym (append-nil at.orders);
    sides = sym (append-nil at.sides);
  };
  whole = λ _. refl;
  torn = λ e. absurd cc;
}

module _ {P : Type 0} where
  lane_none : (back left : P → Option (List Session)) (faults : P → ℕ) (Whole Cut : Turn → Type 0) (job : LaneJob P) → job.end ≡ lane_end.Over → (e : Ends) → job.ends ≡ Some e → LaneRan back left faults Whole Cut job job e
  lane_none back left faults Whole Cut job over e has = record {
    after = e;
    ends = has;
    number = refl;
    lane = record { posted = refl; orders = refl; sides = refl };
    ran = ran_none Whole Cut (standing back left faults job.outside e) job.end over;
  }

  pub port_none : (sessions links : P → Option (List Session)) (faults : P → ℕ) (limit : ℕ) (job : LaneJob P) → job.end ≡ lane_end.Over → (e : Ends) → job.ends ≡ Some e → PortRan sessions links faults limit job job e
  port_none sessions links faults limit job over e has = record {
    did = lane_none sessions links faults (WholeLink posted.Link limit) (CutLink posted.Link limit) job over e has;
    closed = λ t. absurd (let o = over in cc);
  }

  berth_none : (runs left : P → Option (List Session)) (faults : P → ℕ) (limit : ℕ) (job : LaneJob P) → job.end ≡ lane_end.Over → (e : Ends) → job.ends ≡ Some e → BerthRan runs left faults limit job job e
  berth_none runs left faults limit job over e has = record {
    did = lane_none runs left faults (Begun (WholeStart limit)) (CutBegun limit) job over e has;
    goes_on = λ t. absurd (let o = over in cc);
  }

  clock_none : (given left : P → Option (List ℕ)) (job : LaneJob P) → job.end ≡ lane_end.Over → (e : Ends) → job.ends ≡ Some e → ClockRan given left job job e
  clock_none given left job over e has = record {
    after = e;
    ends = has;
    lane = record { posted = refl; orders = refl; sides = refl };
    silent = refl;
    ticked = record {
      ticks = [];
      refused = [];
      given_are = appended_none (given job.outside);
      left_are = prepended_none (left job.outside);
      posted = sym (append-nil e.inn.pushed);
      one = omega arith;
      whole = λ _. refl;
      through = λ t. absurd (let o = over in cc);
    };
  }

-- lanes that weren't run
pub rest : {P : Type 0} (Q : LaneJob P → LaneJob P → Ends → Type 0) (jobs : List (LaneJob P)) → ((i : ℕ) (job : LaneJob P) → slice_get jobs i ≡ Some job → (e : Ends) → job.ends ≡ Some e → Q job job e) → Pairs (λ (p q : LaneJob P). (e : Ends) → p.ends ≡ Some e → Q p q e) jobs jobs
rest Q jobs f = record { len = refl; each = λ i p q at at' e has. let same : p ≡ q = same_item p q (sym at ∙ at') in subst (λ y. Q p y e) same (f i p at e has) }

module _ {P B C : Type 0} (sessions links : P → Option (List Session)) (faults : P → ℕ) (runs left : B → Option (List Session)) (misses : B → ℕ) (given moments : C → Option (List ℕ)) (limit : ℕ) where
  pub lanes_none : (lanes : Lanes P B C) → AreOver lanes → LanesRan sessions links faults runs left misses given moments limit lanes lanes
  lanes_none lanes over = record {
    ports = rest (λ (p q : LaneJob P) (e : Ends). PortRan sessions links faults limit p q e) lanes.ports.items (λ i job at e has. port_none sessions links faults limit job (over.ports i job at) e has);
    own = λ e has. port_none port.ghosts.sessions port.ghosts.links port.ghosts.faults limit lanes.own over.own e has;
    berths = rest (λ (p q : LaneJob B) (e : Ends). BerthRan runs left misses limit p q e) lanes.berths.items (λ i job at e has. berth_none runs left misses limit job (over.berths i job at) e has);
    clock = λ e has. clock_none given moments lanes.clock over.clock e has;
  }

-- the clock's lane, from what it came back with
pub clock_ran : {C : Type 0} (given left : C → Option (List ℕ)) (old : LaneJob C) (clock : C) (inn ticks : Pushing Posted) (out : OutSide) (end : LaneEnd) → old.ends ≡ Some (record { inn = inn; out = out }) → ticks.queue ≡ inn.queue
    → TickedAs (given old.outside) (given clock) (left old.outside) (left clock) inn.pushed ticks.pushed end → (e : Ends) → old.ends ≡ Some e → ClockRan given left old (record { outside = clock; number = old.number; ends = Some (record { inn = ticks; out = out }); end = end }) e
clock_ran given left old clock inn ticks out end is queue ticked e has =
    let before : Ends = record { inn = inn; out = out } in
    let same : before ≡ e = same_item before e (sym is ∙ has) in
    subst (λ x. ClockRan given left old (record { outside = clock; number = old.number; ends = Some (record { inn = ticks; out = out }); end = end }) x) same
    (record { after = record { inn = ticks; out = out }; ends = refl; lane = record { posted = queue; orders = refl; sides = refl }; silent = refl; ticked = ticked })

-- the own lane, run or not
pub own_ran : (limit : ℕ) (closed : Bool) (old new : LaneJob MemPort) → old.end ≡ lane_end.Over → ((e : Ends) → closed ≡ true → old.ends ≡ Some e → PortRan port.ghosts.sessions port.ghosts.links port.ghosts.faults limit old new e) → (closed ≡ false → new ≡ old)
    → (e : Ends) → old.ends ≡ Some e → PortRan port.ghosts.sessions port.ghosts.links port.ghosts.faults limit old new e
own_ran limit true old new over f g e has = f e refl has
own_ran limit false old new over f g e has = subst (λ j. PortRan port.ghosts.sessions port.ghosts.links port.ghosts.faults limit old j e) (sym (g refl)) (port_none port.ghosts.sessions port.ghosts.links port.ghosts.faults limit old over e has)

module _ {P B C : Type 0} (sessions links : P → Option (List Session)) (faults : P → ℕ) (runs left : B → Option (List Session)) (misses : B → ℕ) (given moments : C → Option (List ℕ)) (limit : ℕ) where
  pub lanes_ran : (old new : Lanes P B C) (closed : Bool) (inn ticks : Pushing Posted) (out : OutSide) → AllPortsRan sessions links faults limit old.ports.items new.ports.items → old.own.end ≡ lane_end.Over
      → ((e : Ends) → closed ≡ true → old.own.ends ≡ Some e → PortRan port.ghosts.sessions port.ghosts.links port.ghosts.faults limit old.own new.own e) → (closed ≡ false → new.own ≡ old.own)
      → AllBerthsRan runs left misses limit old.berths.items new.berths.items → old.clock.ends ≡ Some (record { inn = inn; out = out }) → ticks.queue ≡ inn.queue
      → TickedAs (given old.clock.outside) (given new.clock.outside) (moments old.clock.outside) (moments new.clock.outside) inn.pushed ticks.pushed new.clock.end
      → new.clock ≡ record { outside = new.clock.outside; number = old.clock.number; ends = Some (record { inn = ticks; out = out }); end = new.clock.end } → LanesRan sessions links faults runs left misses given moments limit old new
  lanes_ran old new closed inn ticks out ports over own kept berths clock queue ticked is = record {
    ports = by_index (λ (p q : LaneJob P) (e : Ends). PortRan sessions links faults limit p q e) old.ports.items new.ports.items ports.0 (λ i d e h at. ports.1 i d e h at);
    own = own_ran limit closed old.own new.own over own kept;
    berths = by_index (λ (p q : LaneJob B) (e : Ends). BerthRan runs left misses limit p q e) old.berths.items new.berths.items berths.0 (λ i d e h at. berths.1 i d e h at);
    clock = λ e has. subst (λ j. ClockRan given moments old.clock j e) (sym is) (clock_ran given moments old.clock new.clock.outside inn ticks out new.clock.end clock queue ticked e has);
  }
