-- What all lanes did, from what they were opened with.
use Rattle.std.specs.Prelude.{◌≡◌, ◌≢◌, ℕ, ◌<◌, List, IfSome, Option, Some, length, slice_get, slice_index_or}
use Rattle.outside_io.specs.Sessions.{Session}
use Rattle.outside_io.specs.declared.memory.port.MemPort.{MemPort}
use Rattle.outside_io.specs.contracts.memory.port.MemPortPort.TheImpl as port
use Rattle.mux_lanes.specs.declared.lane_end.LaneEnd.TheVariants as lane_end
use Rattle.mux_lanes.specs.declared.session.Ends.{Ends}
use Rattle.mux_lanes.specs.Lanes.{IsSameLane}
use Rattle.mux_lanes.specs.Ticks.{TickedAs}
use Rattle.mux_serve.specs.declared.job.LaneJob.{LaneJob}
use Rattle.mux_serve.specs.Jobs.{BerthRan, PortRan}
use Rattle.mux_daemon.specs.declared.open.Lanes.{Lanes}
use Rattle.mux_daemon.specs.Opens.{Pairs}

-- the clock's lane, from these ends on
pub record ClockRan {C : Type 0} (given left : C → Option (List ℕ)) (old new : LaneJob C) (before : Ends) : Type 0 where
  pub after : Ends
  pub ends : new.ends ≡ Some after
  pub lane : IsSameLane before after
  pub silent : after.out ≡ before.out
  pub ticked : TickedAs (given old.outside) (given new.outside) (left old.outside) (left new.outside) before.inn.pushed after.inn.pushed new.end

module _ {P B C : Type 0} (sessions links : P → Option (List Session)) (faults : P → ℕ) (runs left : B → Option (List Session)) (misses : B → ℕ) (given moments : C → Option (List ℕ)) (limit : ℕ) where
  pub record LanesRan (old new : Lanes P B C) : Type 0 where
    pub ports : Pairs (λ (p q : LaneJob P). (e : Ends) → p.ends ≡ Some e → PortRan sessions links faults limit p q e) old.ports.items new.ports.items
    pub own : (e : Ends) → old.own.ends ≡ Some e → PortRan port.ghosts.sessions port.ghosts.links port.ghosts.faults limit old.own new.own e
    pub berths : Pairs (λ (p q : LaneJob B). (e : Ends) → p.ends ≡ Some e → BerthRan runs left misses limit p q e) old.berths.items new.berths.items
    pub clock : (e : Ends) → old.clock.ends ≡ Some e → ClockRan given moments old.clock new.clock e

-- no lane was cut off
abbrev pub NoneCut : {P : Type 0} → List (LaneJob P) → Type 0
NoneCut {P} jobs = (i : ℕ) (d : LaneJob P) → i < length jobs → (slice_index_or jobs i d).end ≢ lane_end.Cut

-- no lane was run yet
abbrev pub AllOver : {P : Type 0} → List (LaneJob P) → Type 0
AllOver {P} jobs = (i : ℕ) (job : LaneJob P) → slice_get jobs i ≡ Some job → job.end ≡ lane_end.Over

module _ {P B C : Type 0} where
  pub record LanesWhole (lanes : Lanes P B C) : Type 0 where
    pub ports : NoneCut lanes.ports.items
    pub own : lanes.own.end ≢ lane_end.Cut
    pub berths : NoneCut lanes.berths.items
    pub clock : lanes.clock.end ≢ lane_end.Cut

  pub record AreOver (lanes : Lanes P B C) : Type 0 where
    pub ports : AllOver lanes.ports.items
    pub own : lanes.own.end ≡ lane_end.Over
    pub berths : AllOver lanes.berths.items
    pub clock : lanes.clock.end ≡ lane_end.Over

-- a link was handed back
abbrev pub HasSession : MemPort → Type 0
HasSession p = IfSome (port.ghosts.sessions p) (λ back. 0 < length back)
