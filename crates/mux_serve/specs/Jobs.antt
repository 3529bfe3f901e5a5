-- What the lane of a port or of a berth did.
use Rattle.std.specs.Prelude.{◌≡◌, ◌≢◌, ◌⊎◌, ◌<◌, ℕ, List, IfSome, Option, Some, length, slice_index_or, []}
use Rattle.outside_io.specs.Faults.{Rose}
use Rattle.outside_io.specs.Sessions.{Session}
use Rattle.lane_lists.specs.declared.item.Posted.TheVariants as posted
use Rattle.mux_lanes.specs.declared.lane_end.LaneEnd.TheVariants as lane_end
use Rattle.mux_lanes.specs.declared.session.Ends.{Ends}
use Rattle.mux_lanes.specs.Lanes.{CutLink, IsSameLane, RanAs, Turn, WholeLink, standing}
use Rattle.mux_lanes.specs.Starts.{Begun, CutBegun, WholeStart}
use Rattle.mux_serve.specs.declared.job.LaneJob.{LaneJob}

-- from these ends on, it has ends of the same queues, and what went through them is what its turns say
pub record LaneRan {P : Type 0} (back left : P → Option (List Session)) (faults : P → ℕ) (Whole Cut : Turn → Type 0) (old new : LaneJob P) (before : Ends) : Type 0 where
  pub after : Ends
  pub ends : new.ends ≡ Some after
  pub number : new.number ≡ old.number
  pub lane : IsSameLane before after
  pub ran : RanAs Whole Cut (standing back left faults old.outside before) (standing back left faults new.outside after) new.end

-- the same of a port, which has no more links or whose count rose where the lane came through
pub record PortRan {P : Type 0} (sessions links : P → Option (List Session)) (faults : P → ℕ) (limit : ℕ) (old new : LaneJob P) (before : Ends) : Type 0 where
  pub did : LaneRan sessions links faults (WholeLink posted.Link limit) (CutLink posted.Link limit) old new before
  pub closed : new.end ≡ lane_end.Through → IfSome (links new.outside) (λ left. left ≡ []) ⊎ Rose (faults old.outside) (faults new.outside)

-- the same of a berth
pub record BerthRan {B : Type 0} (runs left : B → Option (List Session)) (faults : B → ℕ) (limit : ℕ) (old new : LaneJob B) (before : Ends) : Type 0 where
  pub did : LaneRan runs left faults (Begun (WholeStart limit)) (CutBegun limit) old new before
  pub goes_on : new.end ≢ lane_end.Through

-- each lane of them
abbrev pub AllPortsRan : {P : Type 0} → (P → Option (List Session)) → (P → Option (List Session)) → (P → ℕ) → ℕ → List (LaneJob P) → List (LaneJob P) → Type 0
AllPortsRan {P} sessions links faults limit old new =
    (length new ≡ length old) × ((i : ℕ) (d : LaneJob P) (e : Ends) → i < length old → (slice_index_or old i d).ends ≡ Some e → PortRan sessions links faults limit (slice_index_or old i d) (slice_index_or new i d) e)

abbrev pub AllBerthsRan : {B : Type 0} → (B → Option (List Session)) → (B → Option (List Session)) → (B → ℕ) → ℕ → List (LaneJob B) → List (LaneJob B) → Type 0
AllBerthsRan {B} runs left faults limit old new =
    (length new ≡ length old) × ((i : ℕ) (d : LaneJob B) (e : Ends) → i < length old → (slice_index_or old i d).ends ≡ Some e → BerthRan runs left faults limit (slice_index_or old i d) (slice_index_or new i d) e)

abbrev pub AllThrough : {P : Type 0} → List (LaneJob P) → Type 0
AllThrough {P} jobs = (i : ℕ) (d : LaneJob P) → i < length jobs → (slice_index_or jobs i d).end ≡ lane_end.Through
