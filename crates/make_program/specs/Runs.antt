-- The history of some causes, and where a run of them ended.
use Rattle.std.specs.Prelude.{◌≡◌, ℕ, ◌+◌, Bool, true, false, List, [], ◌∷◌, ◌++◌, fold, length, IfOk, IfErr, IsTrue}
use Rattle.std.specs.Prelude.{Option, Result}
use Rattle.event_model.specs.Settings.{Settings}
use Rattle.mux_history.specs.declared.cause.Cause.{Cause}
use Rattle.mux_history.specs.declared.entry.Entry.{Entry}
use Rattle.mux_hub.specs.Entries.{passes}
use Rattle.mux_hub.specs.Hubs.{HubStands, HubView}
use Rattle.mux_model.specs.Fits.{fits}
use Rattle.mux_steps.specs.declared.fault.StepFault.{StepFault}
use Rattle.mux_steps.specs.declared.fault.StepFault.TheVariants as step_fault
use Rattle.drive_program.specs.Runs.{after}
use Rattle.drive_program.specs.declared.refusal.Refusal.TheVariants.{Form, Absent}
use Rattle.drive_program.specs.declared.stop.Stop.{Stop}
use Rattle.drive_program.specs.declared.stop.Stop.TheVariants as stop
use Rattle.make_program.specs.Counts.{counts_of}
use Rattle.make_program.specs.declared.counts.Counts.{Counts}

abbrev pub stop_of : StepFault → Stop
stop_of step_fault.Memory = stop.Memory
stop_of step_fault.Spent = stop.Memory
stop_of step_fault.Journal = stop.Journal
stop_of step_fault.Numbers = stop.Numbers

-- the history of these causes: each with the outs of the routing table, behind those before it
abbrev pub history_of : Settings → List Cause → List Entry
history_of settings causes = fold (after settings) [] causes

-- this holds of the first of these causes
abbrev pub IfFirst : (Cause → Type 0) → List Cause → Type 0
IfFirst holds [] = ⊥
IfFirst holds (cause ∷ causes) = holds cause

-- what a stop says of the history and of the next cause: its entry wasn't appended to the journal, with it the causes and outs would
-- be more than 2^63 - 1, or it can't come
abbrev pub StopsAt : Settings → List Entry → List Cause → Stop → Type 0
StopsAt settings history rest stop.Memory = Unit {0}
StopsAt settings history rest stop.Journal = IfFirst (λ cause. IsTrue (fits history cause)) rest
StopsAt settings history rest stop.Numbers = IfFirst (λ cause. IsTrue (fits history cause) × (passes settings history cause ≡ true)) rest
StopsAt settings history rest stop.Input = ⊥
StopsAt settings history rest stop.Output = ⊥
StopsAt settings history rest (stop.Refused k Form) = ⊥
StopsAt settings history rest (stop.Refused k Absent) = (k ≡ length history + 1) × IfFirst (λ cause. fits history cause ≡ false) rest

-- where driving these causes ended: so many were taken, and the hub stands for their history
pub record Driven {J : Type 0} (told : J → Option (List Entry)) (settings : Settings) (causes : List Cause) (hub : HubView J) (result : Result Counts Stop) : Type 0 where
  pub taken : List Cause
  pub rest : List Cause
  pub all : causes ≡ taken ++ rest
  pub stands : HubStands told hub (history_of settings taken)
  pub done : IfOk result (λ counts. (rest ≡ []) × (counts ≡ counts_of (history_of settings taken)))
  pub stopped : IfErr result (StopsAt settings (history_of settings taken) rest)
