-- What a journal's fault becomes, and when a step answers that the causes and outs would be too many.
use Rattle.std.specs.Prelude.{◌≡◌, Bool, true, false, List, Result, Ok, Err}
use Rattle.mux_history.specs.declared.out.Out.{Out}
use Rattle.mux_steps.specs.declared.journal.JournalFault.{JournalFault}
use Rattle.mux_steps.specs.declared.journal.JournalFault.TheVariants.{Failed, Memory}
use Rattle.mux_steps.specs.declared.fault.StepFault.{StepFault}
use Rattle.mux_steps.specs.declared.fault.StepFault.TheVariants as step_fault

abbrev pub step_fault_of : JournalFault → StepFault
step_fault_of Failed = step_fault.Journal
step_fault_of Memory = step_fault.Memory

-- a step of a core that isn't spent, where they would be too many or not: only memory may be wanted in either case
abbrev pub Counted : Bool → Result (List Out) StepFault → Type 0
Counted passed (Ok outs) = passed ≡ false
Counted passed (Err step_fault.Numbers) = passed ≡ true
Counted passed (Err step_fault.Journal) = passed ≡ false
Counted passed (Err step_fault.Memory) = Unit {0}
Counted passed (Err step_fault.Spent) = ⊥
