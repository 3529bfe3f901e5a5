-- What a step's fault becomes, and which faults leave all outs written.
use Rattle.mux_steps.specs.declared.fault.StepFault.{StepFault}
use Rattle.mux_steps.specs.declared.fault.StepFault.TheVariants as step_fault
use Rattle.drive_program.specs.declared.step.TakeFault.{TakeFault}
use Rattle.drive_program.specs.declared.step.TakeFault.TheVariants as take_fault

abbrev pub take_fault_of : StepFault → TakeFault
take_fault_of step_fault.Memory = take_fault.Memory
take_fault_of step_fault.Spent = take_fault.Memory
take_fault_of step_fault.Journal = take_fault.Journal
take_fault_of step_fault.Numbers = take_fault.Numbers

-- behind these, the outs of all entries are written
abbrev pub LeavesWritten : TakeFault → Type 0
LeavesWritten take_fault.Memory = ⊥
LeavesWritten take_fault.Output = ⊥
LeavesWritten take_fault.Journal = Unit {0}
LeavesWritten take_fault.Numbers = Unit {0}
LeavesWritten (take_fault.Refused r) = Unit {0}
