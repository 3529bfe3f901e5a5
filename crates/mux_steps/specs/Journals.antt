-- What an append does to the entries that a journal tells, and to its count of faults.
use Rattle.std.specs.Prelude.{ℕ, ◌≤◌, List, ◌++◌, Option, option_map, Result, IsErrOf}
use Rattle.mux_history.specs.declared.entry.Entry.{Entry}
use Rattle.mux_steps.specs.declared.journal.JournalFault.{JournalFault}
use Rattle.mux_steps.specs.declared.journal.JournalFault.TheVariants.{Failed}
use Rattle.outside_io.specs.Faults.{Rose}

-- the told entries, and then these
abbrev pub append_told : Option (List Entry) → List Entry → Option (List Entry)
append_told told entries = option_map (λ before. before ++ entries) told

-- the count didn't fall, and Failed has raised it
pub record AppendCause {T : Type 0} (before now : ℕ) (result : Result T JournalFault) : Type 0 where
  pub later : before ≤ now
  pub failed : IsErrOf result Failed → Rose before now
