-- Which lines are in a form, where bodies have a limit, and which causes a core refuses.
use Rattle.std.specs.Prelude.{◌≡◌, ℕ, Bool, false, List, nat_lt, if◌then◌else◌}
use Rattle.std.specs.Prelude.{Option, Some, None}
use Rattle.mux_history.specs.Cores.{body_length}
use Rattle.mux_history.specs.declared.cause.Cause.{Cause}
use Rattle.drive_text.specs.Causes.{cause_of}
use Rattle.drive_text.specs.Options.{then_option}

-- the cause, where its body is no longer than the limit
abbrev pub within : ℕ → Cause → Option Cause
within content cause = if nat_lt content (body_length cause) then None else Some cause

-- the cause that a line writes, where its body is no longer than the limit
abbrev pub cause_within : ℕ → List ℕ → Option Cause
cause_within content line = then_option (cause_of line) (within content)

-- there is a cause, and it is refused
abbrev pub IsRefused : (Cause → Bool) → Option Cause → Type 0
IsRefused allows None = ⊥
IsRefused allows (Some cause) = allows cause ≡ false
