-- The open requests that weren't cancelled.
use Rattle.std.specs.Prelude.{Bool, false, not}
use Rattle.std.specs.Prelude.{Option, Some, None}
use Rattle.id_rewrite.specs.declared.pending.Pending.{Pending}

-- a request is kept, and wasn't cancelled
abbrev pub is_uncancelled : Option Pending → Bool
is_uncancelled None = false
is_uncancelled (Some p) = not p.cancelled
