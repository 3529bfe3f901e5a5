-- What a call does at a source and a sink, told as a session (what was read, what is left, what was written, and the counts).
use Rattle.std.specs.Prelude.{◌≡◌, ℕ, ◌≤◌, List, [], ◌++◌, Option, IfSome}
use Rattle.std.specs.Io.KnownBytes.{append_known, prepend_known}
use Rattle.outside_io.specs.Faults.{Rose}
use Rattle.outside_io.specs.Sessions.{Session}

-- these bytes are the front of those
abbrev pub IsFront : List ℕ → List ℕ → Type 0
IsFront part whole = (rest : List ℕ) × (whole ≡ part ++ rest)

-- so many bytes more were read, and so many written; no count fell
pub record Passes (before after : Session) (read written : List ℕ) : Type 0 where
  pub reads : after.read ≡ append_known before.read read
  pub leaves : before.left ≡ prepend_known read after.left
  pub writes : after.written ≡ append_known before.written written
  pub source_later : before.source_faults ≤ after.source_faults
  pub sink_later : before.sink_faults ≤ after.sink_faults

-- a read failed
abbrev pub ReadFailed : Session → Session → Type 0
ReadFailed before after = Rose before.source_faults after.source_faults

-- a write failed, or took nothing
abbrev pub WriteFailed : Session → Session → Type 0
WriteFailed before after = Rose before.sink_faults after.sink_faults

-- no byte is left, where that is told
abbrev pub IsEnded : Option (List ℕ) → Type 0
IsEnded left = IfSome left (λ bytes. bytes ≡ [])
