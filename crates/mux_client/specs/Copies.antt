-- Copies of a source to a sink, and two of them side by side: of the input to the link, and of the link to the output.
use Rattle.std.specs.Prelude.{◌≡◌, ℕ, ◌⊎◌, List}
use Rattle.std.specs.Prelude.{Result, Ok, Err}
use Rattle.outside_io.specs.Sessions.{Session}
use Rattle.mux_client.specs.Sessions.{IsEnded, IsFront, Passes, ReadFailed, WriteFailed}
use Rattle.mux_client.specs.declared.copies.Copied.{Copied}
use Rattle.mux_client.specs.declared.copies.Copied.TheVariants as copied
use Rattle.mux_client.specs.declared.fault.ClientFault.{ClientFault}
use Rattle.mux_client.specs.declared.fault.ClientFault.TheVariants as fault

-- why a copy ended
abbrev pub CopyEnded : Session → Session → List ℕ → List ℕ → Copied → Type 0
CopyEnded before after read written copied.All = (written ≡ read) × IsEnded after.left
CopyEnded before after read written copied.ReadFault = ReadFailed before after
CopyEnded before after read written copied.WriteFault = WriteFailed before after

-- a front of what was read was written, all of it where the source ended
pub record Copies (before after : Session) (result : Copied) : Type 0 where
  pub read : List ℕ
  pub written : List ℕ
  pub passes : Passes before after read written
  pub front : IsFront written read
  pub ended : CopyEnded before after read written result

-- so far all that was read was written
pub record CopiesSoFar (before after : Session) : Type 0 where
  pub bytes : List ℕ
  pub passes : Passes before after bytes bytes

abbrev pub outcome_of : Copied → Copied → Result (Unit {0}) ClientFault
outcome_of copied.ReadFault shown = Err fault.Input
outcome_of copied.All copied.WriteFault = Err fault.Output
outcome_of copied.WriteFault copied.WriteFault = Err fault.Output
outcome_of copied.WriteFault copied.All = Err fault.Link
outcome_of copied.WriteFault copied.ReadFault = Err fault.Link
outcome_of copied.All copied.ReadFault = Err fault.Link
outcome_of copied.All copied.All = Ok tt

-- how both copies ended, of the editor's input and output and of the link, each before and after
abbrev pub RelayEnded : Session → Session → Session → Session → List ℕ → List ℕ → List ℕ → List ℕ → Result (Unit {0}) ClientFault → Type 0
RelayEnded editor editor' link link' typed shown heard sent (Ok done) = IsEnded editor'.left × IsEnded link'.left × (sent ≡ typed) × (shown ≡ heard)
RelayEnded editor editor' link link' typed shown heard sent (Err fault.Input) = ReadFailed editor editor'
RelayEnded editor editor' link link' typed shown heard sent (Err fault.Output) = WriteFailed editor editor'
RelayEnded editor editor' link link' typed shown heard sent (Err fault.Link) = ReadFailed link link' ⊎ WriteFailed link link'
RelayEnded editor editor' link link' typed shown heard sent (Err fault.Memory) = ⊥
RelayEnded editor editor' link link' typed shown heard sent (Err fault.Door) = ⊥
RelayEnded editor editor' link link' typed shown heard sent (Err fault.Refused) = ⊥
RelayEnded editor editor' link link' typed shown heard sent (Err fault.Answer) = ⊥

-- a front of what was typed was sent, and a front of what was heard was shown
pub record Relayed (editor editor' link link' : Session) (result : Result (Unit {0}) ClientFault) : Type 0 where
  pub typed : List ℕ
  pub shown : List ℕ
  pub heard : List ℕ
  pub sent : List ℕ
  pub at_editor : Passes editor editor' typed shown
  pub at_link : Passes link link' heard sent
  pub sends : IsFront sent typed
  pub shows : IsFront shown heard
  pub ended : RelayEnded editor editor' link link' typed shown heard sent result
