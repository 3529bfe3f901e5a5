-- The statuses and the fault lines of the commands that dial a daemon.
use Rattle.std.specs.Prelude.{ℕ, List, [], ◌∷◌, ◌++◌, codes, Result, Ok, Err}
use Rattle.mux_client.specs.Faults.{status_of}
use Rattle.mux_client.specs.declared.fault.ClientFault.{ClientFault}
use Rattle.mux_client.specs.declared.fault.ClientFault.TheVariants as fault

abbrev pub client_status : Result (Unit {0}) ClientFault → ℕ
client_status (Ok done) = 0
client_status (Err why) = status_of why

abbrev pub fault_line : ClientFault → List ℕ
fault_line fault.Door = codes "!door" ++ 10 ∷ []
fault_line fault.Memory = []
fault_line fault.Input = codes "!input" ++ 10 ∷ []
fault_line fault.Output = []
fault_line fault.Refused = codes "!server" ++ 10 ∷ []
fault_line fault.Answer = codes "!answer" ++ 10 ∷ []
fault_line fault.Link = codes "!link" ++ 10 ∷ []

abbrev pub client_line : Result (Unit {0}) ClientFault → List ℕ
client_line (Ok done) = []
client_line (Err why) = fault_line why
