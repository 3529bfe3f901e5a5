-- The statuses of a daemon that doesn't serve, or serves no longer, and its fault lines.
use Rattle.std.specs.Prelude.{ℕ, List, [], ◌∷◌, ◌++◌, codes, Result, Ok, Err}
use Rattle.mux_daemon.specs.declared.serve.Answer.{Answer}
use Rattle.mux_daemon.specs.declared.serve.Answer.TheVariants as answer
use Rattle.serve_program.specs.declared.fault.ServeFault.{ServeFault}
use Rattle.serve_program.specs.declared.fault.ServeFault.TheVariants as fault

abbrev pub status_of : ServeFault → ℕ
status_of fault.Door = 4
status_of fault.Memory = 5
status_of fault.Journal = 6
status_of fault.Numbers = 9

-- the status of what a daemon's work came to
abbrev pub ended_status : Result (Unit {0}) ServeFault → ℕ
ended_status (Ok done) = 0
ended_status (Err why) = status_of why

-- the fault line; none where memory was wanted
abbrev pub fault_line : ServeFault → List ℕ
fault_line fault.Door = codes "!door" ++ 10 ∷ []
fault_line fault.Memory = []
fault_line fault.Journal = codes "!journal" ++ 10 ∷ []
fault_line fault.Numbers = codes "!numbers" ++ 10 ∷ []

abbrev pub ended_line : Result (Unit {0}) ServeFault → List ℕ
ended_line (Ok done) = []
ended_line (Err why) = fault_line why

-- what a daemon's answer comes to
abbrev pub result_of : Answer → Result (Unit {0}) ServeFault
result_of answer.Stopped = Ok tt
result_of answer.PortsClosed = Ok tt
result_of answer.Memory = Err fault.Memory
result_of answer.Journal = Err fault.Journal
result_of answer.Numbers = Err fault.Numbers
