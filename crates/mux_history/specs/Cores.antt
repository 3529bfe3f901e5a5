-- What every core of the multiplexer says of its history.
use Rattle.std.specs.Prelude.{ℕ, ◌+◌, ◌==◌, if◌then◌else◌, List, [], ◌∷◌, length}
use Rattle.mux_history.specs.declared.entry.Entry.{Entry}
use Rattle.mux_history.specs.declared.cause.Cause.{Cause}
use Rattle.mux_history.specs.declared.cause.Cause.TheVariants.{Joined, FromEditor, FromServer}
use Rattle.mux_history.specs.declared.out.Out.{Out}
use Rattle.mux_history.specs.declared.out.Out.TheVariants.{Spawn, ToEditor, CloseEditor, ToServer, EndServer}

abbrev pub joins : Cause → ℕ
joins (Joined e) = 1
joins other = 0

-- how many editors joined, which is the number of the next one
abbrev pub joined : List Entry → ℕ
joined [] = 0
joined (entry ∷ history) = joins entry.cause + joined history

abbrev pub spawns_of_out : ℕ → Out → ℕ
spawns_of_out s (Spawn n group) = if n == s then 1 else 0
spawns_of_out s (ToEditor e body) = 0
spawns_of_out s (CloseEditor e) = 0
spawns_of_out s (ToServer n body) = 0
spawns_of_out s (EndServer n) = 0

abbrev pub spawns_of_outs : ℕ → List Out → ℕ
spawns_of_outs s [] = 0
spawns_of_outs s (o ∷ outs) = spawns_of_out s o + spawns_of_outs s outs

-- how often a start is spawned
abbrev pub spawns : ℕ → List Entry → ℕ
spawns s [] = 0
spawns s (entry ∷ history) = spawns_of_outs s entry.outs + spawns s history

-- how long a cause's body is
abbrev pub body_length : Cause → ℕ
body_length (FromEditor e body) = length body
body_length (FromServer s body) = length body
body_length other = 0
