-- What the code's reader and its answers are to the machine.
use Rattle.std.specs.Prelude.{◌≡◌, ℕ, ◌≤◌, List, length, drop, reverse}
use Rattle.std.specs.Prelude.{Result, Ok, Err}
use Rattle.json_nodes.specs.declared.node.Node.{Node}
use Rattle.json_nodes.specs.declared.node.Place.{Place}
use Rattle.json_span.specs.declared.fault.JsonFault.{JsonFault}
use Rattle.json_span.specs.declared.fault.JsonFault.TheVariants.{Syntax, TooDeep, Memory}
use Rattle.json_span.specs.declared.state.Reader.{Reader}
use Rattle.json_span.specs.declared.state.Mode.{Mode}
use Rattle.json_span.specs.declared.state.Open.{Open}
use Rattle.json_span.specs.Machine.{State, state, Fault, syntax, deep, read}

-- the reader's stack has the innermost bracket last
abbrev pub state_of : Reader → State
state_of r = state r.mode r.name (reverse r.stack.items) r.nodes.items

-- memory may run out at any time
abbrev pub Fails : {Y : Type 0} → JsonFault → Result Y Fault → Type 0
Fails Memory m = Unit {0}
Fails (Syntax p) m = m ≡ Err (syntax p)
Fails (TooDeep p) m = m ≡ Err (deep p)

-- the answer, and the reader after it, are the machine's
abbrev pub Gives : {A : Type 0} → Result A JsonFault → State → Result State Fault → Type 0
Gives (Ok x) s m = m ≡ Ok s
Gives (Err e) s m = Fails e m

-- the nodes in the answer are the machine's
abbrev pub Reads : {A : Type 0} → Result A JsonFault → (A → List Node) → Result (List Node) Fault → Type 0
Reads (Ok x) nodes m = m ≡ Ok (nodes x)
Reads (Err e) nodes m = Fails e m

-- what the reader holds fits its numbers: at most as many nodes as bytes, and at most 1,024 open brackets
pub record Fits (at : ℕ) (r : Reader) : Type 0 where
  pub few_nodes : length r.nodes.items ≤ at
  pub few_open : length r.stack.items ≤ 1024

-- from the place `to` on the machine reads in this mode as it does from `at` on
abbrev pub Crosses : List ℕ → ℕ → ℕ → Mode → Type 0
Crosses bytes at to m = (name : Place) (os : List Open) (ns : List Node) → read 1024 to (drop to bytes) (state m name os ns) ≡ read 1024 at (drop at bytes) (state m name os ns)
