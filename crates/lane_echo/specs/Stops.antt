-- What asks the core of the tests to stop, and what to start a server.
use Rattle.std.specs.Prelude.{◌≡◌, ℕ, ◌+◌, ◌<◌, ◌≤◌, List, [], ◌∷◌, Bool, false, ◌||◌, if◌then◌else◌, length, nat_lt, ◌==◌}
use Rattle.mux_history.specs.declared.entry.Entry.{Entry}
use Rattle.mux_history.specs.declared.cause.Cause.{Cause}
use Rattle.mux_history.specs.declared.cause.Cause.TheVariants.{FromEditor}
use Rattle.mux_history.specs.Cores.{joins, spawns}

abbrev pub is_stop : Cause → Bool
is_stop (FromEditor e body) = length body == 0
is_stop other = false

abbrev pub has_stop : List Entry → Bool
has_stop [] = false
has_stop (entry ∷ history) = is_stop entry.cause || has_stop history

abbrev pub is_start : Cause → Bool
is_start (FromEditor e body) = length body == 1
is_start other = false

-- how many starts a cause spawns, and how often start s, where so many were spawned before
abbrev pub starts_of : Cause → ℕ
starts_of cause = if is_start cause then 1 else 0

abbrev pub spawns_by : ℕ → Cause → ℕ → ℕ
spawns_by count cause s = if is_start cause then (if count == s then 1 else 0) else 0

-- so many starts were spawned, each once
pub record Spawned (count : ℕ) (history : List Entry) : Type 0 where
  pub once : (s : ℕ) → s < count → spawns s history ≡ 1
  pub none : (s : ℕ) → count ≤ s → spawns s history ≡ 0

-- the greatest number of editors, and of starts
abbrev pub most : ℕ
most = 18446744073709551615

-- with this cause more editors would have joined, or more starts be spawned, where so many were before
abbrev pub passes_behind : ℕ → ℕ → Cause → Bool
passes_behind joined spawned cause = nat_lt most (joined + joins cause) || nat_lt most (spawned + starts_of cause)
