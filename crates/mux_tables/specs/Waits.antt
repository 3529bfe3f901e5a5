-- What is taken out of the requests that wait, as the first of a group goes on (S2).
use Rattle.std.specs.Prelude.{◌≡◌, ℕ, drop}
use Rattle.mux_waits.specs.Rows.{Becomes}
use Rattle.mux_tables.specs.declared.tables.Tables.{Tables}

-- these tables are those, without the first that waits in a group
pub record Released (g : ℕ) (t u : Tables) : Type 0 where
  pub rest : u ≡ record t { origins = record t.origins { waiting = u.origins.waiting } }
  pub waits : Becomes g (drop 1) t.origins.waiting u.origins.waiting
