-- S2, of a start that isn't its group's first: with whom it parts, and what it is told of the configuration.
use Rattle.std.specs.Prelude.{◌≡◌, ℕ, true, List, [], ◌++◌, MatchOption, Option, codes, if◌then◌else◌}
use Rattle.mux_history.specs.declared.out.Out.{Out}
use Rattle.mux_history.specs.declared.out.Out.TheVariants.{ToServer}
use Rattle.rpc_message.specs.Message.{message_of}
use Rattle.event_model.specs.Does.{Does}
use Rattle.event_model.specs.Event.{Event, notifies}
use Rattle.event_model.specs.Row.{Row, nothing, on, send}
use Rattle.event_model.specs.Settings.{Settings}
use Rattle.group_rows.specs.Earlier.{differs, given_of, shown_in}
use Rattle.mux_tables.specs.declared.tables.Tables.{Tables}
use Rattle.mux_tables.specs.Documents.{AheadStand, Owed, Parts}

-- the editors whose links are to be ended
abbrev pub parted : Settings → List Event → List ℕ → ℕ → List ℕ
parted settings before body g = if differs (given_of g before) body then shown_in settings g before else []

-- these editors are parted with, by a row, while the documents are ahead of the events by what is said so, and by what is said behind it
pub record PartedBy (row : Settings → Row) (es : List ℕ) (t u : Tables) (xs ys : List Out) : Type 0 where
  pub said : List Out
  pub is : ys ≡ xs ++ said
  pub parts : Parts said es
  pub does : (settings : Settings) (owed : Owed) (base : List Event) (rest : List Out)
      → Does (λ k events. AheadStand settings k events) (row settings) base (t, (owed, said ++ rest)) xs (u, (owed, rest)) ys

-- a configuration, where there is one, is a change of it
abbrev pub IsConfigured : Option (List ℕ) → Type 0
IsConfigured configuration = MatchOption configuration (Unit {0}) (λ body. notifies (codes "workspace/didChangeConfiguration") (message_of body) ≡ true)

-- a start is told of it
abbrev pub configured_row : ℕ → Option (List ℕ) → Row
configured_row s configuration = on configuration nothing (λ body. send (ToServer s body))
