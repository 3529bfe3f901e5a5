-- The middle of a stop of all.
use Rattle.std.specs.Prelude.{◌≡◌, ℕ, List, Option, filter}
use Rattle.event_model.specs.Event.{Event}
use Rattle.event_model.specs.Row.{Row, each, nothing, on}
use Rattle.event_model.specs.Settings.{Settings}
use Rattle.event_model.specs.Spawns.{start_of}
use Rattle.group_words.specs.Houses.{home_of}
use Rattle.group_rows.specs.Forwarded.{forwarding_of, is_of}
use Rattle.group_rows.specs.StopRows.{lose_request}
use Rattle.mux_tables.specs.declared.tables.Tables.{Tables}
use Rattle.mux_tables.specs.Documents.{DocumentsStand, Owed}
use Rattle.mux_tables.specs.Stands.{Stands}
use Rattle.mux_turns.specs.Initials.{AllHoused}
use Rattle.mux_turns.specs.Welcomes.{AllAsking}

-- those that start s has to answer
abbrev pub lose_from : Settings → List Event → ℕ → Option ℕ → Row
lose_from settings before e start = on start nothing (λ s. each lose_request (filter (is_of e) (forwarding_of settings s before).open_requests))

-- editors are in the groups in which they were, which have the starts that they had, with the same requests to answer
pub record Stays (settings : Settings) (before now : List Event) : Type 0 where
  pub home : (e : ℕ) → home_of settings e now ≡ home_of settings e before
  pub start : (g : ℕ) → start_of g now ≡ start_of g before
  pub open_requests : (s : ℕ) → (forwarding_of settings s now).open_requests ≡ (forwarding_of settings s before).open_requests

-- and what is known of those that wait
pub record Refusing (settings : Settings) (before now : List Event) : Type 0 where
  pub stays : Stays settings before now
  pub asking : AllAsking now
  pub housed : AllHoused settings now

-- editors are closed that don't leave: the tables stand, whatever starts are owed for their documents
abbrev pub Halts : Settings → Tables → List Event → Type 0
Halts settings t events = Stands settings t events × ((owed : Owed) × DocumentsStand settings owed t events)
