-- What contracts see of a hub, and when it stands for a history.
use Rattle.std.specs.Prelude.{◌≡◌, ℕ, ◌≤◌, List, Bool, false, length, Option, Some, None}
use Rattle.mux_history.specs.declared.entry.Entry.{Entry}
use Rattle.event_model.specs.Event.{Event, events_of}
use Rattle.event_model.specs.Settings.{Settings}
use Rattle.mux_facts.specs.Ranges.{InRange}
use Rattle.group_sessions.specs.group_facts.specs.Legal.{Legal}
use Rattle.group_sessions.specs.group_facts.specs.OwnTexts.{OwnTexts}
use Rattle.mux_causes.specs.mux_tables.specs.declared.tables.Tables.{Tables}
use Rattle.mux_causes.specs.mux_tables.specs.Documents.{DocumentsStand, nothing_owed}
use Rattle.mux_causes.specs.mux_tables.specs.Stands.{Stands}
use Rattle.mux_causes.specs.mux_turns.specs.Carried.{CarriedStand, CarriesView}
use Rattle.group_sessions.specs.group_facts.specs.Ceilings.{HaveCeilings}
use Rattle.mux_causes.specs.Backlogs.{BacklogsStand}
use Rattle.mux_debts.specs.Stands.{DebtsStand}
use Rattle.mux_debts.specs.refresh_debts.specs.declared.debts.Debt.{Debt}
use Rattle.mux_slow.specs.Told.{Quick}
use Rattle.mux_hub.specs.Entries.{most_events}
use Rattle.mux_hub.specs.Starts.{servers_of}

pub record HubView (J : Type 0) : Type 0 where
  pub settings : Settings
  pub tables : Tables
  pub carries : CarriesView
  pub debts : List Debt
  pub backlogs : List ℕ
  pub starts : List ℕ
  pub events : ℕ
  pub spent : Bool
  pub journal : J

-- what a journal tells, where it tells anything, is this history
abbrev pub Tells : Option (List Entry) → List Entry → Type 0
Tells None history = Unit {0}
Tells (Some entries) history = entries ≡ history

-- the tables owe nothing of documents, what groups carry is theirs, what starts owe is owed, the counts are those of what is on its way, no editor is slow, and the servers those of the starts
pub record TablesStand (settings : Settings) (kept : Tables) (carries : CarriesView) (debts : List Debt) (counts places : List ℕ) (events : List Event) : Type 0 where
  pub tables : Stands settings kept events
  pub documents : DocumentsStand settings nothing_owed kept events
  pub carried : CarriedStand settings carries events
  pub owed : DebtsStand settings debts events
  pub backlogs : BacklogsStand counts events
  pub quick : Quick settings events
  pub servers : places ≡ servers_of settings events

-- the history is legal and the journal's, each message that went on behind a sync stood on its editor's own texts, its causes and
-- outs are at most 2^63 - 1, and the tables and the count of a hub that isn't spent are those of it
pub record HubStands {J : Type 0} (told : J → Option (List Entry)) (hub : HubView J) (history : List Entry) : Type 0 where
  pub legal : Legal hub.settings history
  pub told_by : Tells (told hub.journal) history
  pub own : OwnTexts hub.settings history
  pub few : length (events_of history) ≤ most_events
  pub count : hub.spent ≡ false → hub.events ≡ length (events_of history)
  pub tables : hub.spent ≡ false → TablesStand hub.settings hub.tables hub.carries hub.debts hub.backlogs hub.starts (events_of history)

-- the settings are numbers of the machine, and leave room for the requests and versions of the multiplexer's own; each ceiling is
-- the text of an object
pub record IsSound (settings : Settings) (kept : Tables) : Type 0 where
  pub range : InRange settings
  pub requests : 2 ≤ kept.requests
  pub versions : 1 ≤ kept.versions
  pub ceilings : HaveCeilings settings.servers
