-- All that a history of conforming sessions keeps (LSP 3.17).
use Rattle.std.specs.Prelude.{List}
use Rattle.mux_history.specs.declared.entry.Entry.{Entry}
use Rattle.event_model.specs.Settings.{Settings}
use Rattle.group_sessions.specs.Due.{KeepsDue}
use Rattle.group_sessions.specs.ExitReplay.{ExitsEnd, Replays}
use Rattle.group_sessions.specs.LastLists.{KeepsLists}
use Rattle.group_sessions.specs.Refreshes.{KeepsRefreshes}
use Rattle.group_sessions.specs.group_facts.specs.OwnTexts.{OwnTexts}
use Rattle.group_sessions.specs.group_facts.specs.OwnVersions.{OwnVersions}
use Rattle.group_sessions.specs.group_facts.specs.Switches.{Switches}
use Rattle.group_sessions.specs.session_laws.specs.Sessions.{KeepsSessions}

pub record Sessions (settings : Settings) (history : List Entry) : Type 0 where
  -- the part of each editor and that of each start keep the rules of a session
  pub rules : KeepsSessions history
  -- of each token that a start created, each editor was told what it was due
  pub due : KeepsDue settings history
  -- each editor was sent just the lists of diagnostics that it was due
  pub lists : KeepsLists settings history
  -- before a message that went on behind a sync, just those documents were switched on which the start didn't agree, for one that had waited from some place on
  pub switches : Switches settings history
  -- each answer had its editor's own versions, or was an error
  pub versions : OwnVersions settings history
  -- each message that went on behind a sync stood on its editor's own texts, and each ready start has the holders' texts
  pub own : OwnTexts settings history
  -- where a start exits whose group lives, nothing of it is left open, the group gets a new start, or is over, and what waited waits on, or is answered
  pub exits : ExitsEnd settings history
  -- at a place in the row of its first result, a start has just the documents that are open, each opened once
  pub replays : Replays settings history
  -- what a ready start wanted asked anew, each editor that ran in its group was asked, at once or behind its next message that went on to that start
  pub refreshes : KeepsRefreshes settings history
