-- The history of a hub is one of conforming sessions: all but the own texts are laws of every legal history.
use Rattle.std.proofs.Common.{List}
use Rattle.mux_history.specs.declared.entry.Entry.{Entry}
use Rattle.event_model.specs.Settings.{Settings}
use Rattle.mux_facts.specs.Ranges.{InRange}
use Rattle.group_sessions.proofs.DueDone.{due_law}
use Rattle.group_sessions.proofs.ExitsOver.{exits_law}
use Rattle.group_sessions.proofs.ListsLaw.{lists_law}
use Rattle.group_sessions.proofs.RefreshLaw.{refreshes_law}
use Rattle.group_sessions.proofs.ReplayLaw.{replayed_law}
use Rattle.group_sessions.proofs.Sessions.{sessions_kept}
use Rattle.group_sessions.specs.group_facts.specs.Legal.{Legal}
use Rattle.group_sessions.specs.group_facts.specs.OwnTexts.{OwnTexts}
use Rattle.group_sessions.specs.group_facts.proofs.OwnVersions.{own_versions_hold}
use Rattle.group_sessions.specs.group_facts.proofs.Switching.{switches_hold}
use Rattle.mux_hub.specs.Sessions.{Sessions}

pub sessions_hold : (settings : Settings) → InRange settings → (history : List Entry) → Legal settings history → OwnTexts settings history → Sessions settings history
sessions_hold settings range history legal own = record {
  rules = sessions_kept settings range history legal;
  due = due_law settings range history legal;
  lists = lists_law settings range history legal;
  switches = switches_hold settings range history legal;
  versions = own_versions_hold settings range history legal;
  own = own;
  exits = exits_law settings range history legal;
  replays = replayed_law settings range history legal;
  refreshes = refreshes_law settings range history legal;
}
