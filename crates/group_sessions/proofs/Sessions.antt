-- All rules at once.
use Rattle.std.proofs.Common.{List}
use Rattle.mux_history.specs.declared.entry.Entry.{Entry}
use Rattle.event_model.specs.Settings.{Settings}
use Rattle.mux_facts.specs.Ranges.{InRange}
use Rattle.session_laws.specs.Sessions.{KeepsSessions}
use Rattle.group_facts.specs.Legal.{Legal}
use Rattle.group_sessions.proofs.Client1Law.{client_1_law}
use Rattle.group_sessions.proofs.Client2Law.{client_2_law}
use Rattle.group_sessions.proofs.Client3Law.{client_3_law}
use Rattle.group_sessions.proofs.Client4Law.{client_4_law}
use Rattle.group_sessions.proofs.Client5Law.{client_5_law}
use Rattle.group_sessions.proofs.Client6Law.{client_6_law}
use Rattle.group_sessions.proofs.Client7Law.{client_7_law}
use Rattle.group_sessions.proofs.Heard.{all_heard}
use Rattle.group_sessions.proofs.Server1Law.{server_1_law}
use Rattle.group_sessions.proofs.Server2Law.{server_2_law}
use Rattle.group_sessions.proofs.Server3Law.{server_3_law}
use Rattle.group_sessions.proofs.Server4Law.{server_4_law}
use Rattle.group_sessions.proofs.Server5Law.{server_5_law}
use Rattle.group_sessions.proofs.Server6Law.{server_6_law}
use Rattle.group_sessions.proofs.Server7Law.{server_7_law}
use Rattle.group_sessions.proofs.Server8Law.{server_8_law}

-- a legal history of several editors and groups keeps them
pub sessions_kept : (settings : Settings) → InRange settings → (history : List Entry) → Legal settings history → KeepsSessions history
sessions_kept settings range history legal = record {
  client_1 = client_1_law settings range history legal;
  client_2 = client_2_law settings range history legal;
  client_3 = client_3_law settings range history legal;
  client_4 = client_4_law settings range history legal;
  client_5 = client_5_law settings range history legal;
  client_6 = client_6_law settings range (all_heard settings range) history legal;
  client_7 = client_7_law settings range history legal;
  server_1 = server_1_law settings range history legal;
  server_2 = server_2_law settings range history legal;
  server_3 = server_3_law settings range history legal;
  server_4 = server_4_law settings range history legal;
  server_5 = server_5_law settings range history legal;
  server_6 = server_6_law settings range history legal;
  server_7 = server_7_law settings range history legal;
  server_8 = server_8_law settings range history legal;
}
