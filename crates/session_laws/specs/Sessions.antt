-- Conforming sessions: the parts of all editors and of all starts keep the rules that are built.
use Rattle.std.specs.Prelude.{List}
use Rattle.mux_history.specs.declared.entry.Entry.{Entry}
use Rattle.session_laws.specs.ClientRules.{KeepsClient1, KeepsClient2, KeepsClient3, KeepsClient4, KeepsClient5, KeepsClient6, KeepsClient7}
use Rattle.session_laws.specs.ServerRules.{KeepsServer1, KeepsServer2, KeepsServer3, KeepsServer4, KeepsServer5, KeepsServer6, KeepsServer7, KeepsServer8}

pub record KeepsSessions (history : List Entry) : Type 0 where
  pub client_1 : KeepsClient1 history
  pub client_2 : KeepsClient2 history
  pub client_3 : KeepsClient3 history
  pub client_4 : KeepsClient4 history
  pub client_5 : KeepsClient5 history
  pub client_6 : KeepsClient6 history
  pub client_7 : KeepsClient7 history
  pub server_1 : KeepsServer1 history
  pub server_2 : KeepsServer2 history
  pub server_3 : KeepsServer3 history
  pub server_4 : KeepsServer4 history
  pub server_5 : KeepsServer5 history
  pub server_6 : KeepsServer6 history
  pub server_7 : KeepsServer7 history
  pub server_8 : KeepsServer8 history
