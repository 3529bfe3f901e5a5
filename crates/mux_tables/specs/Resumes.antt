-- L2: what waits at a start is asked of an editor, one after the other.
use Rattle.std.specs.Prelude.{ℕ, List, [], ◌∷◌, ◌++◌, decimal}
use Rattle.std.specs.Prelude.{Option, Some, None}
use Rattle.ask_route.specs.declared.ask.Ask.{Ask}
use Rattle.ask_route.specs.declared.ask.Place.{Place}
use Rattle.ask_route.specs.declared.ask.Place.TheVariants.{Asked, Parked}
use Rattle.ask_route.specs.Tables.{asked, parked}
use Rattle.editor_session.specs.declared.session.Session.{Session}
use Rattle.editor_session.specs.Sessions as sessions
use Rattle.editor_session.specs.Sessions.{next_ask, session_of, unless_gone, with_session}
use Rattle.mux_history.specs.declared.out.Out.{Out}
use Rattle.mux_history.specs.declared.out.Out.TheVariants.{ToEditor}
use Rattle.rpc_message.specs.Texts.{with_id_text}
use Rattle.mux_tables.specs.declared.tables.Start.{Start}

-- the editors, the start, and what is sent
pub record Resuming : Type 0 where
  pub editors : List Session
  pub start : Start
  pub outs : List Out

-- a request is asked under the editor's next number; where none is left it waits on
abbrev pub renumbered : ℕ → List ℕ → List ℕ → Resuming → Option ℕ → Resuming
renumbered e id body x None = record {
  editors = with_session x.editors e (unless_gone sessions.asked (session_of x.editors e));
  start = record x.start { parked = x.start.parked ++ parked id body ∷ [] };
  outs = x.outs;
}
renumbered e id body x (Some n) = record {
  editors = with_session x.editors e (unless_gone sessions.asked (session_of x.editors e));
  start = record x.start { asks = x.start.asks ++ asked e n id ∷ [] };
  outs = x.outs ++ ToEditor e (with_id_text body (decimal n)) ∷ [];
}

-- one that is parked
abbrev pub resumed_at : ℕ → List ℕ → Resuming → Place → Resuming
resumed_at e id x (Parked body) = renumbered e id body x (next_ask (session_of x.editors e))
resumed_at e id x (Asked seat) = x

abbrev pub resumed : ℕ → Resuming → Ask → Resuming
resumed e x ask = resumed_at e ask.id x ask.place

abbrev pub all_resumed : ℕ → Resuming → List Ask → Resuming
all_resumed e x [] = x
all_resumed e x (ask ∷ asks) = all_resumed e (resumed e x ask) asks

-- a start but for what it asked of editors, and what waits there
abbrev pub unasked : Start → Start
unasked x = record x { asks = []; parked = [] }
