-- The number of an editor's next request.
use Rattle.mux_tables.proofs.Putting.{next_seen}
use Rattle.mux_tables.proofs.tables.Tables.next_ask.Goals as goal

pub returns : goal.returns
returns c = λ settings events runs st. next_seen settings c.args.self.now.editors events c.args.e c.next_ask.result c.requires runs st.house.editors c.next_ask.ensures
