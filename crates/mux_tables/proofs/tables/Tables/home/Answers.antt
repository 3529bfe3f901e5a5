-- The group in which an editor is.
use Rattle.std.proofs.Common.{arith}
use Rattle.mux_tables.proofs.HeldMoves.{home_kept, home_past}
use Rattle.mux_tables.proofs.tables.Tables.home.Goals as goal

pub returns-then-e-count : goal.returns-then-e-count
returns-then-e-count c = λ settings events st. home_past settings c.args.self.now.editors events c.args.e (omega (arith, c.count.ensures)) st.house.editors

pub returns : goal.returns
returns c = λ settings events st. home_kept settings c.args.self.now.editors events c.args.e c.group.result (omega (arith, c.count.ensures)) c.group.ensures st.house.editors
