-- Whether all was stopped.
use Rattle.std.proofs.Common.{sym}
use Rattle.mux_tables.proofs.tables.Tables.is_stopped.Goals as goal

pub returns : goal.returns
returns c = λ settings events st. sym st.house.halted
