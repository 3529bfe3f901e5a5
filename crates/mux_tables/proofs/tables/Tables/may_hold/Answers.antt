-- Whether one more request may wait.
use Rattle.std.proofs.Common.{◌∙◌, ap}
use Rattle.mux_waits.specs.held_requests.specs.Tables.{takes}
use Rattle.mux_tables.proofs.tables.Tables.may_hold.Goals as goal

pub returns-clause-stands : goal.returns-clause-stands
returns-clause-stands c = λ settings events st. c.takes.ensures ∙ ap (takes c.args.e c.args.bytes) (st.waiting c.args.g).same
