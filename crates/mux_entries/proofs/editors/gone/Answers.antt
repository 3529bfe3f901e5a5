-- A link is gone.
use Rattle.std.proofs.Common.{◌≤◌, arith}
use Rattle.event_model.specs.Phases.{desk_of, editors_of}
use Rattle.mux_entries.proofs.EditorRows.{unlinked}
use Rattle.mux_entries.proofs.editors.gone.Goals as goal

pub returns-then-e-count-clause-does : goal.returns-then-e-count-clause-does
returns-then-e-count-clause-does c = λ settings before why first known fits st ds.
    let count = st.house.editors.count in
    let past : editors_of before ≤ c.args.e = omega arith in
    absurd (unlinked (desk_of c.args.e before).phase (known.editors c.args.e past) fits)

pub returns-clause-does : goal.returns-clause-does
returns-clause-does c = λ settings before why first known fits st ds. c.in_ok-take_gone.ensures.does settings before why first st ds
