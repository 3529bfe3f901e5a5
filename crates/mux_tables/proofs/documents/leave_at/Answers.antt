-- An editor leaves a group.
use Rattle.std.proofs.Common.{arith}
use Rattle.focus_switch.specs.Rows.{leave_row}
use Rattle.mux_tables.proofs.DocumentGroups.{past_step, there_step}
use Rattle.mux_tables.proofs.documents.leave_at.Goals as goal

pub returns-then-g-len : goal.returns-then-g-len
returns-then-g-len c = past_step (leave_row c.args.e) c.args.documents.now.items c.args.g c.new.result (omega (arith, c.len.ensures)) c.new.ensures

pub returns : goal.returns
returns c = there_step (leave_row c.args.e) c.args.documents.now.items c.args.g c.index_mut.result.now c.leave.new.self c.in_ok-owed.owed (omega (arith, c.len.ensures)) c.index_mut.ensures.value c.in_ok-owed.ensures
