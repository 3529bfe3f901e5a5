-- An editor's texts are the start's.
use Rattle.std.proofs.Common.{arith}
use Rattle.focus_switch.specs.Rows.{sync_row}
use Rattle.mux_tables.proofs.DocumentGroups.{past_step, there_step}
use Rattle.mux_tables.proofs.documents.sync.Goals as goal

pub returns-then-g-len : goal.returns-then-g-len
returns-then-g-len c = past_step (sync_row c.args.e) c.args.documents.now.items c.args.g c.new.result (omega (arith, c.len.ensures)) c.new.ensures

pub returns : goal.returns
returns c = there_step (sync_row c.args.e) c.args.documents.now.items c.args.g c.index_mut.result.now c.sync.new.self c.in_ok-told.told (omega (arith, c.len.ensures)) c.index_mut.ensures.value c.in_ok-told.ensures
