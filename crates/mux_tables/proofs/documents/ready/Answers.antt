-- A start is ready.
use Rattle.std.proofs.Common.{arith, ◌∙◌, ap}
use Rattle.focus_switch.specs.Rows.{ready_row}
use Rattle.mux_tables.specs.Documents.{left_all}
use Rattle.mux_tables.proofs.DocumentGroups.{past_step, there_step}
use Rattle.mux_tables.proofs.documents.ready.Goals as goal

pub returns-then-g-len : goal.returns-then-g-len
returns-then-g-len c = past_step (λ d. ready_row c.args.start c.args.encoding (left_all c.args.parted.now d)) c.args.documents.now.items c.args.g c.new.result (omega (arith, c.len.ensures)) c.new.ensures

pub returns : goal.returns
returns c = there_step (λ d. ready_row c.args.start c.args.encoding (left_all c.args.parted.now d)) c.args.documents.now.items c.args.g c.index_mut-shared.result.now c.ready.new.self c.in_ok-owed.owed (omega (arith, c.len.ensures)) c.index_mut-shared.ensures.value
    (c.in_ok-owed.ensures ∙ ap (ready_row c.args.start c.args.encoding) c.in_ok-leave_each.ensures)
