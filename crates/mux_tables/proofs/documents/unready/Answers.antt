-- No start is ready.
use Rattle.std.proofs.Common.{arith}
use Rattle.focus_switch.specs.Rows.{unready_row}
use Rattle.mux_tables.proofs.DocumentGroups.{after_at, none_there}
use Rattle.mux_tables.proofs.documents.unready.Goals as goal

pub returns-then-g-len : goal.returns-then-g-len
returns-then-g-len c = λ d at. absurd (none_there c.args.documents.now.items c.args.g d (omega (arith, c.len.ensures)) at)

pub returns : goal.returns
returns c = λ d at. after_at unready_row c.args.documents.now.items c.args.g c.index_mut.result.now d c.unready.new.self (omega (arith, c.len.ensures)) c.index_mut.ensures.value at c.unready.ensures
