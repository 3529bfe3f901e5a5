-- Those before left.
use Rattle.std.proofs.Common.{◌≡◌, take}
use Rattle.mux_tables.specs.Documents.{left_all}
use Rattle.mux_tables.proofs.documents.leave_each.Given as goal

abbrev pub invariant-loop-e : goal.invariant-loop-e
invariant-loop-e l = l.documents ≡ left_all (take l.e-index l.editors) l.initial.documents
