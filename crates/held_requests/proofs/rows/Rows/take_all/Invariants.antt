use Rattle.std.proofs.Common.{◌≡◌, filter, length, not}
use Rattle.std.specs.Map.{values_of}
use Rattle.held_requests.specs.Tables.{is_of}
use Rattle.held_requests.proofs.rows.Rows.take_all.Given as goal

abbrev pub decreases-loop-number : goal.decreases-loop-number
decreases-loop-number l = length (values_of l.self.rows)

abbrev pub invariant-loop-number : goal.invariant-loop-number
invariant-loop-number l = filter (λ r. not (is_of l.editor r)) (values_of l.self.rows) ≡ filter (λ r. not (is_of l.editor r)) (values_of l.fn.self.rows)
