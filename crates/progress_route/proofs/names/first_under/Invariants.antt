use Rattle.std.proofs.Common.{◌≡◌}
use Rattle.id_rewrite.specs.Forms.{same_form}
use Rattle.progress_route.specs.Names.{first_number}
use Rattle.progress_route.proofs.names.first_under.Given as goal

abbrev pub invariant-loop-number : goal.invariant-loop-number
invariant-loop-number l = first_number (same_form l.text) l.rows.entries l.number-iterator ≡ first_number (same_form l.text) l.rows.entries l.numbers.keys
