use Rattle.std.proofs.Common.{length}
use Rattle.id_rewrite.proofs.Forming.{Left}
use Rattle.id_rewrite.proofs.form.same_characters.Given as goal

abbrev pub invariant-loop-character : goal.invariant-loop-character
invariant-loop-character l = Left l.a l.b l.rest l.other

abbrev pub decreases-loop-character : goal.decreases-loop-character
decreases-loop-character l = length l.rest
