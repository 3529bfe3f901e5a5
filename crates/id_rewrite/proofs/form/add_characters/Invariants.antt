use Rattle.std.proofs.Common.{length}
use Rattle.id_rewrite.specs.Forms.{characters_of}
use Rattle.id_rewrite.proofs.Prints.{Fed}
use Rattle.id_rewrite.proofs.form.add_characters.Given as goal

abbrev pub invariant-loop-character : goal.invariant-loop-character
invariant-loop-character l = Fed characters_of l.raw l.rest l.initial.hasher l.hasher

abbrev pub decreases-loop-character : goal.decreases-loop-character
decreases-loop-character l = length l.rest
