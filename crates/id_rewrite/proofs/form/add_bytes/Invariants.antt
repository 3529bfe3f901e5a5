use Rattle.std.proofs.Common.{length}
use Rattle.id_rewrite.proofs.Prints.{Fed, itself}
use Rattle.id_rewrite.proofs.form.add_bytes.Given as goal

abbrev pub invariant-loop-byte : goal.invariant-loop-byte
invariant-loop-byte l = Fed itself l.bytes l.rest l.initial.hasher l.hasher

abbrev pub decreases-loop-byte : goal.decreases-loop-byte
decreases-loop-byte l = length l.rest
