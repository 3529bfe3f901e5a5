-- Whether the capabilities of one text are those of another.
use Rattle.mux_turns.specs.Carried.{capabilities_in}
use Rattle.mux_turns.proofs.Carrying.{other_lacks, other_there}
use Rattle.mux_turns.proofs.carried.same_at.Goals as goal

pub returns-in-None : goal.returns-in-None
returns-in-None c = λ t b at right. other_lacks c.args.right.now t (capabilities_in b) (rw c.in-None.is at c.capabilities.ensures.found b right)

pub returns-in-Some : goal.returns-in-Some
returns-in-Some c = λ t b at right.
    other_there c.args.left.now c.args.right.now t (capabilities_in b) c.args.one c.in-Some.other c.same.result at (rw c.in-Some.is at c.capabilities.ensures.found b right) c.same.ensures.test
