-- Whether the capabilities of a text are those of bytes.
use Rattle.mux_turns.specs.Carried.{capabilities_in}
use Rattle.mux_turns.proofs.Carrying.{lacks_right, read_lacks, told_none}
use Rattle.mux_turns.proofs.carried.same_read.Goals as goal

pub returns-in-None : goal.returns-in-None
returns-in-None c = λ a left.
    lacks_right c.args.bytes.now (capabilities_in a) c.is_none.result (rw c.in-None.is at c.in_ok-found.ensures)
    (read_lacks c.args.left.now (capabilities_in a) c.capabilities.result c.is_none.result (c.capabilities.ensures.found a left) (told_none _ _ c.is_none.ensures))

pub returns-in-Some : goal.returns-in-Some
returns-in-Some c = λ a left. c.same_in.ensures a c.args.bytes.now left (rw c.in-Some.is at c.in_ok-found.ensures)
