-- Whether bytes have no capabilities.
use Rattle.mux_turns.specs.Carried.{capabilities_in}
use Rattle.mux_turns.proofs.Carrying.{read_lacks, unread_lacks, told_none}
use Rattle.mux_turns.proofs.carried.lacks.Goals as goal

pub returns-in-None : goal.returns-in-None
returns-in-None c = unread_lacks c.args.bytes.now (rw c.in-None.is at c.in_ok-found.ensures)

pub returns-in-Some : goal.returns-in-Some
returns-in-Some c = read_lacks c.in-Some.tape (capabilities_in c.args.bytes.now) c.capabilities.result c.is_none.result (c.capabilities.ensures.found c.args.bytes.now (rw c.in-Some.is at c.in_ok-found.ensures)) (told_none _ _ c.is_none.ensures)
