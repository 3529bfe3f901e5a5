-- Whether two texts have the same capabilities.
use Rattle.mux_turns.specs.Carried.{capabilities_in}
use Rattle.mux_turns.proofs.Carrying.{none_left, there_same, told_none}
use Rattle.mux_turns.proofs.carried.same_in.Goals as goal

pub returns-in-None : goal.returns-in-None
returns-in-None c = λ a b left right.
    none_left c.args.left.now c.args.right.now (capabilities_in a) (capabilities_in b) c.capabilities-in-None.result c.is_none.result (rw c.in-None.is at c.capabilities.ensures.found a left) (c.capabilities-in-None.ensures.found b right) (told_none _ _ c.is_none.ensures)

pub returns-in-Some : goal.returns-in-Some
returns-in-Some c = λ a b left right.
    there_same c.args.left.now (capabilities_in a) (capabilities_in b) c.in-Some.one c.same_at.result (rw c.in-Some.is at c.capabilities.ensures.found a left) (λ t at. c.same_at.ensures t b at right)
