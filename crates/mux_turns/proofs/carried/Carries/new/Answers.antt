-- Nothing is carried.
use Rattle.mux_turns.proofs.Carrying.{none_carried}
use Rattle.mux_turns.proofs.carried.Carries.new.Goals as goal

pub returns : goal.returns
returns c = λ settings. none_carried settings _ c.new.ensures.items c.new-2.ensures.items
