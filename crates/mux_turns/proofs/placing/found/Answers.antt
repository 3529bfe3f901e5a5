-- A group is founded.
use Rattle.mux_turns.proofs.placing.found.Goals as goal

pub returns-clause-does : goal.returns-clause-does
returns-clause-does c = λ settings before base e body next. c.in_ok-found.ensures.does settings base next.none

pub returns-clause-documents : goal.returns-clause-documents
returns-clause-documents c = λ settings owed base next st ds. c.in_ok-found.ensures.documents settings owed base next.none st ds
