use Rattle.lane_lists.proofs.Ticks.{ticks_posted}
use Rattle.lane_lists.proofs.Sitting.{editors_sit}
use Rattle.lane_lists.proofs.TriedIn.{starts_tried_in}
use Rattle.lane_lists.proofs.law.origins_law.Goals as goal

pub returns-clause-ticks : goal.returns-clause-ticks
returns-clause-ticks c n m deeds fair = ticks_posted n m deeds fair

pub returns-clause-editors : goal.returns-clause-editors
returns-clause-editors c n m deeds fair lanes e below = editors_sit n m deeds fair lanes e below

pub returns-clause-starts : goal.returns-clause-starts
returns-clause-starts c n m deeds fair s some = starts_tried_in n m deeds fair s some
