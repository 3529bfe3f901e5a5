use Rattle.std.proofs.Common.{[], ◌∷◌}
use Rattle.lane_desk.specs.Desks.{ids}
use Rattle.lane_echo.proofs.session.run.Given as goal

abbrev pub ghosts-named : goal.ghosts-named
ghosts-named g a = record { queues = ids a.editor.2 ∷ ids a.ticker ∷ []; editors = 1; servers = 0; before = 0 }
