use Rattle.std.proofs.Common.{[], ◌∷◌}
use Rattle.lane_desk.specs.Desks.{ids}
use Rattle.serve_rows.proofs.session.run.Given as goal

abbrev pub ghosts-named : goal.ghosts-named
ghosts-named g a = record { queues = ids a.editor.2 ∷ ids a.server ∷ ids a.ticker.1 ∷ []; editors = 1; servers = 1; before = g.K.Steps.faults a.core }
