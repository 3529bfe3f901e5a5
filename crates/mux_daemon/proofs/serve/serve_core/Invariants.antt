use Rattle.std.proofs.Common.{map}
use Rattle.lane_desk.specs.Desks.{ids}
use Rattle.mux_daemon.proofs.serve.serve_core.Given as goal

abbrev pub ghosts-named : goal.ghosts-named
ghosts-named g a = record { queues = map ids a.hubs.ends.items; editors = a.hubs.editors; servers = a.hubs.servers; before = g.K.Steps.faults a.core }
