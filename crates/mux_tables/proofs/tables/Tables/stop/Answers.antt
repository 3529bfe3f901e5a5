-- The moment at which a start was sent `shutdown`.
use Rattle.std.proofs.Common.{ap, sym, ◌∙◌}
use Rattle.mux_tables.specs.Stands.{moment_in}
use Rattle.mux_tables.proofs.Overdue.{awaited_here}
use Rattle.mux_tables.proofs.Starts.{read_here}
use Rattle.mux_tables.proofs.tables.Tables.stop.Goals as goal

pub returns-in_err-moment : goal.returns-in_err-moment
returns-in_err-moment c = λ settings events st. c.from_residual-in_err-moment.ensures ∙ sym (ap moment_in c.in_err-moment.was)
    ∙ awaited_here settings c.args.self.now events c.in_ok-place.place c.args.s c.index.result.now (read_here c.args.self.now.lasts.items c.in_ok-place.place c.index.result.now c.in_ok-place.ensures.inside c.index.ensures) c.in_ok-place.ensures.found st
    c.stopping.result c.stopping.ensures.given c.stopping.ensures.awaited

pub returns : goal.returns
returns c = λ settings events st. sym (ap moment_in c.in_ok-moment.was)
    ∙ awaited_here settings c.args.self.now events c.in_ok-place.place c.args.s c.index.result.now (read_here c.args.self.now.lasts.items c.in_ok-place.place c.index.result.now c.in_ok-place.ensures.inside c.index.ensures) c.in_ok-place.ensures.found st
    c.stopping.result c.stopping.ensures.given c.stopping.ensures.awaited
