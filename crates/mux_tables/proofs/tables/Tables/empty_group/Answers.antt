-- A group that lives no more stays as it is.
use Rattle.std.proofs.Common.{sym, ◌∙◌}
use Rattle.mux_tables.specs.Stands.{stays_in}
use Rattle.mux_tables.proofs.Idles.{over_emptied}
use Rattle.mux_tables.proofs.tables.Tables.empty_group.Goals as goal

pub returns-then-not-lives-clause-groups : goal.returns-then-not-lives-clause-groups
returns-then-not-lives-clause-groups c = over_emptied c.args.was (stays_in c.args.self.now.editors) c.args.self.now.course.time c.args.g c.args.self.now.groups (sym c.lives.ensures ∙ c.if-not-lives.true)
