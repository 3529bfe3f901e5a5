-- What is registered at the group's last start.
use Rattle.std.proofs.Common.{◌∙◌}
use Rattle.mux_tables.proofs.Registered.{live_seen}
use Rattle.mux_tables.proofs.tables.Tables.live.Goals as goal

pub returns : goal.returns
returns c = λ settings events x at ready st. c.all.ensures ∙ live_seen settings c.args.self.now events c.args.g x c.index.result.now at c.requires c.index.ensures ready st
