-- Whether the last list of a document that an editor was sent isn't empty.
use Rattle.std.proofs.Common.{◌∙◌}
use Rattle.mux_tables.proofs.Showing.{full_seen}
use Rattle.mux_tables.proofs.tables.Tables.is_full.Goals as goal

pub returns : goal.returns
returns c = λ settings events runs st. c.is_full.ensures ∙ full_seen settings c.args.self.now events c.args.e c.args.uri.now c.requires runs st
