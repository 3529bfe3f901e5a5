use Rattle.std.specs.Prelude.{bytes_eq}
use Rattle.mux_members.proofs.Bared.{either_first, either_second}
use Rattle.mux_members.proofs.notice.spells_either.Goals as goal

pub returns-then-spells : goal.returns-then-spells
returns-then-spells c = λ first second s cs f. either_first (bytes_eq c.args.first.now cs) (bytes_eq c.args.second.now cs) c.spells.result (c.spells.ensures first s cs f) c.if-spells.true

pub returns-else-spells : goal.returns-else-spells
returns-else-spells c = λ first second s cs f. either_second (bytes_eq c.args.first.now cs) (bytes_eq c.args.second.now cs) c.spells.result c.spells-else-spells.result (c.spells.ensures first s cs f) c.if-spells.false (c.spells-else-spells.ensures second s cs f)
