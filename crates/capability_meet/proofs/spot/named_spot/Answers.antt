use Rattle.std.specs.Prelude.{bytes_eq}
use Rattle.std.specs.Str.{chars}
use Rattle.json_nodes.proofs.Spelling.{named_so}
use Rattle.capability_meet.specs.declared.spot.Spot.TheVariants as spot
use Rattle.capability_meet.proofs.Spots.{chosen, other}
use Rattle.capability_meet.proofs.spot.named_spot.Goals as goal

pub returns-then-spells_text : goal.returns-then-spells_text
returns-then-spells_text c = λ cs h. chosen c.args.spot spot.Elsewhere c.spells_text.result (bytes_eq (chars c.args.name.now) cs) (named_so c.spells_text.result cs (chars c.args.name.now) (c.spells_text.ensures cs h)) c.if-spells_text.true

pub returns-else-spells_text : goal.returns-else-spells_text
returns-else-spells_text c = λ cs h. other c.args.spot spot.Elsewhere c.spells_text.result (bytes_eq (chars c.args.name.now) cs) (named_so c.spells_text.result cs (chars c.args.name.now) (c.spells_text.ensures cs h)) c.if-spells_text.false
