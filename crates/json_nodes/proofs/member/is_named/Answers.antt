use Rattle.std.specs.Str.{chars}
use Rattle.json_nodes.proofs.Spelling.{named_so}
use Rattle.json_nodes.proofs.member.is_named.Goals as goal

pub returns : goal.returns
returns c = λ k n t u ds a g. named_so c.spells_text.result ds (chars c.args.name.now) (c.spells_text.ensures ds (c.name.ensures.spelled k n t u ds a g))
