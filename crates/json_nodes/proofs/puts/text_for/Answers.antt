use Rattle.std.proofs.Common.{◌∙◌, sym}
use Rattle.std.specs.Str.{chars}
use Rattle.json_nodes.proofs.Putting.{no_put, the_put}
use Rattle.json_nodes.proofs.Spelling.{named_so}
use Rattle.json_nodes.proofs.puts.text_for.Goals as goal

pub returns-then-spells_text : goal.returns-then-spells_text
returns-then-spells_text c = λ cs h. the_put c.args.puts.now c.loop-put.put-index _ cs c.loop-put-test.true (sym (named_so c.spells_text.result cs (chars _) (c.spells_text.ensures cs h)) ∙ c.if-spells_text.true) ∙ c.loop-put.invariant cs h

pub loop-put-preserved : goal.loop-put-preserved
loop-put-preserved c = λ cs h. no_put c.args.puts.now c.loop-put.put-index _ cs c.loop-put-test.true (sym (named_so c.spells_text.result cs (chars _) (c.spells_text.ensures cs h)) ∙ c.if-spells_text.false) ∙ c.loop-put.invariant cs h
