use Rattle.std.proofs.Common.{sym}
use Rattle.json_token.proofs.Shorter.{next_shorter}
use Rattle.id_rewrite.proofs.Forming.{left_apart, left_more}
use Rattle.id_rewrite.proofs.form.same_characters.Goals as goal

pub loop-character-smaller : goal.loop-character-smaller
loop-character-smaller c = next_shorter c.loop-character.rest.now c.in-Some.more.now c.in-Some.character (sym c.in-Some.ensures)

pub returns-then-character-wanted : goal.returns-then-character-wanted
returns-then-character-wanted c = left_apart c.args.a.now c.args.b.now c.loop-character.rest.now c.loop-character.other.now c.in-Some.more.now c.in-Some-next_character.other_more.now c.in-Some.character c.in-Some-next_character.wanted c.loop-character.invariant (sym c.in-Some.ensures) (sym c.in-Some-next_character.ensures) c.if-character-wanted.true

pub loop-character-preserved : goal.loop-character-preserved
loop-character-preserved c = left_more c.args.a.now c.args.b.now c.loop-character.rest.now c.loop-character.other.now c.in-Some.more.now c.in-Some-next_character.other_more.now c.in-Some.character c.in-Some-next_character.wanted c.loop-character.invariant (sym c.in-Some.ensures) (sym c.in-Some-next_character.ensures) c.if-character-wanted.false
