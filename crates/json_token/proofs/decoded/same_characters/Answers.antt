use Rattle.std.proofs.Common.{◌≡◌, sym, ap, ◌∙◌, false}
use Rattle.std.specs.Prelude.{None}
use Rattle.json_token.specs.Characters.{next_character, front_view, rest_view, behind}
use Rattle.json_token.proofs.InOrder.{aligned_more, aligned_end, aligned_apart, compared}
use Rattle.json_token.proofs.Shorter.{next_shorter}
use Rattle.json_token.proofs.decoded.same_characters.Goals as goal

pub loop-character-smaller : goal.loop-character-smaller
loop-character-smaller c = next_shorter c.loop-character.rest.now c.in-Some.more.now c.in-Some.character (sym c.in-Some.ensures)

pub loop-character-preserved : goal.loop-character-preserved
loop-character-preserved c =
    aligned_more c.args.a.now c.args.b.now c.loop-character.rest.now c.loop-character.other_rest.now c.in-Some.more.now c.in-Some-strip_character.other_more.now c.in-Some.character
    c.loop-character.invariant (sym c.in-Some.ensures) (sym c.in-Some-strip_character.ensures)

pub returns-in_default-strip_character-clause-read : goal.returns-in_default-strip_character-clause-read
returns-in_default-strip_character-clause-read c =
    let none : behind c.in-Some.character (next_character c.loop-character.other_rest.now) ≡ None = sym c.strip_character.ensures ∙ ap rest_view c.in_default-strip_character.is in
    aligned_apart c.args.a.now c.args.b.now c.loop-character.rest.now c.loop-character.other_rest.now c.in-Some.more.now c.in-Some.character c.loop-character.invariant (sym c.in-Some.ensures) none

pub returns-in_default-strip_character-clause-strings : goal.returns-in_default-strip_character-clause-strings
returns-in_default-strip_character-clause-strings c = compared c.args.a.now c.args.b.now false (returns-in_default-strip_character-clause-read c)

pub returns-clause-read : goal.returns-clause-read
returns-clause-read c =
    let none : next_character c.loop-character.rest.now ≡ None = sym c.next_character.ensures ∙ ap front_view c.in_default.is in
    c.is_at_end.ensures ∙ aligned_end c.args.a.now c.args.b.now c.loop-character.rest.now c.loop-character.other_rest.now c.loop-character.invariant none

pub returns-clause-strings : goal.returns-clause-strings
returns-clause-strings c = compared c.args.a.now c.args.b.now c.is_at_end.result (returns-clause-read c)
