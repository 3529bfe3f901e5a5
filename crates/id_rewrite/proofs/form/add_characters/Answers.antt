use Rattle.std.proofs.Common.{◌<◌, length, drop, sym, ap, ◌∙◌, arith}
use Rattle.std.proofs.lemmas.List.{length-drop}
use Rattle.json_token.specs.Characters.{next_character, front_view}
use Rattle.json_token.proofs.Fronts.{rest_is}
use Rattle.json_token.proofs.Shorter.{next_shorter}
use Rattle.id_rewrite.proofs.Prints.{characters_all, characters_more, characters_run}
use Rattle.id_rewrite.proofs.form.add_characters.Goals as goal

pub returns-in_default : goal.returns-in_default
returns-in_default c =
    let rest = c.loop-character.rest.now in
    let end = c.plain_ascii_end-end in
    let passed = characters_run c.args.raw.now rest c.args.hasher.now c.loop-character.hasher c.update.new.self end.result c.loop-character.invariant end.ensures.value c.update.ensures in
    characters_all c.args.raw.now (drop end.result rest) c.args.hasher.now c.update.new.self passed (ap next_character (sym (rest_is end.result rest)) ∙ (sym c.next_character.ensures ∙ ap front_view c.in_default.is))

pub loop-character-smaller : goal.loop-character-smaller
loop-character-smaller c =
    let rest = c.loop-character.rest.now in
    let end = c.plain_ascii_end-end in
    let shorter : length c.in-Some.more.now < length (drop end.result rest) = next_shorter (drop end.result rest) c.in-Some.more.now c.in-Some.character (ap next_character (sym (rest_is end.result rest)) ∙ sym c.in-Some.ensures) in
    omega (arith, shorter, length-drop end.result rest)

pub loop-character-preserved : goal.loop-character-preserved
loop-character-preserved c =
    let rest = c.loop-character.rest.now in
    let end = c.plain_ascii_end-end in
    let passed = characters_run c.args.raw.now rest c.args.hasher.now c.loop-character.hasher c.update.new.self end.result c.loop-character.invariant end.ensures.value c.update.ensures in
    characters_more c.args.raw.now (drop end.result rest) c.in-Some.more.now c.args.hasher.now c.update.new.self c.add.new.hasher c.in-Some.character passed (ap next_character (sym (rest_is end.result rest)) ∙ sym c.in-Some.ensures) c.add.ensures
