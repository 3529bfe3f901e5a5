use Rattle.std.proofs.Common.{◌≡◌, sym, subst, ap, ◌∙◌, ◌++◌, ◌<◌, length, take, drop, arith}
use Rattle.std.specs.Prelude.{None}
use Rattle.std.proofs.lemmas.List.{length-drop}
use Rattle.json_token.specs.Characters.{next_character, front_view}
use Rattle.json_token.proofs.Comparing.{Decoded, decoded_first, decoded_more, decoded_all}
use Rattle.json_token.proofs.Fronts.{decoded_run, rest_is}
use Rattle.json_token.proofs.Shorter.{next_shorter}
use Rattle.json_token.proofs.decoded.decode.Goals as goal

pub loop-text-init : goal.loop-text-init
loop-text-init c = subst (λ t. Decoded c.args.raw.now c.args.raw.now t) (sym c.new-text.ensures.items) (decoded_first c.args.raw.now)

pub returns-in_default : goal.returns-in_default
returns-in_default c =
    let rest = c.loop-text.rest.now in
    let end = c.plain_end-end in
    let run = decoded_run c.args.raw.now rest c.loop-text.text.items end.result c.loop-text.invariant (omega (arith, end.ensures.value)) in
    let none : next_character (drop end.result rest) ≡ None = ap next_character (sym (rest_is end.result rest)) ∙ (sym c.next_character.ensures ∙ ap front_view c.in_default.is) in
    λ cs s. c.in_ok-extend_from_slice.ensures.items ∙ decoded_all c.args.raw.now (drop end.result rest) (c.loop-text.text.items ++ take end.result rest) run none cs s

pub loop-text-smaller : goal.loop-text-smaller
loop-text-smaller c =
    let rest = c.loop-text.rest.now in
    let shorter : length c.in-Some.more.now < length (drop c.plain_end-end.result rest) = next_shorter (drop c.plain_end-end.result rest) c.in-Some.more.now c.in-Some.character (ap next_character (sym (rest_is c.plain_end-end.result rest)) ∙ sym c.in-Some.ensures) in
    omega (arith, shorter, length-drop c.plain_end-end.result rest)

pub loop-text-preserved : goal.loop-text-preserved
loop-text-preserved c =
    let rest = c.loop-text.rest.now in
    let end = c.plain_end-end in
    let run = decoded_run c.args.raw.now rest c.loop-text.text.items end.result c.loop-text.invariant (omega (arith, end.ensures.value)) in
    let text : c.extend_from_slice.new.self.items ≡ c.loop-text.text.items ++ take end.result rest = c.in_ok-extend_from_slice.ensures.items in
    subst (λ t. Decoded c.args.raw.now c.in-Some.more.now t) (sym c.in_ok-push_character.ensures)
    (decoded_more c.args.raw.now (drop end.result rest) c.extend_from_slice.new.self.items c.in-Some.more.now c.in-Some.character (subst (λ t. Decoded c.args.raw.now (drop end.result rest) t) (sym text) run) (ap next_character (sym (rest_is end.result rest)) ∙ sym c.in-Some.ensures))
