use Rattle.std.proofs.Common.{◌≡◌, ◌<◌, ◌^◌, length, drop, arith, rules, ◌∙◌}
use Rattle.std.specs.Str.{chars}
use Rattle.std.proofs.lemmas.Iterator.{YieldsList-from_chars}
use Rattle.std.proofs.lemmas.Iterator.Consumers.{YieldsList-turn, YieldsList-end}
use Rattle.std.proofs.lemmas.List.{at_drop_all, length_push}
use Rattle.position_codec.specs.Position.{bytes}
use Rattle.position_codec.proofs.Places.{walk_is}
use Rattle.position_codec.proofs.Turns.{bytes_chars, bytes_turn, walk_stops, walk_goes, walk_ends}
use Rattle.position_codec.proofs.offset_of.Goals as goal

pub returns-in-None-past : goal.returns-in-None-past
returns-in-None-past c =
    let t = YieldsList-turn (YieldsList-from_chars c.args.text.now c.utf8.text cc) c.loop-c.yielded _ c.loop-c.yielded_by _ _ c.in-Some.c c.in-Some.is c.next.ensures.steps in
    walk_stops c.args.encoding c.loop-c.place (chars c.args.text.now) (length c.loop-c.yielded) c.in-Some.c c.loop-c.offset _ t c.in-None-past.ensures c.loop-c.invariant.1 ∙ walk_is c.args.encoding (chars c.args.text.now) c.args.line c.args.character

pub overflow_add-offset : goal.overflow_add-offset
overflow_add-offset c =
    let t = YieldsList-turn (YieldsList-from_chars c.args.text.now c.utf8.text cc) c.loop-c.yielded _ c.loop-c.yielded_by _ _ c.in-Some.c c.in-Some.is c.next.ensures.steps in
    let b = bytes_turn (chars c.args.text.now) (length c.loop-c.yielded) _ c.in-Some.c t (length_push c.loop-c.yielded c.in-Some.c) in
    let whole = bytes_chars c.args.text.now c.utf8.text in
    let small : length c.args.text.now < 2 ^ 64 = search rules in
    omega (arith, b, whole, small, c.loop-c.invariant.0, c.len_utf8-offset.ensures.value)

pub loop-c-preserved : goal.loop-c-preserved
loop-c-preserved c =
    let t = YieldsList-turn (YieldsList-from_chars c.args.text.now c.utf8.text cc) c.loop-c.yielded _ c.loop-c.yielded_by _ _ c.in-Some.c c.in-Some.is c.next.ensures.steps in
    let b = bytes_turn (chars c.args.text.now) (length c.loop-c.yielded) _ c.in-Some.c t (length_push c.loop-c.yielded c.in-Some.c) in
    let w = walk_goes c.args.encoding c.loop-c.place c.in-Some-past.next (chars c.args.text.now) (length c.loop-c.yielded) _ c.in-Some.c c.loop-c.offset _ t (length_push c.loop-c.yielded c.in-Some.c) c.in-Some-past.ensures c.loop-c.invariant.1 in
    (omega (arith, b, c.loop-c.invariant.0, c.len_utf8-offset.ensures.value), omega (arith, w, c.len_utf8-offset.ensures.value))

pub returns : goal.returns
returns c =
    let t = YieldsList-end (YieldsList-from_chars c.args.text.now c.utf8.text cc) c.loop-c.yielded _ c.loop-c.yielded_by _ _ c.in-None.is c.next.ensures.steps in
    let w = walk_ends c.args.encoding c.loop-c.place (chars c.args.text.now) (length c.loop-c.yielded) c.loop-c.offset _ (omega (arith, t.1)) c.loop-c.invariant.1 in
    let b : bytes (drop (length c.loop-c.yielded) (chars c.args.text.now)) ≡ 0 = at_drop_all bytes (chars c.args.text.now) (length c.loop-c.yielded) (omega (arith, t.1)) in
    let whole = bytes_chars c.args.text.now c.utf8.text in
    let ends : length c.args.text.now ≡ c.loop-c.offset = omega (arith, whole, b, c.loop-c.invariant.0) in
    ends ∙ (w ∙ walk_is c.args.encoding (chars c.args.text.now) c.args.line c.args.character)
