use Rattle.std.proofs.Common.{◌<◌, ◌^◌, inl, inr, length, sym, arith, rules}
use Rattle.std.specs.Str.{chars}
use Rattle.std.proofs.lemmas.Iterator.{YieldsList-from_chars}
use Rattle.std.proofs.lemmas.Iterator.Consumers.{YieldsList-turn, YieldsList-end}
use Rattle.std.proofs.lemmas.List.{length_push, at_drop_all}
use Rattle.position_codec.specs.Position.{bytes}
use Rattle.position_codec.proofs.Advancing.{reading_starts, reading_on, advances_some, advances_all, advances_to}
use Rattle.position_codec.proofs.Turns.{bytes_chars, bytes_turn}
use Rattle.position_codec.proofs.spot.Spot.advance_within.Goals as goal

pub loop-c-init : goal.loop-c-init
loop-c-init c = reading_starts c.args.encoding c.args.self c.args.line c.args.character (chars c.args.text.now) c.requires.ahead

pub returns-then-offset-most-clause-some : goal.returns-then-offset-most-clause-some
returns-then-offset-most-clause-some c = advances_some c.utf8.text c.loop-c.invariant (omega (arith, c.if-offset-most.true, c.requires.most))

pub returns-then-offset-most-clause-whole : goal.returns-then-offset-most-clause-whole
returns-then-offset-most-clause-whole c = λ h. inr c.if-offset-most.true

pub returns-in_err-next-clause-none : goal.returns-in_err-next-clause-none
returns-in_err-next-clause-none c =
    let whole = bytes_chars c.args.text.now c.utf8.text in
    rw c.from_residual.ensures (omega (arith, c.in_err-next.ensures.none, c.loop-c.invariant.few, c.loop-c.invariant.whole, whole))

pub returns-then-not-is_before-clause-some : goal.returns-then-not-is_before-clause-some
returns-then-not-is_before-clause-some c =
    let t = YieldsList-turn (YieldsList-from_chars c.args.text.now c.utf8.text cc) c.loop-c.yielded _ c.loop-c.yielded_by _ _ c.in-Some.c c.in-Some.is c.next.ensures.steps in
    advances_to c.utf8.text c.loop-c.invariant c.in-Some.c c.in_ok-next.next t c.in_ok-next.ensures.some (sym c.if-not-is_before.ensures)

pub overflow_add-offset : goal.overflow_add-offset
overflow_add-offset c =
    let t = YieldsList-turn (YieldsList-from_chars c.args.text.now c.utf8.text cc) c.loop-c.yielded _ c.loop-c.yielded_by _ _ c.in-Some.c c.in-Some.is c.next.ensures.steps in
    let b = bytes_turn (chars c.args.text.now) (length c.loop-c.yielded) _ c.in-Some.c t (length_push c.loop-c.yielded c.in-Some.c) in
    let whole = bytes_chars c.args.text.now c.utf8.text in
    let small : length c.args.text.now < 2 ^ 64 = search rules in
    omega (arith, b, whole, small, c.loop-c.invariant.whole, c.len_utf8-offset.ensures.value)

pub loop-c-preserved : goal.loop-c-preserved
loop-c-preserved c =
    let t = YieldsList-turn (YieldsList-from_chars c.args.text.now c.utf8.text cc) c.loop-c.yielded _ c.loop-c.yielded_by _ _ c.in-Some.c c.in-Some.is c.next.ensures.steps in
    reading_on c.args.encoding c.args.self c.args.line c.args.character (chars c.args.text.now) (length c.loop-c.yielded) _ c.loop-c.offset c.len_utf8-offset.result c.in-Some.c c.loop-c.spot c.in_ok-next.next c.loop-c.invariant t (length_push c.loop-c.yielded c.in-Some.c) c.in_ok-next.ensures.some (sym c.if-not-is_before.ensures)
    c.in_ok-next.ensures.few c.len_utf8-offset.ensures.value c.len_utf8-offset.ensures.lower_bound

pub returns-clause-some : goal.returns-clause-some
returns-clause-some c =
    let t = YieldsList-end (YieldsList-from_chars c.args.text.now c.utf8.text cc) c.loop-c.yielded _ c.loop-c.yielded_by _ _ c.in-None.is c.next.ensures.steps in
    advances_all c.utf8.text c.loop-c.invariant (omega (arith, t.1))

pub returns-clause-whole : goal.returns-clause-whole
returns-clause-whole c =
    let t = YieldsList-end (YieldsList-from_chars c.args.text.now c.utf8.text cc) c.loop-c.yielded _ c.loop-c.yielded_by _ _ c.in-None.is c.next.ensures.steps in
    let b = at_drop_all bytes (chars c.args.text.now) (length c.loop-c.yielded) (omega (arith, t.1)) in
    let w = bytes_chars c.args.text.now c.utf8.text in
    λ h. inl (omega (arith, w, b, c.loop-c.invariant.whole))
