use Rattle.std.proofs.Common.{◌<◌, ◌^◌, length, arith, rules, sym}
use Rattle.std.specs.Str.{chars}
use Rattle.std.proofs.lemmas.Iterator.{YieldsList-from_chars}
use Rattle.std.proofs.lemmas.Iterator.Consumers.{YieldsList-turn, YieldsList-end}
use Rattle.std.proofs.lemmas.List.{length_push}
use Rattle.position_codec.proofs.Starts.{found_is}
use Rattle.position_codec.proofs.Turns.{bytes_chars, bytes_turn, found_starts, found_passes, found_ends, found_none}
use Rattle.position_codec.proofs.line_starts.Goals as goal
use Rattle.position_codec.proofs.line_starts.Goals.{then-starts_between+in_ok-push, else-starts_between, then-ends_line+in_ok-push-2, else-ends_line}

pub overflow_add-offset : goal.overflow_add-offset
overflow_add-offset c =
    let t = YieldsList-turn (YieldsList-from_chars c.args.text.now c.utf8.text cc) c.loop-c.yielded _ c.loop-c.yielded_by _ _ c.in-Some.c c.in-Some.is c.next.ensures.steps in
    let b = bytes_turn (chars c.args.text.now) (length c.loop-c.yielded) _ c.in-Some.c t (length_push c.loop-c.yielded c.in-Some.c) in
    let whole = bytes_chars c.args.text.now c.utf8.text in
    let small : length c.args.text.now < 2 ^ 64 = search rules in
    omega (arith, b, whole, small, c.loop-c.invariant.0, c.len_utf8-offset.ensures.value)

pub loop-c-preserved : goal.loop-c-preserved
loop-c-preserved c =
    let t = YieldsList-turn (YieldsList-from_chars c.args.text.now c.utf8.text cc) c.loop-c.yielded _ c.loop-c.yielded_by _ _ c.in-Some.c c.in-Some.is c.next.ensures.steps in
    let b = bytes_turn (chars c.args.text.now) (length c.loop-c.yielded) _ c.in-Some.c t (length_push c.loop-c.yielded c.in-Some.c) in
    elim c.if-starts_between.branch [
      | then-starts_between+in_ok-push w ↦
          let s = found_starts c.loop-c.previous c.loop-c.offset (chars c.args.text.now) (length c.loop-c.yielded) _ c.in-Some.c c.loop-c.starts.items _ t (length_push c.loop-c.yielded c.in-Some.c) (sym w.if-starts_between.ensures) c.loop-c.invariant.1 in
          (omega (arith, b, c.loop-c.invariant.0, c.len_utf8-offset.ensures.value), cc (s, w.starts-is, w.in_ok-push.ensures.items, c.len_utf8-offset.ensures.value))
      | else-starts_between w ↦
          let s = found_passes c.loop-c.previous c.loop-c.offset (chars c.args.text.now) (length c.loop-c.yielded) _ c.in-Some.c c.loop-c.starts.items _ t (length_push c.loop-c.yielded c.in-Some.c) (sym w.if-starts_between.ensures) c.loop-c.invariant.1 in
          (omega (arith, b, c.loop-c.invariant.0, c.len_utf8-offset.ensures.value), cc (s, w.starts-is, c.len_utf8-offset.ensures.value))
    ]

pub returns : goal.returns
returns c =
    let t = YieldsList-end (YieldsList-from_chars c.args.text.now c.utf8.text cc) c.loop-c.yielded _ c.loop-c.yielded_by _ _ c.in-None.is c.next.ensures.steps in
    let whole = found_is (chars c.args.text.now) in
    elim c.if-ends_line.branch [
      | then-ends_line+in_ok-push-2 w ↦
          let s = found_ends c.loop-c.previous c.loop-c.offset (chars c.args.text.now) (length c.loop-c.yielded) c.loop-c.starts.items _ (omega (arith, t.1)) (sym w.if-ends_line.ensures) c.loop-c.invariant.1 in
          cc (s, whole, w.starts-is, w.in_ok-push-2.ensures.items)
      | else-ends_line w ↦
          let s = found_none c.loop-c.previous c.loop-c.offset (chars c.args.text.now) (length c.loop-c.yielded) c.loop-c.starts.items _ (omega (arith, t.1)) (sym w.if-ends_line.ensures) c.loop-c.invariant.1 in
          cc (s, whole, w.starts-is)
    ]
