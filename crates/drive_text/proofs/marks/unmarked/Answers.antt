use Rattle.std.proofs.Common.{rules, ℕ, Vec, Global, ap, sym, ◌∙◌}
use Rattle.std.proofs.lemmas.Bool.{ne_eqb}
use Rattle.drive_text.proofs.Bodies.{plain_more, begun_more, meant_more}
use Rattle.drive_text.proofs.marks.unmarked.Goals as goal
use Rattle.drive_text.proofs.marks.unmarked.Goals.{then-in_mark+in-Some+in_ok-push, else-in_mark+then-byte-eq94, else-in_mark+else-byte-eq94+else-is_break+in_ok-push-2}

pub loop-byte-preserved : goal.loop-byte-preserved
loop-byte-preserved c = elim c.if-in_mark.branch [
  | then-in_mark+in-Some+in_ok-push w ↦ meant_more _ c.loop-byte.bytes.items c.if-in_mark.bytes.items c.args.text.now c.loop-byte.byte-index w.in-Some.meant c.loop-byte.in_mark c.if-in_mark.in_mark
      c.loop-byte-test.true c.loop-byte.invariant w.if-in_mark.true (sym w.mark_of.ensures ∙ w.in-Some.is) (ap (λ (v : Vec ℕ Global). v.items) w.bytes-is ∙ w.in_ok-push.ensures.items) w.in_mark-is
  | else-in_mark+then-byte-eq94 w ↦ begun_more _ c.loop-byte.bytes.items c.if-in_mark.bytes.items c.args.text.now c.loop-byte.byte-index c.loop-byte.in_mark c.if-in_mark.in_mark
      c.loop-byte-test.true c.loop-byte.invariant w.if-in_mark.false (search rules) (ap (λ (v : Vec ℕ Global). v.items) w.bytes-is) w.in_mark-is
  | else-in_mark+else-byte-eq94+else-is_break+in_ok-push-2 w ↦ plain_more _ c.loop-byte.bytes.items c.if-in_mark.bytes.items c.args.text.now c.loop-byte.byte-index c.loop-byte.in_mark c.if-in_mark.in_mark
      c.loop-byte-test.true c.loop-byte.invariant w.if-in_mark.false (ne_eqb _ _ w.if-byte-eq94.false) (sym w.is_break.ensures ∙ w.if-is_break.false) (ap (λ (v : Vec ℕ Global). v.items) w.bytes-is ∙ w.in_ok-push-2.ensures.items) (w.in_mark-is ∙ w.if-in_mark.false)
]
