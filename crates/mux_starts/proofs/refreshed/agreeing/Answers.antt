-- Those of a list that agree.
use Rattle.std.proofs.Common.{◌<◌, ap, sym, subst, ◌∙◌}
use Rattle.std.specs.List.{All}
use Rattle.group_rows.specs.Debts.{agrees_on_all}
use Rattle.mux_starts.proofs.Offered.{all_kept, one_kept, one_left}
use Rattle.mux_starts.proofs.Parting.{inside_more}
use Rattle.mux_starts.proofs.refreshed.agreeing.Goals as goal
use Rattle.mux_starts.proofs.refreshed.agreeing.Goals.{then-agrees+in_ok-push, else-agrees}

pub loop-e-preserved : goal.loop-e-preserved
loop-e-preserved c = record {
  those = λ settings events x here ready st ds.
      let keep = agrees_on_all settings x.life.start events in
      elim c.if-agrees.branch [
        | then-agrees+in_ok-push w ↦ one_kept keep c.args.numbers.now c.loop-e.e-index c.in_ok-agrees.agrees c.loop-e.those.items c.if-agrees.those.items c.loop-e-test.true (c.loop-e.invariant.those settings events x here ready st ds) (c.in_ok-agrees.ensures settings events x here ready st ds) w.if-agrees.true (ap (λ v. v.items) w.those-is ∙ w.in_ok-push.ensures.items)
        | else-agrees w ↦ one_left keep c.args.numbers.now c.loop-e.e-index c.in_ok-agrees.agrees c.loop-e.those.items c.if-agrees.those.items c.loop-e-test.true (c.loop-e.invariant.those settings events x here ready st ds) (c.in_ok-agrees.ensures settings events x here ready st ds) w.if-agrees.false (ap (λ v. v.items) w.those-is)
      ];
  inside = λ n all.
      elim c.if-agrees.branch [
        | then-agrees+in_ok-push w ↦ inside_more n c.loop-e.e-index c.args.numbers.now c.loop-e.those.items c.if-agrees.those.items c.loop-e-test.true all (ap (λ v. v.items) w.those-is ∙ w.in_ok-push.ensures.items) (c.loop-e.invariant.inside n all)
        | else-agrees w ↦ subst (All (λ e. e < n)) (sym (ap (λ v. v.items) w.those-is)) (c.loop-e.invariant.inside n all)
      ];
}

pub returns : goal.returns
returns c = record {
  those = λ settings events x here ready st ds. all_kept (agrees_on_all settings x.life.start events) c.args.numbers.now c.loop-e.e-index c.loop-e.those.items c.loop-e-test.false (c.loop-e.invariant.those settings events x here ready st ds);
  inside = λ n all. c.loop-e.invariant.inside n all;
}
