-- Those of a list that were shown one.
use Rattle.std.proofs.Common.{ℕ, ◌<◌, length, ap, subst, sym, ◌∙◌}
use Rattle.std.specs.List.{All}
use Rattle.event_model.specs.Phases.{desk_of}
use Rattle.group_rows.specs.Earlier.{was_shown}
use Rattle.mux_starts.proofs.Offered.{all_kept, one_kept, one_left}
use Rattle.mux_starts.proofs.Parting.{inside_more}
use Rattle.mux_starts.proofs.results.shown_among.Goals as goal
use Rattle.mux_starts.proofs.results.shown_among.Goals.{then-was_shown+in_ok-push, else-was_shown}

pub loop-e-preserved : goal.loop-e-preserved
loop-e-preserved c = record {
  inside = elim c.if-was_shown.branch [
    | then-was_shown+in_ok-push w ↦ inside_more (length c.args.tables.now.editors) c.loop-e.e-index c.args.members.now c.loop-e.all.items c.if-was_shown.all.items c.loop-e-test.true c.requires (ap (λ v. v.items) w.all-is ∙ w.in_ok-push.ensures.items) c.loop-e.invariant.inside
    | else-was_shown w ↦ subst (All (λ e. e < length c.args.tables.now.editors)) (sym (ap (λ v. v.items) w.all-is)) c.loop-e.invariant.inside
  ];
  those = λ settings events st.
      let keep = λ (e : ℕ). was_shown (desk_of e events).phase in
      let is = c.was_shown.ensures ∙ ap was_shown (c.phase.ensures settings events st) in
      elim c.if-was_shown.branch [
        | then-was_shown+in_ok-push w ↦ one_kept keep c.args.members.now c.loop-e.e-index c.was_shown.result c.loop-e.all.items c.if-was_shown.all.items c.loop-e-test.true (c.loop-e.invariant.those settings events st) is w.if-was_shown.true (ap (λ v. v.items) w.all-is ∙ w.in_ok-push.ensures.items)
        | else-was_shown w ↦ one_left keep c.args.members.now c.loop-e.e-index c.was_shown.result c.loop-e.all.items c.if-was_shown.all.items c.loop-e-test.true (c.loop-e.invariant.those settings events st) is w.if-was_shown.false (ap (λ v. v.items) w.all-is)
      ];
}

pub returns-clause-inside : goal.returns-clause-inside
returns-clause-inside c = c.loop-e.invariant.inside

pub returns-clause-those : goal.returns-clause-those
returns-clause-those c = λ settings events st.
    all_kept (λ e. was_shown (desk_of e events).phase) c.args.members.now c.loop-e.e-index c.loop-e.all.items c.loop-e-test.false (c.loop-e.invariant.those settings events st)
