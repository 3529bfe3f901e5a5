-- What those of a list that it fits are shown.
use Rattle.std.proofs.Common.{ap, sym, subst, ◌∙◌}
use Rattle.std.specs.Prelude.{get_or}
use Rattle.std.specs.List.{AllByRecursion}
use Rattle.group_rows.specs.diagnostics_route.specs.Shown.{shown_text}
use Rattle.group_rows.specs.Lists.{version_at}
use Rattle.mux_starts.specs.Lists.{IsInside}
use Rattle.mux_starts.proofs.Listing.{one_inside, one_shown, one_unshown, whole_shown}
use Rattle.mux_starts.proofs.lists.shown_to.Goals as goal
use Rattle.mux_starts.proofs.lists.shown_to.Goals.{then-fits+in_ok-text+in_ok-push, else-fits}

pub loop-e-preserved : goal.loop-e-preserved
loop-e-preserved c = record {
  inside = λ n all.
      elim c.if-fits.branch [
        | then-fits+in_ok-text+in_ok-push w ↦ one_inside n c.args.numbers.now c.loop-e.e-index c.loop-e.tellings.items c.if-fits.tellings.items w.in_ok-text.text c.loop-e-test.true all (c.loop-e.invariant.inside n all) (ap (λ v. v.items) w.tellings-is ∙ w.in_ok-push.ensures.items)
        | else-fits w ↦ subst (AllByRecursion (IsInside n)) (sym (ap (λ v. v.items) w.tellings-is)) (c.loop-e.invariant.inside n all)
      ];
  shown = λ settings before x read here ready st ds.
      let s = x.life.start in
      let l = c.args.list.now in
      let es = c.args.numbers.now in
      let i = c.loop-e.e-index in
      let so = c.loop-e.invariant.shown settings before x read here ready st ds in
      let fit = c.fits.ensures settings before x here ready st ds in
      elim c.if-fits.branch [
        | then-fits+in_ok-text+in_ok-push w ↦ one_shown settings before s l es i c.fits.result c.loop-e.tellings.items c.if-fits.tellings.items w.in_ok-text.text c.loop-e-test.true so fit w.if-fits.true
            (w.in_ok-text.ensures l.body read ∙ ap (λ o. shown_text o l.body) (w.own_version-own.ensures settings before x here ready st ds ∙ ap (version_at settings s (get_or es i 0) before) w.bytes.ensures))
            (ap (λ v. v.items) w.tellings-is ∙ w.in_ok-push.ensures.items)
        | else-fits w ↦ one_unshown settings before s l es i c.fits.result c.loop-e.tellings.items c.if-fits.tellings.items c.loop-e-test.true so fit w.if-fits.false (ap (λ v. v.items) w.tellings-is)
      ];
}

pub returns : goal.returns
returns c = record {
  inside = λ n all. c.loop-e.invariant.inside n all;
  shown = λ settings before x read here ready st ds.
      whole_shown settings before x.life.start c.args.list.now c.args.numbers.now c.loop-e.e-index c.loop-e.tellings.items c.loop-e-test.false (c.loop-e.invariant.shown settings before x read here ready st ds);
}
