use Rattle.std.proofs.Common.{◌++◌, ap, subst, sym, ◌∙◌, arith, ℕ, List, ◌≤◌}
use Rattle.std.specs.List.{AllByRecursion}
use Rattle.mux_history.specs.Cores.{body_length}
use Rattle.mux_history.specs.declared.cause.Cause.{Cause}
use Rattle.drive_text.specs.Made.{opening, step_causes}
use Rattle.drive_text.proofs.Smallness.{made_small}
use Rattle.drive_text.proofs.Turns.{turns_none, turns_more, state_none, state_more}
use Rattle.drive_text.proofs.made.make_causes.Goals as goal

pub loop-done-init : goal.loop-done-init
loop-done-init c = record {
  causes = turns_none c.args.seed c.put_opening.new.causes.items (c.in_ok-put_opening.ensures ∙ ap (λ (l : List Cause). l ++ opening) c.new-causes.ensures.items);
  maker = state_none c.args.seed;
  start = omega arith;
  asked = omega arith;
}

pub loop-done-preserved : goal.loop-done-preserved
loop-done-preserved c = record {
  causes = turns_more c.args.seed c.loop-done.done c.loop-done.maker c.loop-done.causes.items c.step.new.causes.items c.loop-done.invariant.causes c.loop-done.invariant.maker
      (c.in_ok-maker.ensures.causes ∙ ap (λ (i : ℕ). c.loop-done.causes.items ++ step_causes i c.loop-done.maker) c.from.ensures);
  maker = state_more c.args.seed c.loop-done.done c.loop-done.maker c.in_ok-maker.maker c.loop-done.invariant.maker c.in_ok-maker.ensures.maker;
  start = c.in_ok-maker.ensures.start;
  asked = omega (arith, c.in_ok-maker.ensures.asked, c.loop-done.invariant.asked);
}

pub returns-clause-small : goal.returns-clause-small
returns-clause-small c = subst (AllByRecursion (λ (cause : Cause). body_length cause ≤ 268435456)) (sym c.loop-done.invariant.causes) (made_small c.loop-done.done c.args.seed (omega arith))
