use Rattle.std.proofs.Common.{◌≡◌, ◌≤◌, [], ◌∷◌, ◌++◌, append-nil, append_assoc, length, ap, sym, subst, ◌∙◌, arith}
use Rattle.std.specs.List.{AllByRecursion}
use Rattle.std.specs.Prelude.{Err}
use Rattle.std.specs.Vec.Iter.{into_iter_items}
use Rattle.mux_history.specs.Cores.{body_length}
use Rattle.mux_history.specs.declared.cause.Cause.{Cause}
use Rattle.mux_steps.specs.declared.fault.StepFault.{StepFault}
use Rattle.drive_program.specs.declared.stop.Stop.{Stop}
use Rattle.make_program.specs.Counts.{IsSound}
use Rattle.make_program.specs.Runs.{history_of}
use Rattle.make_program.proofs.Counting.{sound_counts}
use Rattle.make_program.proofs.Driving.{absent, counts_behind, driven_all, faulted, few_causes, journal_rose, none_left, room, stands_more}
use Rattle.make_program.proofs.causes.drive_causes.Goals as goal

pub step-requires-clause-small : goal.step-requires-clause-small
step-requires-clause-small g c = (subst (AllByRecursion (λ (cause : Cause). body_length cause ≤ 268435456)) c.in-Some.ensures.steps.0 c.loop-cause.invariant.small).0

pub with_entry-counts-requires-clause-sound : goal.with_entry-counts-requires-clause-sound
with_entry-counts-requires-clause-sound g c = subst IsSound (sym c.loop-cause.invariant.counts) (sound_counts (history_of c.args.hub.now.settings c.loop-cause.yielded))

pub with_entry-counts-requires-clause-few : goal.with_entry-counts-requires-clause-few
with_entry-counts-requires-clause-few g c =
    let at = c.loop-cause in
    let history = history_of c.args.hub.now.settings at.yielded in
    room g.J.Journal.told c.args.hub.now.settings at.hub.settings at.invariant.settings at.yielded c.in-Some.cause at.counts at.invariant.counts
    c.in-Ok.outs c.step.new.self (c.in-Ok.ensures.outs history at.invariant.stands) (c.in-Ok.ensures.stands history at.invariant.stands)

pub loop-cause-preserved : goal.loop-cause-preserved
loop-cause-preserved g c =
    let at = c.loop-cause in
    let x = c.in-Some.cause in
    let rest = into_iter_items c.next.new.self in
    let steps : into_iter_items at.cause-iterator ≡ x ∷ rest = c.in-Some.ensures.steps.0 in
    let settings = c.args.hub.now.settings in
    let history = history_of settings at.yielded in
    let stands = stands_more g.J.Journal.told settings at.hub.settings at.invariant.settings at.yielded x at.counts at.invariant.counts c.step.new.self (c.in-Ok.ensures.stands history at.invariant.stands) in
    let counts = counts_behind g.J.Journal.told settings at.hub.settings at.invariant.settings at.yielded x at.counts at.invariant.counts c.in-Ok.outs c.with_entry-counts.result (c.in-Ok.ensures.outs history at.invariant.stands) c.with_entry-counts.ensures in
    record {
      all = append_assoc at.yielded (x ∷ []) rest ∙ (ap (λ ws. at.yielded ++ ws) (sym steps) ∙ at.invariant.all);
      left =
          let was = at.invariant.left in
          let gone = c.in-Some.ensures.steps.1 in
          let short = ap length steps in
          omega arith;
      small = (subst (AllByRecursion (λ (cause : Cause). body_length cause ≤ 268435456)) steps at.invariant.small).1;
      stands = stands;
      settings = c.step.ensures.settings ∙ at.invariant.settings;
      ready = c.in-Ok.ensures.ready;
      counts = counts;
      few = few_causes g.J.Journal.told (history_of settings (at.yielded ++ x ∷ [])) c.step.new.self c.with_entry-counts.result counts stands;
      later = omega (arith, at.invariant.later, c.step.ensures.later);
    }

pub returns-then-not-fits-clause-driven : goal.returns-then-not-fits-clause-driven
returns-then-not-fits-clause-driven g c =
    let at = c.loop-cause in
    let x = c.in-Some.cause in
    let rest = into_iter_items c.next.new.self in
    let settings = c.args.hub.now.settings in
    let history = history_of settings at.yielded in
    absent g.J.Journal.told settings at.hub.settings at.invariant.settings at.yielded x at.counts at.invariant.counts c.args.causes.items rest
    (sym at.invariant.all ∙ ap (λ ws. at.yielded ++ ws) c.in-Some.ensures.steps.0) at.hub at.invariant.stands
    (sym (c.fits.ensures history at.invariant.stands at.invariant.ready) ∙ c.if-not-fits.true)

pub returns-in-Err-clause-driven : goal.returns-in-Err-clause-driven
returns-in-Err-clause-driven g c =
    let at = c.loop-cause in
    let x = c.in-Some.cause in
    let rest = into_iter_items c.next.new.self in
    let settings = c.args.hub.now.settings in
    let history = history_of settings at.yielded in
    rw c.stop_of.ensures
    (faulted g.J.Journal.told settings at.hub.settings at.invariant.settings at.yielded x at.counts at.invariant.counts c.args.causes.items rest
    (sym at.invariant.all ∙ ap (λ ws. at.yielded ++ ws) c.in-Some.ensures.steps.0) c.step.new.self (c.in-Err.ensures.err history at.invariant.stands)
    c.in-Err.fault (sym (c.fits.ensures history at.invariant.stands at.invariant.ready) ∙ c.if-not-fits.false) (c.in-Err.ensures.numbers history at.invariant.stands at.invariant.ready))

pub returns-in-Err-clause-journal : goal.returns-in-Err-clause-journal
returns-in-Err-clause-journal g c = λ e.
    journal_rose c.in-Err.fault (g.J.Journal.faults c.args.hub.now.journal) (g.J.Journal.faults c.loop-cause.hub.journal) (g.J.Journal.faults c.step.new.self.journal) (Err c.stop_of.result) c.loop-cause.invariant.later
    (λ f. c.step.ensures.journal_only (c.in-Err.is ∙ ap (λ (s : StepFault). Err s) f)) (ap (λ (s : Stop). Err s) c.stop_of.ensures) e

pub returns-clause-driven : goal.returns-clause-driven
returns-clause-driven g c =
    let at = c.loop-cause in
    let none = c.in-None.ensures.steps in
    let empty : into_iter_items at.cause-iterator ≡ [] = none_left (into_iter_items at.cause-iterator) (sym at.invariant.left ∙ none.0) in
    let whole : at.yielded ≡ c.args.causes.items = sym (append-nil at.yielded) ∙ (ap (λ ws. at.yielded ++ ws) (sym empty) ∙ at.invariant.all) in
    driven_all g.J.Journal.told c.args.hub.now.settings c.args.causes.items at.yielded at.hub at.counts whole at.invariant.stands at.invariant.counts
