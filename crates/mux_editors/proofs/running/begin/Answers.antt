-- L2: where an editor begins to run, it is asked what waits.
use Rattle.std.proofs.Common.{ap, sym, subst, ◌∙◌}
use Rattle.std.specs.Prelude.{slice_get}
use Rattle.event_model.specs.Event.{with_cause}
use Rattle.event_model.proofs.Places.{item_at}
use Rattle.event_model.proofs.Turns.{alike_then}
use Rattle.mux_history.specs.declared.cause.Cause.TheVariants.{FromEditor}
use Rattle.mux_tables.specs.Documents.{AllStand}
use Rattle.mux_turns.proofs.Departing.{behind_first}
use Rattle.mux_editors.proofs.Beginning.{all_begun, home_late, rests_mid, runs_here, runs_late, runs_mid, silent_begun, small_mid, unasked_mid, works_here, works_late}
use Rattle.mux_editors.proofs.Runs.{begins_row, runs_row, unready_run}
use Rattle.mux_editors.proofs.Showing.{meant_here}
use Rattle.mux_editors.proofs.running.begin.Goals as goal

pub returns-then-not-begins-clause-begun : goal.returns-then-not-begins-clause-begun
returns-then-not-begins-clause-begun c = λ settings owed before body served runs is first can st ds.
    silent_begun settings c.args.tables.now c.args.tables.now owed before c.args.e body c.args.outs.now c.args.outs.now first st ds (runs_row settings before c.args.e body served runs (sym is ∙ c.if-not-begins.true))

pub returns-in-None-clause-begun : goal.returns-in-None-clause-begun
returns-in-None-clause-begun c = λ settings owed before body served runs is first can st ds.
    silent_begun settings c.args.tables.now c.args.tables.now owed before c.args.e body c.args.outs.now c.args.outs.now first st ds
    (alike_then (begins_row settings before c.args.e body served runs (sym is ∙ c.if-not-begins.false)) (unready_run settings before c.args.e body served runs (λ s start. c.in-None.ensures.unready settings (with_cause before (FromEditor c.args.e body)) s st start)))

pub returns-in_ok-resume-in-Some-clause-begun : goal.returns-in_ok-resume-in-Some-clause-begun
returns-in_ok-resume-in-Some-clause-begun c = λ settings owed before body served runs is first can st ds.
    let t = c.args.tables.now in
    let w = c.restore.new.tables in
    let v = c.offer_live.new.tables in
    let u = c.resume.new.self in
    let e = c.args.e in
    let xs = c.args.outs.now in
    let zs = c.restore.new.outs in
    let vs = c.offer_live.new.outs in
    let ys = c.resume.new.outs in
    let base = with_cause before (FromEditor e body) in
    let g = c.in-Some.g in
    let x = item_at t.lasts.items g c.in-Some.ensures.inside in
    let ready = c.in-Some.ensures.ready x.0 x.1 in
    let home = c.in-Some.ensures.home settings base x.0 x.1 st in
    let begins = sym is ∙ c.if-not-begins.false in
    let works = works_here settings t u owed before e body xs ys first served runs begins st ds g x.0 x.1 ready home in
    let restored = c.in_ok-restore-in-Some.ensures.does settings owed base x.0 x.1 ready (runs_here settings t u owed before e body xs ys first served runs begins st ds g x.0 x.1 ready home) (λ s. (works s).asker) in
    let known = restored.done (subst (λ es. AllStand settings (t, owed) es) (sym (behind_first base xs first)) (st, ds)) in
    let told = known.outs in
    let here = ap (λ ls. slice_get ls.items g) c.restore.ensures.lasts ∙ x.1 in
    let offers = c.in_ok-offer_live-in-Some.ensures.does settings owed base x.0 here (runs_mid settings t u owed before e body xs ys first served runs begins st ds g x.0 x.1 ready home can zs told)
    (rests_mid settings t u owed before e body xs ys first served runs begins st ds g x.0 x.1 ready home can zs told) (unasked_mid settings t u owed before e body xs ys first served runs begins st ds g x.0 x.1 ready home can zs told)
    (small_mid settings t u owed before e body xs ys first served runs begins st ds g x.0 x.1 ready home can zs told) in
    let behind_offers = offers.done known.stands in
    let offered = behind_offers.outs in
    let there = ap (λ ls. slice_get ls.items g) c.offer_live.ensures.lasts ∙ here in
    let ws = c.show_all.new.outs in
    let q = c.show_all.new.tables in
    let shows = c.in_ok-show_all-in-Some.ensures.does settings owed base x.0 there ready (meant_here before e body can.meant) in
    let shown = (shows.done behind_offers.stands).outs in
    let still = ap (λ ls. slice_get ls.items g) c.show_all.ensures.lasts ∙ there in
    all_begun settings t u owed before e body xs ys first served runs begins st ds g x.0 x.1 ready home can zs told vs offered ws shown w v q restored offers shows
    (c.in_ok-resume-in-Some.ensures.does settings base x.0 still ready (runs_late settings t u owed before e body xs ys first served runs begins st ds g x.0 x.1 ready home can zs told vs offered ws shown)
    (home_late settings t u owed before e body xs ys first served runs begins st ds g x.0 x.1 ready home can zs told vs offered ws shown) (works_late settings t u owed before e body xs ys first served runs begins st ds g x.0 x.1 ready home can zs told vs offered ws shown))
    (λ d. c.in_ok-resume-in-Some.ensures.documents settings owed base d)
