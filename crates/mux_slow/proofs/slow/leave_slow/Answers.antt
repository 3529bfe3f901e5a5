-- All that are slow leave.
use Rattle.std.proofs.Common.{◌≡◌, ◌++◌, true, nat_eq, ap, subst, sym, ◌∙◌}
use Rattle.std.specs.List.{list_any}
use Rattle.std.proofs.lemmas.Bool.{and_parts}
use Rattle.event_model.specs.Event.{behind}
use Rattle.event_model.specs.Phases.{desk_of, is_there}
use Rattle.event_model.specs.Row.{each, outs}
use Rattle.event_model.proofs.Turns.{behind_more}
use Rattle.group_facts.specs.SlowRows.{close_slow}
use Rattle.mux_causes.specs.Backlogs.{BacklogsStand}
use Rattle.mux_slow.proofs.Among.{Rises, in_rises}
use Rattle.mux_slow.proofs.Closing.{each_count}
use Rattle.mux_slow.proofs.Joined.{there_joined}
use Rattle.mux_slow.proofs.Sparse.{told_slow}
use Rattle.mux_slow.proofs.slow.leave_slow.Goals as goal

pub returns-clause-slow : goal.returns-clause-slow
returns-clause-slow c = λ settings base limit told st ds counts.
    let xs = c.args.outs.now in
    let place = behind base xs in
    let es = c.deref.result.now in
    let all = sym (c.deref.ensures.value ∙ c.in_ok-told.ensures) in
    let done = (c.in_ok-close_each.ensures.does settings base limit counts (st, ds)).done (st, ds) in
    let same = told_slow settings es place (subst (Rises 0) all (in_rises xs)) (λ e slow. subst (λ ks. list_any (nat_eq e) ks ≡ true) all (told e slow)) (λ e slow. there_joined settings c.args.tables.now place st e (and_parts (is_there (desk_of e place).phase) _ slow).0) in
    let counted = subst (BacklogsStand c.args.backlogs.now) (sym (ap (behind base) done.outs ∙ behind_more base xs (outs (each (close_slow settings) es) place))) (each_count settings c.args.backlogs.now es place counts) in
    (done.outs ∙ ap (λ ys. xs ++ ys) same, (done.stands, counted))
