-- The program of the last start in a place ended, or couldn't be run.
use Rattle.std.proofs.Common.{◌≡◌, true, [], ap, sym, subst, ◌∙◌}
use Rattle.event_model.specs.Event.{with_cause}
use Rattle.event_model.specs.Does.{Done}
use Rattle.group_rows.specs.Rows.{row_of}
use Rattle.mux_exits.proofs.Ending.{by_either, left_by}
use Rattle.mux_model.specs.Fits.{fits_behind}
use Rattle.mux_starts.specs.group_facts.specs.Facts.{is_exit}
use Rattle.mux_starts.specs.group_facts.specs.Lively.{lives_at}
use Rattle.mux_tables.specs.Documents.{AllStand, nothing_owed}
use Rattle.mux_tables.proofs.Homes.{group_seen}
use Rattle.mux_tables.proofs.Starts.{start_at_place}
use Rattle.mux_turns.proofs.Ready.{start_from}
use Rattle.mux_exits.proofs.exits.exit_at.Goals as goal

pub returns-then-not-lives-clause-exit : goal.returns-then-not-lives-clause-exit
returns-then-not-lives-clause-exit c = λ settings before cause at restarts first known settled is fit st ds.
    let t = c.args.tables.now in
    let s = c.args.s in
    let x = start_from t.lasts.items c.args.g s at in
    let h = x.0.life.group in
    let over = ap (lives_at h) st.house.groups.groups ∙ (ap (λ n. lives_at n t.groups.groups) (sym (c.group_number.ensures x.0 x.1)) ∙ (sym c.lives.ensures ∙ c.if-not-lives.true)) in
    let left = left_by settings before s h (group_seen settings t before c.args.g s x.0 st x.1 at).0 over in
    subst (λ ys. Done (λ k events. AllStand settings k events) (row_of settings before cause) (with_cause before cause) [] (c.take_left.new.tables, nothing_owed) ys) (sym first)
    (by_either (λ k. fits_behind before k ≡ true → Done (λ w events. AllStand settings w events) (row_of settings before k) (with_cause before k) [] (c.take_left.new.tables, nothing_owed) []) s
    (λ fits. c.take_left.ensures.exit settings before fits left st ds) (λ fits. c.take_left.ensures.failure settings before fits left st ds) cause is fit)

pub returns-clause-exit : goal.returns-clause-exit
returns-clause-exit c = λ settings before cause at restarts first known settled is fit st ds.
    let t = c.args.tables.now in
    let x = start_from t.lasts.items c.args.g c.args.s at in
    let own = start_at_place t.lasts.items c.args.g c.args.s x.0 x.1 at in
    let live = ap (λ n. lives_at n t.groups.groups) (sym (c.group_number.ensures x.0 x.1)) ∙ (sym c.lives.ensures ∙ c.if-not-lives.false) in
    c.in_ok-exit_group.ensures.exit settings before cause x.0 x.1 live restarts first known settled (ap (is_exit cause) own ∙ is) fit st ds
