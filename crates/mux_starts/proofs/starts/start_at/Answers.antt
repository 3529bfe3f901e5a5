-- A start's program runs.
use Rattle.std.proofs.Common.{◌≡◌, refl, ap, sym, ◌∙◌}
use Rattle.std.specs.Prelude.{Some, slice_get}
use Rattle.event_model.specs.Event.{heard, with_cause}
use Rattle.event_model.specs.Spawns.{group_behind}
use Rattle.event_model.proofs.Frames.{one_more}
use Rattle.event_model.proofs.Places.{same_item}
use Rattle.event_model.proofs.Turns.{alike, does_alike, does_nothing}
use Rattle.group_rows.specs.Rows.{row_of}
use Rattle.mux_history.specs.declared.cause.Cause.TheVariants.{Started}
use Rattle.mux_tables.specs.Documents.{AllStand, nothing_owed}
use Rattle.mux_tables.proofs.DocumentOwed.{all_does}
use Rattle.mux_tables.proofs.Homes.{group_seen}
use Rattle.mux_starts.proofs.Beginning.{awaited_begins, opens, unawaited_idle}
use Rattle.mux_turns.proofs.Ready.{start_from}
use Rattle.mux_turns.proofs.Matched.{whole_entry}
use Rattle.mux_starts.proofs.starts.start_at.Goals as goal

pub returns-then-not-awaited-clause-does : goal.returns-then-not-awaited-clause-does
returns-then-not-awaited-clause-does c = λ settings before s at first known settled st ds.
    let u = c.hear_started.new.self in
    let idle = unawaited_idle settings s before c.stage.result c.is_spawning-awaited.result (c.stage.ensures settings before s at st) c.is_spawning-awaited.ensures c.if-not-awaited.true in
    whole_entry (λ k events. AllStand settings k events) (row_of settings before (Started s)) (with_cause before (Started s)) (u, nothing_owed) (u, nothing_owed) c.args.outs.now c.args.outs.now first
    (c.hear_started.ensures.stands settings before s at st, c.hear_started.ensures.documents settings nothing_owed before s ds)
    (does_alike (λ _. alike idle) does_nothing)

pub returns-clause-does : goal.returns-clause-does
returns-clause-does c = λ settings before s at first known settled st ds.
    let t = c.args.tables.now in
    let g = c.args.g in
    let u = c.hear_started.new.self in
    let there = ap (λ ns. slice_get ns g) c.hear_started.ensures.starts ∙ at in
    let x = start_from t.lasts.items g s at in
    let z = start_from u.lasts.items g s there in
    let stands = c.hear_started.ensures.stands settings before s at st in
    let home = (group_seen settings t before g s x.0 st x.1 at).0 in
    let own : z.0.life.group ≡ x.0.life.group = same_item (sym (group_seen settings u (with_cause before (Started s)) g s z.0 stands z.1 there).0 ∙ (one_more (group_behind s) _ _ before (heard (Started s)) refl ∙ home)) in
    let h = z.0.life.group in
    let open_it = opens settings before h known settled in
    let begins = awaited_begins settings s h before c.stage.result c.is_spawning-awaited.result (c.stage.ensures settings before s at st) c.is_spawning-awaited.ensures c.if-not-awaited.false (home ∙ ap Some (sym own)) in
    whole_entry (λ k events. AllStand settings k events) (row_of settings before (Started s)) (with_cause before (Started s)) (u, nothing_owed) (u, nothing_owed) c.args.outs.now c.begin.new.outs first
    (stands, c.hear_started.ensures.documents settings nothing_owed before s ds)
    (does_alike (λ _. alike begins) (all_does settings u u nothing_owed nothing_owed (with_cause before (Started s)) c.args.outs.now c.begin.new.outs
    (c.in_ok-begin.ensures.does settings before s there first z.0 z.1 open_it) (λ k d. c.in_ok-begin.ensures.documents settings nothing_owed before s first z.0 z.1 open_it k d)))
