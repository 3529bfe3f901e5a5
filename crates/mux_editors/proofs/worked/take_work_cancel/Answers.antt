-- A cancel of work goes on, or gives nothing.
use Rattle.std.proofs.Common.{◌<◌, ap, codes, map, refl, subst, sym, ◌∙◌}
use Rattle.std.specs.Prelude.{Some, IfSome, length}
use Rattle.event_model.specs.Event.{requests, with_cause}
use Rattle.event_model.proofs.Places.{item_at}
use Rattle.event_model.proofs.Turns.{does_alike, does_nothing}
use Rattle.mux_history.specs.declared.cause.Cause.TheVariants.{FromEditor}
use Rattle.rpc_message.specs.Message.{message_of}
use Rattle.mux_tables.specs.declared.tables.Start.{Start}
use Rattle.mux_tables.specs.Resumes.{unasked}
use Rattle.mux_tables.specs.Stands.{is_answer, number_in}
use Rattle.mux_tables.proofs.Asking.{answers_none}
use Rattle.mux_tables.proofs.DocumentOwed.{number_there}
use Rattle.mux_tables.specs.mux_tokens.proofs.Stays.{takes_none}
use Rattle.mux_tables.specs.mux_waits.proofs.Unheld.{unheld_by}
use Rattle.group_rows.specs.Waiting.{is_for_start}
use Rattle.mux_editors.specs.Works.{Goes}
use Rattle.mux_editors.proofs.Beginning.{same_kept, same_length}
use Rattle.mux_editors.proofs.Runs.{then_rest}
use Rattle.mux_editors.proofs.Serving.{notice_makes}
use Rattle.mux_editors.proofs.Working.{work_keeps}
use Rattle.mux_editors.proofs.worked.take_work_cancel.Goals as goal

pub returns-in-None-clause-does : goal.returns-in-None-clause-does
returns-in-None-clause-does c = λ settings before body params read says served first meant settled st ds.
    let e = c.args.e in
    let m = message_of body in
    let cancel = codes "window/workDoneProgress/cancel" in
    let silent = subst (Goes settings before e body params (map number_in c.args.tables.now.lasts.items)) c.in-None.is (c.in_ok-work.ensures.goes settings before body params read says st) in
    let begun = c.in_ok-hear_running.ensures.begun settings before body served (notice_makes cancel params refl m says) (answers_none settings e m before (ap is_answer says)) (takes_none settings e m before (ap (requests (codes "shutdown")) says) (ap is_answer says)) (unheld_by settings e body m before (ap (is_for_start before e body) says)) (work_keeps before e body params says) first meant settled st ds in
    then_rest begun.done (does_alike (λ _. silent) does_nothing)

pub returns-in_ok-pass_work-in-Some-clause-does : goal.returns-in_ok-pass_work-in-Some-clause-does
returns-in_ok-pass_work-in-Some-clause-does c = λ settings before body params read says served first meant settled st ds.
    let e = c.args.e in
    let m = message_of body in
    let cancel = codes "window/workDoneProgress/cancel" in
    let t = c.args.tables.now in
    let u = c.hear_running.new.tables in
    let w = c.in-Some.work in
    let inside = subst (λ o. IfSome o (λ x. x.group < length t.lasts.items)) c.in-Some.is c.in_ok-work.ensures.inside in
    let goes = subst (Goes settings before e body params (map number_in t.lasts.items)) c.in-Some.is (c.in_ok-work.ensures.goes settings before body params read says st) in
    let x = item_at t.lasts.items w.group inside in
    let s = x.0.life.start in
    let y = same_kept unasked u.lasts.items t.lasts.items (sym c.in_ok-hear_running.ensures.rest) w.group x.0 x.1 in
    let there = number_there u.lasts.items w.group y.0 y.1.0 ∙ ap (λ (z : Start). Some (number_in z)) (sym y.1.1) in
    let begun = c.in_ok-hear_running.ensures.begun settings before body served (notice_makes cancel params refl m says) (answers_none settings e m before (ap is_answer says)) (takes_none settings e m before (ap (requests (codes "shutdown")) says) (ap is_answer says)) (unheld_by settings e body m before (ap (is_for_start before e body) says)) (work_keeps before e body params says) first meant settled st ds in
    then_rest begun.done (does_alike (λ _. goes.1 s (number_there t.lasts.items w.group x.0 x.1)) (c.in_ok-pass_work-in-Some.ensures.does settings (with_cause before (FromEditor e body)) goes.0.0 s goes.0.1 there))

pub pass_work-requires : goal.pass_work-requires
pass_work-requires c =
    let inside = subst (λ o. IfSome o (λ x. x.group < length c.args.tables.now.lasts.items)) c.in-Some.is c.in_ok-work.ensures.inside in
    subst (λ n. c.in-Some.work.group < n) (sym (same_length unasked c.args.tables.now.lasts.items c.hear_running.new.tables.lasts.items c.in_ok-hear_running.ensures.rest)) inside
