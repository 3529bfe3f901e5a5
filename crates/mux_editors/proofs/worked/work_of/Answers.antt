-- The notification as it goes to a start.
use Rattle.std.proofs.Common.{ap, codes, map, subst, sym, ◌∙◌}
use Rattle.std.specs.Prelude.{slice_get}
use Rattle.mux_history.specs.declared.out.Out.TheVariants.{ToServer}
use Rattle.event_model.specs.Row.{send}
use Rattle.event_model.proofs.Turns.{alike, alike_then}
use Rattle.mux_tables.specs.Stands.{number_in}
use Rattle.mux_editors.specs.Works.{Works}
use Rattle.mux_editors.proofs.worked.work_of.Goals as goal

pub returns-in_ok-request_work-in-Some-clause-goes : goal.returns-in_ok-request_work-in-Some-clause-goes
returns-in_ok-request_work-in-Some-clause-goes c = λ settings before body params read says st.
    let starts = map number_in c.args.tables.now.lasts.items in
    let made = c.in_ok-request_work-in-Some.ensures in
    let works = subst (Works settings before c.args.e body params starts) c.in-Some.is (c.in_ok-request.ensures.works settings before body (codes "window/workDoneProgress/cancel") params read says st) in
    (made.cancels body params read says, λ s at. alike_then (works s (ap (slice_get starts) (sym made.group) ∙ at)) (alike (ap (λ w. send (ToServer s w)) (sym (made.text body params read says)))))
