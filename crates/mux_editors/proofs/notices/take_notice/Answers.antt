-- What an editor says by a notification.
use Rattle.std.proofs.Common.{◌<◌, ap, map, subst, sym, ◌∙◌, codes}
use Rattle.document_model.specs.Sayings.{saying_by}
use Rattle.event_model.specs.Event.{requests, with_cause}
use Rattle.event_model.specs.Phases.{desk_of}
use Rattle.event_model.proofs.Places.{item_at}
use Rattle.mux_history.specs.declared.cause.Cause.TheVariants.{FromEditor}
use Rattle.rpc_message.specs.Message.{message_of}
use Rattle.mux_tables.specs.Documents.{noticing, owes}
use Rattle.mux_tables.specs.Resumes.{unasked}
use Rattle.mux_tables.specs.Stands.{is_answer}
use Rattle.mux_tables.proofs.Asking.{answers_none}
use Rattle.mux_tables.specs.mux_tokens.proofs.Stays.{takes_none}
use Rattle.mux_tables.specs.mux_waits.proofs.Unheld.{unheld_by}
use Rattle.group_rows.specs.Waiting.{is_for_start}
use Rattle.mux_editors.proofs.Asides.{old_unopened}
use Rattle.mux_editors.proofs.Beginning.{same_length}
use Rattle.mux_editors.proofs.Noticing.{noticed, unnoticed}
use Rattle.mux_editors.proofs.Runs.{runs_now, then_rest}
use Rattle.mux_editors.proofs.Serving.{not_new, notice_makes, notice_stops, unplaced}
use Rattle.mux_editors.proofs.Showing.{meant_here}
use Rattle.mux_editors.proofs.Takings.{can_begin}
use Rattle.mux_editors.proofs.notices.take_notice.Goals as goal

pub returns-in_ok-show_opened-in-Some-clause-does : goal.returns-in_ok-show_opened-in-Some-clause-does
returns-in_ok-show_opened-in-Some-clause-does c = λ settings before body method params g s read says stays served home starts first meant settled st ds.
    let e = c.args.e in
    let m = message_of body in
    let base = with_cause before (FromEditor e body) in
    let u = c.begin.new.tables in
    let what = saying_by method params in
    let runs = notice_makes method params stays m says in
    let heard = c.in_ok-owed.ensures.stands settings before body st (answers_none settings e m before (ap is_answer says)) (takes_none settings e m before (ap (requests (codes "shutdown")) says) (ap is_answer says)) (unheld_by settings e body m before (ap (is_for_start before e body) says)) (unplaced (desk_of e before).phase m served) (notice_stops before e m method params says)
    (old_unopened settings.servers before e m (not_new (desk_of e before).phase served)) (runs_now settings before e body served runs) in
    let owed = c.in_ok-owed.ensures.documents settings before body method params g s read says served home starts st ds in
    let begun = c.in_ok-begin.ensures.begun settings (owes g (noticing settings before g s e body what)) before body served runs (c.may_begin-begins.ensures settings before st) first (can_begin settings before meant settled c.args.tables.now c.args.e body st ds) heard owed.1 in
    let rest = c.in_ok-begin.ensures.rest ∙ ap (λ ls. map unasked ls.items) c.hear_notice.ensures.lasts in
    let p = c.in-Some.g in
    let x = item_at c.args.tables.now.lasts.items p c.in-Some.ensures.inside in
    then_rest begun.done (noticed settings c.args.tables.now u before e g s body what c.begin.new.outs c.pay.new.outs c.in_ok-owed.owed rest st home starts owed.0 c.in_ok-pay.ensures.outs p x.0 c.show_opened.new.tables c.show_opened.new.outs x.1 (c.in-Some.ensures.ready x.0 x.1) (c.in-Some.ensures.home settings before x.0 x.1 st)
    (λ z bodies at ready are. c.in_ok-pay.ensures.does settings base p z bodies at ready are)
    (λ z at ready. c.in_ok-show_opened-in-Some.ensures.does settings base body method params z read says at ready (meant_here before e body meant)))

pub returns-in-None-clause-does : goal.returns-in-None-clause-does
returns-in-None-clause-does c = λ settings before body method params g s read says stays served home starts first meant settled st ds.
    let e = c.args.e in
    let m = message_of body in
    let base = with_cause before (FromEditor e body) in
    let u = c.begin.new.tables in
    let what = saying_by method params in
    let runs = notice_makes method params stays m says in
    let heard = c.in_ok-owed.ensures.stands settings before body st (answers_none settings e m before (ap is_answer says)) (takes_none settings e m before (ap (requests (codes "shutdown")) says) (ap is_answer says)) (unheld_by settings e body m before (ap (is_for_start before e body) says)) (unplaced (desk_of e before).phase m served) (notice_stops before e m method params says)
    (old_unopened settings.servers before e m (not_new (desk_of e before).phase served)) (runs_now settings before e body served runs) in
    let owed = c.in_ok-owed.ensures.documents settings before body method params g s read says served home starts st ds in
    let begun = c.in_ok-begin.ensures.begun settings (owes g (noticing settings before g s e body what)) before body served runs (c.may_begin-begins.ensures settings before st) first (can_begin settings before meant settled c.args.tables.now c.args.e body st ds) heard owed.1 in
    let rest = c.in_ok-begin.ensures.rest ∙ ap (λ ls. map unasked ls.items) c.hear_notice.ensures.lasts in
    then_rest begun.done (unnoticed settings c.args.tables.now u before e g s body what c.begin.new.outs c.pay.new.outs c.in_ok-owed.owed rest st home starts owed.0 c.in_ok-pay.ensures.outs (λ n start. c.in-None.ensures.unready settings before n st start))

pub show_opened-requires-clause-group : goal.show_opened-requires-clause-group
show_opened-requires-clause-group c =
    let kept = c.in_ok-begin.ensures.rest ∙ ap (λ ls. map unasked ls.items) c.hear_notice.ensures.lasts in
    subst (λ n. c.in-Some.g < n) (sym (same_length unasked c.args.tables.now.lasts.items c.begin.new.tables.lasts.items kept)) c.in-Some.ensures.inside
