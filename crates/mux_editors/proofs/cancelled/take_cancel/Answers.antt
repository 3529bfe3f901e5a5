-- A cancel of an editor takes back what waits, goes on, or gives nothing.
use Rattle.std.proofs.Common.{◌<◌, ap, codes, refl, subst, sym, ◌∙◌}
use Rattle.event_model.specs.Event.{requests, with_cause}
use Rattle.event_model.specs.Phases.{desk_of}
use Rattle.event_model.proofs.Turns.{does_alike}
use Rattle.mux_history.specs.declared.cause.Cause.TheVariants.{FromEditor}
use Rattle.rpc_message.specs.Message.{message_of}
use Rattle.group_rows.specs.Waiting.{is_for_start}
use Rattle.mux_tables.specs.Documents.{nothing_owed}
use Rattle.mux_tables.specs.mux_waits.proofs.Unheld.{unheld_by}
use Rattle.mux_tables.specs.Resumes.{unasked}
use Rattle.mux_tables.specs.Stands.{is_answer}
use Rattle.mux_tables.proofs.Asking.{answers_none}
use Rattle.mux_tables.proofs.DocumentOwed.{all_does}
use Rattle.mux_tables.specs.mux_tokens.proofs.Stays.{takes_none}
use Rattle.mux_turns.specs.Initials.{IsNamed}
use Rattle.mux_editors.specs.Cancels.{Names}
use Rattle.mux_editors.proofs.Beginning.{numbers_kept, same_length}
use Rattle.mux_editors.proofs.Cancelling.{cancel_keeps, served_there}
use Rattle.mux_editors.proofs.Runs.{then_rest}
use Rattle.mux_editors.proofs.Serving.{notice_makes}
use Rattle.mux_editors.proofs.Withdrawing.{goes_there, inside_still, there_own, unwithdrawn, withdrawn, withdraws}
use Rattle.mux_turns.specs.group_facts.proofs.Quits.{asked_while}
use Rattle.mux_editors.proofs.cancelled.take_cancel.Goals as goal

pub returns-in_ok-cancel_waiting-in-Some-clause-does : goal.returns-in_ok-cancel_waiting-in-Some-clause-does
returns-in_ok-cancel_waiting-in-Some-clause-does c = λ settings before body params read says served first known settled st ds.
    let e = c.args.e in
    let m = message_of body in
    let cancel = codes "$/cancelRequest" in
    let base = with_cause before (FromEditor e body) in
    let u = c.hear_running.new.tables in
    let xs = c.hear_running.new.outs in
    let begun = c.in_ok-hear_running.ensures.begun settings before body served (notice_makes cancel params refl m says) (answers_none settings e m before (ap is_answer says)) (takes_none settings e m before (ap (requests (codes "shutdown")) says) (ap is_answer says)) (unheld_by settings e body m before (ap (is_for_start before e body) says)) (cancel_keeps before e body params says) first known.meant settled st ds in
    let there = withdrawn _ c.in-Some.id (sym c.in-Some.is ∙ c.in_ok-waits.ensures settings before body cancel params read says st) in
    let own = there_own settings before e params c.args.tables.now st there.0 there.1 in
    let is = c.bytes.ensures ∙ there.2 in
    then_rest begun.done (does_alike (λ _. withdraws settings before e params body there.0 there.1 own.0)
    (rw (sym is) (all_does settings u c.cancel_waiting.new.tables nothing_owed nothing_owed base xs c.cancel_waiting.new.outs (c.in_ok-cancel_waiting-in-Some.ensures.does settings base (subst IsNamed (sym is) own.1)) (λ _ d. c.in_ok-cancel_waiting-in-Some.ensures.documents settings nothing_owed base d))))

pub returns-in_ok-pass_named-in-None-clause-does : goal.returns-in_ok-pass_named-in-None-clause-does
returns-in_ok-pass_named-in-None-clause-does c = λ settings before body params read says served first known settled st ds.
    let e = c.args.e in
    let m = message_of body in
    let cancel = codes "$/cancelRequest" in
    let names = c.named-request.ensures.names settings before body cancel params read says (asked_while settings before known.asked known.quit e (served_there (desk_of e before).phase served)) st in
    let begun = c.in_ok-hear_running.ensures.begun settings before body served (notice_makes cancel params refl m says) (answers_none settings e m before (ap is_answer says)) (takes_none settings e m before (ap (requests (codes "shutdown")) says) (ap is_answer says)) (unheld_by settings e body m before (ap (is_for_start before e body) says)) (cancel_keeps before e body params says) first known.meant settled st ds in
    let there = unwithdrawn _ (sym c.in-None.is ∙ c.in_ok-waits.ensures settings before body cancel params read says st) in
    then_rest begun.done (does_alike (λ _. goes_there settings before e params body there)
    (c.in_ok-pass_named-in-None.ensures.does settings before (with_cause before (FromEditor e body)) e body params read says
    (subst (λ ns. Names settings before e body params ns c.named-request.result) (sym (numbers_kept c.args.tables.now.lasts.items c.hear_running.new.tables.lasts.items c.in_ok-hear_running.ensures.rest)) names)))

pub pass_named-requires : goal.pass_named-requires
pass_named-requires c = inside_still c.named-request.result (λ g within. subst (λ n. g < n) (sym (same_length unasked c.args.tables.now.lasts.items c.hear_running.new.tables.lasts.items c.in_ok-hear_running.ensures.rest)) within) c.named-request.ensures.inside
