-- A response of an editor of the group in a place.
use Rattle.std.proofs.Common.{◌<◌, find, ap, subst, sym, ◌∙◌}
use Rattle.std.specs.Prelude.{slice_get}
use Rattle.event_model.specs.Event.{with_cause}
use Rattle.event_model.specs.Phases.{desk_of}
use Rattle.event_model.specs.Requests.{answered_id}
use Rattle.event_model.specs.Stages.{is_ready}
use Rattle.event_model.proofs.Turns.{does_alike, does_nothing}
use Rattle.group_rows.specs.Asks.{asks_of, is_seated}
use Rattle.group_rows.specs.Created.{created_of, is_answered}
use Rattle.mux_history.specs.declared.cause.Cause.TheVariants.{FromEditor}
use Rattle.rpc_message.specs.Message.{message_of}
use Rattle.mux_tables.specs.Documents.{nothing_owed}
use Rattle.mux_tables.specs.Stands.{number_in}
use Rattle.mux_tables.proofs.DocumentOwed.{all_does, number_there}
use Rattle.mux_tables.proofs.Homes.{group_seen}
use Rattle.mux_tables.proofs.Replying.{found_fits, found_unwaited}
use Rattle.mux_editors.proofs.Asides.{old_unopened}
use Rattle.mux_editors.proofs.Beginning.{numbers_kept, same_length}
use Rattle.mux_editors.proofs.Handing.{fits_behind, ready_reply, reply_keeps, reply_makes, reply_stops, reply_unshut, unready_reply}
use Rattle.mux_editors.proofs.Runs.{runs_now, then_rest, works_now}
use Rattle.mux_editors.proofs.Serving.{not_new, unplaced}
use Rattle.mux_editors.proofs.Taking.{given_as, takings_held}
use Rattle.mux_editors.proofs.Takings.{can_begin, takes_by_one}
use Rattle.mux_editors.proofs.Staying.{unheld_response}
use Rattle.mux_turns.proofs.Ready.{is_that_ready}
use Rattle.mux_turns.proofs.Stays.{kept_stage}
use Rattle.mux_editors.proofs.handed.reply_at.Goals as goal

pub returns-in_ok-reply-clause-does : goal.returns-in_ok-reply-clause-does
returns-in_ok-reply-clause-does c = λ settings before body x read response served here home one meant first settled st ds.
    let t = c.args.tables.now in
    let u = c.hear_reply.new.self in
    let v = c.begin.new.tables in
    let e = c.args.e in
    let g = c.args.g in
    let m = message_of body in
    let s = x.life.start in
    let base = with_cause before (FromEditor e body) in
    let xs = c.begin.new.outs in
    let ys = c.reply.new.outs in
    let runs = reply_makes m response in
    let named = c.answered_ask-answered.ensures body read in
    let taken = c.is_result-accepts.ensures body read in
    let begins = c.may_begin-begins.ensures settings before st in
    let at = number_there t.lasts.items g x here in
    let last = (group_seen settings t before g s x st here at).1 in
    let found = find (is_seated e (answered_id m)) (asks_of settings s before) in
    let stage = ap is_ready (sym (c.stage_at.ensures x here)) ∙ (sym c.is_ready-ready.ensures ∙ c.if-ready.true) in
    let ready = is_that_ready x.life.stage stage in
    let heard = c.in_ok-found.ensures.stands settings before body x here named taken (reply_unshut m response) one (takes_by_one settings before settled t st e x.life.group s m home last) (unheld_response settings e body m before response) (unplaced (desk_of e before).phase m served) (reply_stops before e m response)
    (old_unopened settings.servers before e m (not_new (desk_of e before).phase served)) (runs_now settings before e body served runs) st in
    let docs = c.in_ok-found.ensures.documents settings nothing_owed before body (reply_keeps before e m response) ds in
    let begun = c.in_ok-begin.ensures.begun settings nothing_owed before body served runs begins first (can_begin settings before meant settled t e body st ds) heard docs in
    let given = c.in_ok-found.ensures.ask settings before body x here ready named st in
    let handed = given_as (find (is_answered e (answered_id m)) (created_of settings s before).takings) c.in_ok-found.found.handed m c.is_result-accepts.result taken (c.in_ok-found.ensures.handed settings before body x here named st) in
    let fits = fits_behind settings e s base xs found (found_fits settings t before g e body x here ready st) (found_unwaited settings t before g e body x here ready st) (works_now settings before e body served runs s).asker begun.asks in
    let there = ap (λ ns. slice_get ns g) (numbers_kept u.lasts.items v.lasts.items c.in_ok-begin.ensures.rest ∙ c.in_ok-found.ensures.starts) ∙ at in
    then_rest begun.done (does_alike (λ _. ready_reply settings before e x.life.group s body home last (ap is_ready (kept_stage settings t before g x st here) ∙ stage))
    (all_does settings v v nothing_owed nothing_owed base xs ys (c.in_ok-reply.ensures.does settings before base body s read response served begins there given fits handed (takings_held settings s before meant))
    (λ _ d. c.in_ok-reply.ensures.documents settings nothing_owed before base body s read response given fits d)))

pub returns-else-ready-clause-does : goal.returns-else-ready-clause-does
returns-else-ready-clause-does c = λ settings before body x read response served here home one meant first settled st ds.
    let t = c.args.tables.now in
    let e = c.args.e in
    let g = c.args.g in
    let m = message_of body in
    let s = x.life.start in
    let runs = reply_makes m response in
    let named = c.answered_ask-answered.ensures body read in
    let taken = c.is_result-accepts.ensures body read in
    let last = (group_seen settings t before g s x st here (number_there t.lasts.items g x here)).1 in
    let stage = ap is_ready (sym (c.stage_at.ensures x here)) ∙ (sym c.is_ready-ready.ensures ∙ c.if-ready.false) in
    let heard = c.in_ok-found.ensures.stands settings before body x here named taken (reply_unshut m response) one (takes_by_one settings before settled t st e x.life.group s m home last) (unheld_response settings e body m before response) (unplaced (desk_of e before).phase m served) (reply_stops before e m response)
    (old_unopened settings.servers before e m (not_new (desk_of e before).phase served)) (runs_now settings before e body served runs) st in
    let docs = c.in_ok-found.ensures.documents settings nothing_owed before body (reply_keeps before e m response) ds in
    let begun = c.in_ok-begin.ensures.begun settings nothing_owed before body served runs (c.may_begin-begins.ensures settings before st) first (can_begin settings before meant settled t e body st ds) heard docs in
    then_rest begun.done (does_alike (λ _. unready_reply settings before e x.life.group s body home last (ap is_ready (kept_stage settings t before g x st here) ∙ stage)) does_nothing)

pub reply-requires : goal.reply-requires
reply-requires c =
    let numbers = numbers_kept c.hear_reply.new.self.lasts.items c.begin.new.tables.lasts.items c.in_ok-begin.ensures.rest ∙ c.in_ok-found.ensures.starts in
    subst (λ n. c.args.g < n) (sym (same_length number_in c.args.tables.now.lasts.items c.begin.new.tables.lasts.items numbers)) c.requires.group
