-- `lspmux/open` says which server is meant, or is refused.
use Rattle.std.proofs.Common.{ap, subst, sym, ◌≡◌, ◌∙◌, true}
use Rattle.event_model.specs.declared.phase.Phase.TheVariants.{New, Waiting}
use Rattle.event_model.specs.Does.{Does}
use Rattle.event_model.specs.Event.{behind, with_cause}
use Rattle.event_model.specs.Phases.{desk_of}
use Rattle.group_rows.specs.Rows.{named_row, open_row}
use Rattle.group_words.specs.Houses.{is_first_open, server_asked}
use Rattle.mux_history.specs.declared.cause.Cause.TheVariants.{FromEditor}
use Rattle.rpc_message.specs.Message.{message_of}
use Rattle.mux_tables.specs.Documents.{AllStand, nothing_owed}
use Rattle.mux_tables.specs.Stands.{Stands, is_answer}
use Rattle.mux_tables.proofs.Asking.{answers_none}
use Rattle.mux_tables.proofs.DocumentOwed.{all_does}
use Rattle.mux_tables.specs.mux_tokens.proofs.Stays.{takes_none}
use Rattle.mux_turns.proofs.Departing.{behind_first}
use Rattle.mux_turns.proofs.Keeping.{chosen, unchosen}
use Rattle.mux_editors.proofs.Lspmux.{first_new, lspmux_is, open_asks, open_unstopped, own_keeps, own_placed, own_shuts, own_stays, own_stops}
use Rattle.mux_editors.proofs.Staying.{unheld_own}
use Rattle.mux_turns.proofs.Matched.{whole_entry}
use Rattle.mux_editors.proofs.opened.take_open.Goals as goal

pub returns-in_ok-answer_named-clause-does : goal.returns-in_ok-answer_named-clause-does
returns-in_ok-answer_named-clause-does c = λ settings before body read names servers first st ds.
    let e = c.args.e in
    let m = message_of body in
    let base = with_cause before (FromEditor e body) in
    let u = c.hear_open.new.self in
    let xs = c.args.outs.now in
    let asks = open_asks m names in
    let k = lspmux_is m asks in
    let is = c.is_first.ensures settings before m names (c.phase_of-phase.ensures.stands settings before st) st in
    let opens : is_first_open settings.servers before e m ≡ true = sym is ∙ c.if-is_first.true in
    let asked : c.in_ok-server.server ≡ server_asked settings.servers body = c.in_ok-server.ensures body read ∙ ap (λ ss. server_asked ss body) (sym servers) in
    let heard = c.hear_open.ensures.stands settings before body st opens asked in
    let docs = c.hear_open.ensures.documents settings nothing_owed before body (own_keeps before e body asks) ds in
    let now : (desk_of e (behind base xs)).phase ≡ New = ap (λ es. (desk_of e es).phase) (behind_first base xs first) ∙ (own_stays before e body asks ∙ first_new settings.servers before e m opens) in
    let stays : ((desk_of e (behind base xs)).phase ≡ Waiting) → ⊥ = λ waits. absurd (let clash : New ≡ Waiting = sym now ∙ waits in cc) in
    let does = subst (λ o. Does (λ t events. Stands settings t events) (named_row e body o) base u xs c.answer_named.new.tables c.answer_named.new.outs) asked (c.in_ok-answer_named.ensures.does settings base body k.method k.id k.params read k.is stays) in
    whole_entry (λ k events. AllStand settings k events) (open_row settings before e body m) base (u, nothing_owed) (c.answer_named.new.tables, nothing_owed) xs c.answer_named.new.outs first (heard, docs)
    (chosen is c.if-is_first.true (all_does settings u c.answer_named.new.tables nothing_owed nothing_owed base xs c.answer_named.new.outs does (λ _ d. c.in_ok-answer_named.ensures.documents settings nothing_owed base d)))

pub returns-in_ok-refuse-clause-does : goal.returns-in_ok-refuse-clause-does
returns-in_ok-refuse-clause-does c = λ settings before body read names servers first st ds.
    let e = c.args.e in
    let m = message_of body in
    let base = with_cause before (FromEditor e body) in
    let u = c.hear_editor.new.self in
    let xs = c.args.outs.now in
    let asks = open_asks m names in
    let k = lspmux_is m asks in
    let at = c.phase_of-phase.ensures.stands settings before st in
    let is = c.is_first.ensures settings before m names at st in
    let heard = c.hear_editor.ensures.stands settings before body st (answers_none settings e m before (ap is_answer k.is)) (takes_none settings e m before (own_shuts m asks) (ap is_answer k.is)) (unheld_own settings e body m before k.id k.method k.params k.is k.own) (own_placed before e body asks) (own_stops before e body asks (open_unstopped m names)) (sym is ∙ c.if-is_first.false) (own_stays before e body asks ∙ sym at) in
    let docs = c.hear_editor.ensures.documents settings nothing_owed before body (own_keeps before e body asks) ds in
    whole_entry (λ k events. AllStand settings k events) (open_row settings before e body m) base (u, nothing_owed) (c.refuse.new.tables, nothing_owed) xs c.refuse.new.outs first (heard, docs)
    (unchosen is c.if-is_first.false (all_does settings u c.refuse.new.tables nothing_owed nothing_owed base xs c.refuse.new.outs (c.in_ok-refuse.ensures.does settings base body k.method k.id k.params read k.is) (λ _ d. c.in_ok-refuse.ensures.documents settings nothing_owed base d)))
