-- The answer to the first one.
use Rattle.std.proofs.Common.{ap, codes, subst, sym, ◌≡◌, ◌∙◌}
use Rattle.std.specs.Prelude.{Some}
use Rattle.event_model.specs.Does.{Does}
use Rattle.event_model.specs.Event.{behind}
use Rattle.event_model.specs.Requests.{answered_id}
use Rattle.group_rows.specs.Rows.{named_row}
use Rattle.rpc_message.specs.Message.{id_bytes, message_of}
use Rattle.rpc_message.specs.Texts.{ok_text}
use Rattle.mux_tables.specs.Stands.{Stands}
use Rattle.mux_turns.proofs.Keeping.{answers_own, keeps_result, null_says, null_tree, told_as}
use Rattle.mux_editors.proofs.opened.answer_named.Goals as goal

pub returns-in_ok-answer-in-Some-clause-does : goal.returns-in_ok-answer-in-Some-clause-does
returns-in_ok-answer-in-Some-clause-does c = λ settings base body method id params read says stays.
    let e = c.args.e in
    let xs = c.args.outs.now in
    let t = c.args.tables.now in
    let is : c.in_ok-text-in-Some.text ≡ ok_text (id_bytes body) (codes "null") = c.in_ok-text-in-Some.ensures ∙ ap (λ w. ok_text w (codes "null")) (c.id_bytes-id.ensures body read) in
    let answers = ap message_of is ∙ null_says body id method params says in
    let keeps = keeps_result e c.in_ok-text-in-Some.text (behind base xs) (Some id) null_tree answers stays in
    subst (λ o. Does (λ t events. Stands settings t events) (named_row e body o) base t xs c.answer.new.self c.answer.new.outs) (sym c.in-Some.is)
    (told_as settings base t c.answer.new.self xs c.answer.new.outs e c.in_ok-text-in-Some.text (ok_text (id_bytes body) (codes "null")) is (c.in_ok-answer-in-Some.ensures.does settings base keeps
    (answers_own c.in_ok-text-in-Some.text body c.id_bytes-id.result.now method id params (c.id_bytes-id.ensures body read) says (ap answered_id answers))))

pub returns-in_ok-refuse-in-None-clause-does : goal.returns-in_ok-refuse-in-None-clause-does
returns-in_ok-refuse-in-None-clause-does c = λ settings base body method id params read says stays.
    let t = c.args.tables.now in
    subst (λ o. Does (λ t events. Stands settings t events) (named_row c.args.e body o) base t c.args.outs.now c.refuse.new.tables c.refuse.new.outs) (sym c.in-None.is)
    (c.in_ok-refuse-in-None.ensures.does settings base body method id params read says)
