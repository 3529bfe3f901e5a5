-- A response is handed back, or answers nothing.
use Rattle.std.proofs.Common.{ap, sym, ◌∙◌}
use Rattle.event_model.specs.Event.{behind}
use Rattle.group_rows.specs.Asks.{asking_of}
use Rattle.rpc_message.specs.Texts.{with_id_text}
use Rattle.mux_editors.proofs.Handing.{handed, handed_does, handed_none}
use Rattle.mux_editors.proofs.handed.hand_back.Goals as goal

pub returns-in-None-clause-does : goal.returns-in-None-clause-does
returns-in-None-clause-does c = λ settings base body s o read response own fits at. handed_none settings c.args.tables.now base c.args.outs.now body s o (sym c.in-None.is ∙ own)

pub returns-in_ok-respond-in-Some-clause-does : goal.returns-in_ok-respond-in-Some-clause-does
returns-in_ok-respond-in-Some-clause-does c = λ settings base body s o read response own fits at.
    let w = c.in-Some.id in
    let text = c.in_ok-text-in-Some.text in
    let given = sym c.in-Some.is ∙ own in
    let is = c.in_ok-text-in-Some.ensures body read ∙ ap (with_id_text body) c.bytes.ensures in
    handed_does settings c.args.tables.now base c.args.outs.now c.respond.new.outs body text w s o given is
    (handed body text w (asking_of settings s (behind base c.args.outs.now)) response is o given fits (λ id k unused. c.in_ok-respond-in-Some.ensures.does settings base s at k.runs k.counts unused.0 unused.1))

pub returns-in_ok-respond-in-Some-clause-documents : goal.returns-in_ok-respond-in-Some-clause-documents
returns-in_ok-respond-in-Some-clause-documents c = λ settings owed base body s o read response own fits ds.
    let w = c.in-Some.id in
    let text = c.in_ok-text-in-Some.text in
    let is = c.in_ok-text-in-Some.ensures body read ∙ ap (with_id_text body) c.bytes.ensures in
    handed body text w (asking_of settings s (behind base c.args.outs.now)) response is o (sym c.in-Some.is ∙ own) fits (λ id k unused. c.in_ok-respond-in-Some.ensures.documents settings owed base k.says k.aside ds)
