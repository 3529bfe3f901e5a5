use Rattle.std.proofs.Common.{Option, Some, sym, ◌∙◌, ap, subst}
use Rattle.std.specs.Prelude.{is_some}
use Rattle.json_text.specs.Json.{Json, string}
use Rattle.json_nodes.specs.At.{Found}
use Rattle.rpc_message.specs.Message.{message_of}
use Rattle.mux_members.specs.Envelopes.{notification_method, notification_params}
use Rattle.mux_members.proofs.Spoken.{told_notice, told_nothing, told_params_found}
use Rattle.mux_members.proofs.notice.notice_in.Goals as goal

pub returns-then-is_none-clause-said : goal.returns-then-is_none-clause-said
returns-then-is_none-clause-said c = λ bytes read. told_nothing c.args.m.now.doc c.args.m.now.envelope (message_of bytes) read.tells (sym (ap (λ z. is_some z) c.notification_method-method.ensures) ∙ c.if-is_none.ensures)

pub returns-clause-said : goal.returns-clause-said
returns-clause-said c = λ bytes read. told_notice c.args.m.now.doc c.args.m.now.envelope (message_of bytes) c.said.result read.tells (sym (ap (λ z. is_some z) c.notification_method-method.ensures) ∙ c.if-is_none.ensures)
    (λ s cs o f p. c.said.ensures.said s cs o
    (subst (λ k. Found c.tape.result.now (Some (string s cs)) k) (sym c.notification_method-method.ensures) (subst (λ d. Found d (Some (string s cs)) (notification_method c.args.m.now.envelope)) (sym c.tape.ensures) f))
    (subst (λ k. Found c.tape.result.now o k) (sym c.notification_params.ensures) (subst (λ d. Found d o (notification_params c.args.m.now.envelope)) (sym c.tape.ensures) p)))

pub returns-clause-utf8 : goal.returns-clause-utf8
returns-clause-utf8 c =
    let q : (o : Option Json) × Found c.args.m.now.doc o (notification_params c.args.m.now.envelope)
    = told_params_found c.args.m.now.doc c.args.m.now.envelope (message_of c.bytes-bytes.result.now) c.bytes-bytes.ensures.read.tells (sym (ap (λ z. is_some z) c.notification_method-method.ensures) ∙ c.if-is_none.ensures) in
    c.said.ensures.utf8 q.0 (subst (λ k. Found c.tape.result.now q.0 k) (sym c.notification_params.ensures) (subst (λ d. Found d q.0 (notification_params c.args.m.now.envelope)) (sym c.tape.ensures) q.1))
