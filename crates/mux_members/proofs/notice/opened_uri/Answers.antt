-- The document that a notification opens.
use Rattle.std.proofs.Common.{Some, ap, sym, subst, ◌∙◌}
use Rattle.std.specs.Prelude.{is_some}
use Rattle.json_text.specs.Json.{string}
use Rattle.json_nodes.specs.At.{Found}
use Rattle.rpc_message.specs.Message.{message_of}
use Rattle.mux_members.specs.Envelopes.{notification_method, notification_params}
use Rattle.mux_members.proofs.Opened.{told_none, told_uri}
use Rattle.mux_members.proofs.notice.opened_uri.Goals as goal

pub returns-then-is_none : goal.returns-then-is_none
returns-then-is_none c = λ bytes read. told_none c.args.m.now.doc c.args.m.now.envelope (message_of bytes) read.tells (sym (ap (λ z. is_some z) c.notification_method-method.ensures) ∙ c.if-is_none.ensures)

pub returns : goal.returns
returns c = λ bytes read. told_uri c.args.m.now.doc c.args.m.now.envelope (message_of bytes) c.uri_said.result read.tells (sym (ap (λ z. is_some z) c.notification_method-method.ensures) ∙ c.if-is_none.ensures)
    (λ s cs o f p. c.uri_said.ensures s cs o
    (subst (λ k. Found c.tape.result.now (Some (string s cs)) k) (sym c.notification_method-method.ensures) (subst (λ d. Found d (Some (string s cs)) (notification_method c.args.m.now.envelope)) (sym c.tape.ensures) f))
    (subst (λ k. Found c.tape.result.now o k) (sym c.notification_params.ensures) (subst (λ d. Found d o (notification_params c.args.m.now.envelope)) (sym c.tape.ensures) p)))
