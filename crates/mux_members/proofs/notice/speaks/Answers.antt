use Rattle.std.proofs.Common.{sym, ◌∙◌, subst}
use Rattle.json_text.specs.Json.{string}
use Rattle.json_nodes.specs.At.{At}
use Rattle.rpc_message.specs.Message.{message_of}
use Rattle.mux_members.proofs.Spoken.{told_speaks}
use Rattle.mux_members.proofs.notice.speaks.Goals as goal

pub returns-in-Some : goal.returns-in-Some
returns-in-Some c = λ bytes read. told_speaks c.args.m.now.doc c.args.m.now.envelope (message_of bytes) c.is_of_documents.result c.in-Some.method read.tells (sym c.notification_method.ensures ∙ c.in-Some.is)
    (λ s cs a. c.is_of_documents.ensures s cs (subst (λ d. At d c.in-Some.method (string s cs)) (sym c.tape.ensures) a))
