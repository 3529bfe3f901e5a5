use Rattle.std.proofs.Common.{◌∙◌, sym, codes, subst, refl}
use Rattle.json_text.specs.Json.{string}
use Rattle.json_nodes.specs.At.{At}
use Rattle.mux_members.proofs.Told.{told_requests}
use Rattle.mux_members.proofs.method.is_stop.Goals as goal
use Rattle.rpc_message.specs.Message.{message_of}

pub returns-in-Some : goal.returns-in-Some
returns-in-Some c = λ bytes read. told_requests c.args.m.now.doc c.args.m.now.envelope (message_of bytes) (codes "lspmux/stop") c.spells.result c.in-Some.method read.tells (sym c.request_method.ensures ∙ c.in-Some.is)
    (λ s cs a. c.spells.ensures refl s cs (subst (λ d. At d c.in-Some.method (string s cs)) (sym c.tape.ensures) a))
