use Rattle.std.proofs.Common.{sym, subst}
use Rattle.json_nodes.specs.At.{Found}
use Rattle.rpc_message.specs.Message.{message_of}
use Rattle.mux_members.proofs.Encodings.{told_encoding}
use Rattle.mux_members.proofs.outcome.encoding.Goals as goal

pub returns : goal.returns
returns c = λ bytes id value read is. told_encoding c.args.m.now.doc c.args.m.now.envelope (message_of bytes) id value c.value_encoding.result read.tells is
    (λ o f. c.value_encoding.ensures o (subst (λ d. Found d o c.outcome_value.result) (sym c.tape.ensures) (subst (λ k. Found c.args.m.now.doc o k) (sym c.outcome_value.ensures) f)))
