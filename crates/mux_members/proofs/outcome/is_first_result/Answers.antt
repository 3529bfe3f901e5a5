use Rattle.std.proofs.Common.{◌∙◌, sym, subst}
use Rattle.json_nodes.specs.At.{At}
use Rattle.rpc_message.specs.Message.{message_of}
use Rattle.mux_members.proofs.Results.{told_first}
use Rattle.mux_members.proofs.outcome.is_first_result.Goals as goal

pub returns-in-Some : goal.returns-in-Some
returns-in-Some c = λ bytes read. told_first c.args.m.now.doc c.args.m.now.envelope (message_of bytes) c.is_one.result c.in-Some.id read.tells (sym c.outcome_id.ensures ∙ c.in-Some.is)
    (λ t id a e. c.is_one.ensures t id (subst (λ d. At d c.in-Some.id t) (sym c.tape.ensures) a) e)
