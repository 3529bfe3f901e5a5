-- A token of a request's params.
use Rattle.std.proofs.Common.{ap, sym, subst, ◌∙◌}
use Rattle.json_nodes.specs.At.{Found}
use Rattle.mux_model.specs.event_model.specs.Members.{bytes_if}
use Rattle.rpc_message.specs.Message.{message_of}
use Rattle.rpc_message.specs.Parsed.{params_in}
use Rattle.mux_members.proofs.Tokens.{no_token, token_there}
use Rattle.mux_members.proofs.params.token.Goals as goal

pub returns-then-named_token : goal.returns-then-named_token
returns-then-named_token c = λ ascii bytes method id params read says.
    let o = params_in (message_of bytes) read.tree in
    let found = subst (λ d. Found d o c.params-params.result) (sym c.tape-tape.ensures) (c.params-params.ensures.member bytes read) in
    c.member_bytes.ensures ascii o found ∙ (ap (λ bs. bytes_if c.args.name.now o bs) (ap (λ d. d.bytes) c.tape-tape.ensures ∙ read.bytes_are)
    ∙ token_there c.args.m.now bytes method id params read says c.args.name.now c.named_token.result (c.named_token.ensures ascii o found) c.if-named_token.true)

pub returns-else-named_token : goal.returns-else-named_token
returns-else-named_token c = λ ascii bytes method id params read says.
    let o = params_in (message_of bytes) read.tree in
    let found = subst (λ d. Found d o c.params-params.result) (sym c.tape-tape.ensures) (c.params-params.ensures.member bytes read) in
    no_token c.args.m.now bytes method id params read says c.args.name.now c.named_token.result (c.named_token.ensures ascii o found) c.if-named_token.false
