use Rattle.std.proofs.Common.{◌∙◌, sym, ap, codes, refl}
use Rattle.mux_model.specs.event_model.specs.Members.{has_token, is_token, named_of}
use Rattle.rpc_message.specs.Parsed.{FoundBare}
use Rattle.rpc_message.specs.Message.{message_of}
use Rattle.mux_members.proofs.Bared.{params_token, either_first, either_second}
use Rattle.mux_members.proofs.Told.{told_params, found_there}
use Rattle.mux_members.proofs.params.has_token.Goals as goal

pub returns-then-is_token : goal.returns-then-is_token
returns-then-is_token c = λ bytes method id params read is.
    let told : FoundBare c.tape-tape.result.now params c.request_params-params.result
    = found_there c.args.m.now.doc c.tape-tape.result.now params _ c.request_params-params.result c.tape-tape.ensures c.request_params-params.ensures (told_params c.args.m.now.doc c.args.m.now.envelope (message_of bytes) id method params read.tells is) in
    either_first (is_token (named_of (codes "workDoneToken") told.value)) (is_token (named_of (codes "partialResultToken") told.value)) c.is_token.result
    (c.is_token.ensures (named_of (codes "workDoneToken") told.value) (c.member.ensures refl told.value told.stands)) c.if-is_token.true
    ∙ sym (ap has_token told.is ∙ params_token told.value)

pub returns-else-is_token : goal.returns-else-is_token
returns-else-is_token c = λ bytes method id params read is.
    let told : FoundBare c.tape-tape.result.now params c.request_params-params.result
    = found_there c.args.m.now.doc c.tape-tape.result.now params _ c.request_params-params.result c.tape-tape.ensures c.request_params-params.ensures (told_params c.args.m.now.doc c.args.m.now.envelope (message_of bytes) id method params read.tells is) in
    either_second (is_token (named_of (codes "workDoneToken") told.value)) (is_token (named_of (codes "partialResultToken") told.value)) c.is_token.result c.is_token-else-is_token.result
    (c.is_token.ensures (named_of (codes "workDoneToken") told.value) (c.member.ensures refl told.value told.stands)) c.if-is_token.false
    (c.is_token-else-is_token.ensures (named_of (codes "partialResultToken") told.value) (c.member-else-is_token.ensures refl told.value told.stands))
    ∙ sym (ap has_token told.is ∙ params_token told.value)
