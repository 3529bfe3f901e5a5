-- What a cancel names.
use Rattle.std.proofs.Common.{sym, ◌∙◌}
use Rattle.mux_model.specs.event_model.specs.Members.{named_of}
use Rattle.rpc_message.specs.Message.{message_of}
use Rattle.rpc_message.specs.Parsed.{FoundBare}
use Rattle.mux_members.proofs.Cancelled.{names_id, names_nothing, told_notified}
use Rattle.mux_members.proofs.Told.{found_there}
use Rattle.mux_members.proofs.cancel.id_named.Goals as goal

pub returns-then-is_id : goal.returns-then-is_id
returns-then-is_id c = λ ascii text method params read is.
    let told : FoundBare c.tape-tape.result.now params c.notification_params.result
    = found_there c.args.m.now.doc c.tape-tape.result.now params _ c.notification_params.result c.tape-tape.ensures c.notification_params.ensures (told_notified c.args.m.now.doc c.args.m.now.envelope (message_of text) method params read.tells is) in
    let found = c.member-id.ensures ascii told.value told.stands in
    names_id c.args.name.now c.tape-tape.result.now params c.notification_params.result told c.member-id.result c.bytes.result.now found (sym (c.is_id.ensures (named_of c.args.name.now told.value) found) ∙ c.if-is_id.true) c.bytes.ensures

pub returns-else-is_id : goal.returns-else-is_id
returns-else-is_id c = λ ascii text method params read is.
    let told : FoundBare c.tape-tape.result.now params c.notification_params.result
    = found_there c.args.m.now.doc c.tape-tape.result.now params _ c.notification_params.result c.tape-tape.ensures c.notification_params.ensures (told_notified c.args.m.now.doc c.args.m.now.envelope (message_of text) method params read.tells is) in
    names_nothing c.args.name.now c.tape-tape.result.now params c.notification_params.result told (sym (c.is_id.ensures (named_of c.args.name.now told.value) (c.member-id.ensures ascii told.value told.stands)) ∙ c.if-is_id.false)
