use Rattle.std.proofs.Common.{ap, sym, subst, length, Err}
use Rattle.json_span.specs.json_nodes.specs.Doc.{Doc}
use Rattle.json_span.specs.json_nodes.specs.Values.{doc_of}
use Rattle.rpc_message.specs.Envelopes.{Tells, TellsIf}
use Rattle.rpc_message.specs.Message.{message_of}
use Rattle.rpc_message.specs.Parsed.{IsRead}
use Rattle.rpc_message.proofs.Reading.{syntax_refused, depth_refused, has_root, told_read, members_read, read_is}
use Rattle.rpc_message.proofs.message.Message.read.Goals as goal

pub envelope_in-requires : goal.envelope_in-requires
envelope_in-requires c = has_root c.in-Ok.tape c.in-Ok.ensures.ok.1.0 (length c.values.result.nodes.now) c.in-Ok.ensures.ok.1.1 (ap (λ (d : Doc). length d.nodes) c.values.ensures.same)

pub returns-in-Ok-None-clause-refused : goal.returns-in-Ok-None-clause-refused
returns-in-Ok-None-clause-refused c =
    let told : TellsIf c.in-Ok.tape c.in-Ok-None.field-0 (message_of c.args.bytes.now) = told_read c.in-Ok.tape (doc_of c.values.result) c.in-Ok-None.field-0 c.args.bytes.now c.in-Ok.ensures.ok.1.0
    c.values.ensures.same c.in-Ok.ensures.ok.0 c.in-Ok.ensures.ok.1.1 c.in-Ok-None.ensures.tells in
    subst (λ e. TellsIf c.in-Ok.tape e (message_of c.args.bytes.now)) c.in-Ok-None.field-0-is told

pub decoded_method-requires : goal.decoded_method-requires
decoded_method-requires c =
    let told : TellsIf c.in-Ok.tape c.in-Ok-Some.field-0 (message_of c.args.bytes.now) = told_read c.in-Ok.tape (doc_of c.values.result) c.in-Ok-Some.field-0 c.args.bytes.now c.in-Ok.ensures.ok.1.0
    c.values.ensures.same c.in-Ok.ensures.ok.0 c.in-Ok.ensures.ok.1.1 c.in-Ok-Some.ensures.tells in
    let some : Tells c.in-Ok.tape c.in-Ok-Some.envelope (message_of c.args.bytes.now) = subst (λ e. TellsIf c.in-Ok.tape e (message_of c.args.bytes.now)) c.in-Ok-Some.field-0-is told in
    (message_of c.args.bytes.now, subst (λ d. Tells d c.in-Ok-Some.envelope (message_of c.args.bytes.now)) (sym c.values-2.ensures.same) some)

pub returns-in-Ok-decoded_method-clause-ok : goal.returns-in-Ok-decoded_method-clause-ok
returns-in-Ok-decoded_method-clause-ok c =
    let told : TellsIf c.in-Ok.tape c.in-Ok-Some.field-0 (message_of c.args.bytes.now) = told_read c.in-Ok.tape (doc_of c.values.result) c.in-Ok-Some.field-0 c.args.bytes.now c.in-Ok.ensures.ok.1.0
    c.values.ensures.same c.in-Ok.ensures.ok.0 c.in-Ok.ensures.ok.1.1 c.in-Ok-Some.ensures.tells in
    let some : Tells c.in-Ok.tape c.in-Ok-Some.envelope (message_of c.args.bytes.now) = subst (λ e. TellsIf c.in-Ok.tape e (message_of c.args.bytes.now)) c.in-Ok-Some.field-0-is told in
    read_is c.in-Ok.tape c.in-Ok-Some.envelope c.in-Ok-decoded_method.method c.args.bytes.now c.in-Ok.ensures.ok.1.0 c.in-Ok.ensures.ok.0 c.in-Ok.ensures.ok.1.1 some
    (members_read c.in-Ok.tape (doc_of c.values.result) c.in-Ok-Some.field-0 c.in-Ok-Some.envelope c.in-Ok.ensures.ok.1.0 c.values.ensures.same c.in-Ok.ensures.ok.1.1 c.in-Ok-Some.ensures.members c.in-Ok-Some.field-0-is)
    (c.in-Ok-decoded_method.ensures (message_of c.args.bytes.now)
    (subst (λ d. Tells d c.in-Ok-Some.envelope (message_of c.args.bytes.now)) (sym c.values-2.ensures.same) some))

pub invariant_of-result : goal.invariant_of-result
invariant_of-result c = subst (IsRead (record { doc = c.in-Ok.tape; envelope = c.in-Ok-Some.envelope; method = c.in-Ok-decoded_method.method })) (sym c.in-Ok.ensures.ok.0) (returns-in-Ok-decoded_method-clause-ok c)

pub returns-in-Err-Syntax-clause-refused : goal.returns-in-Err-Syntax-clause-refused
returns-in-Err-Syntax-clause-refused c = syntax_refused c.args.bytes.now c.in-Err-Syntax.field-0-0 (c.in-Err-Syntax.ensures.syntax c.in-Err-Syntax.field-0-0 (ap Err c.in-Err-Syntax.field-0-is))

pub returns-in-Err-TooDeep-clause-refused : goal.returns-in-Err-TooDeep-clause-refused
returns-in-Err-TooDeep-clause-refused c = depth_refused c.args.bytes.now c.in-Err-TooDeep.field-0-0 (c.in-Err-TooDeep.ensures.too_deep c.in-Err-TooDeep.field-0-0 (ap Err c.in-Err-TooDeep.field-0-is))
