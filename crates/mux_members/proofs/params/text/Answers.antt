-- A member of params that is a string.
use Rattle.std.proofs.Common.{◌≡◌, ap, sym, subst}
use Rattle.std.specs.Prelude.{IfOk}
use Rattle.json_nodes.specs.At.{Found}
use Rattle.rpc_message.specs.Message.{message_of}
use Rattle.rpc_message.specs.Parsed.{FoundBare, params_in, params_of}
use Rattle.mux_members.proofs.Tokens.{text_asked, text_told}
use Rattle.mux_members.proofs.params.text.Goals as goal

pub returns-clause-asked : goal.returns-clause-asked
returns-clause-asked c = λ ascii bytes method id params read says.
    let o = params_in (message_of bytes) read.tree in
    let found = subst (λ d. Found d o c.params.result) (sym c.tape.ensures) (c.params.ensures.member bytes read) in
    subst (λ z. IfOk c.string.result (λ text. text ≡ z)) (text_asked c.args.m.now bytes method id params read says c.args.name.now) (c.string.ensures.said ascii o found)

pub returns-clause-told : goal.returns-clause-told
returns-clause-told c = λ ascii bytes method params read says.
    let told : FoundBare c.args.m.now.doc params c.params.result = subst (λ m. FoundBare c.args.m.now.doc m c.params.result) (ap params_of says) (c.params.ensures.value bytes read) in
    let found = subst (λ d. Found d told.value c.params.result) (sym c.tape.ensures) told.stands in
    subst (λ z. IfOk c.string.result (λ text. text ≡ z)) (text_told c.args.m.now.doc params c.params.result told c.args.name.now) (c.string.ensures.said ascii told.value found)
