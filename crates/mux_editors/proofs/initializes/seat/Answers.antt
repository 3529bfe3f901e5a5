-- An editor is placed.
use Rattle.std.proofs.Common.{◌∙◌}
use Rattle.std.specs.Option.{option_copied}
use Rattle.rpc_message.specs.Message.{message_of}
use Rattle.mux_tables.specs.Documents.{nothing_owed}
use Rattle.mux_editors.proofs.Initializing.{declared_is, key_is, new_session}
use Rattle.mux_editors.proofs.initializes.seat.Goals as goal

pub returns-in-Ok-clause-moves : goal.returns-in-Ok-clause-moves
returns-in-Ok-clause-moves c = λ settings before body method id params read says new all server st ds.
    let e = c.args.e in
    let x = new_session settings c.args.tables.now before e (message_of body) c.requires.editor new st in
    let key = key_is settings before e body c.args.server server _ (c.in_ok-key.ensures body read) in
    let declared = declared_is settings before e body c.args.server server c.args.servers.now c.offered-capabilities.result.now (option_copied c.ceiling.result) all c.requires.ceilings (c.offered-capabilities.ensures.bytes body read) (c.offered-capabilities.ensures.text body read) c.ceiling.ensures.is in
    let moves = c.in-Ok.ensures.moves settings before x.0 body st x.1 x.2 x.3 (c.new-id.ensures ∙ (c.in_ok-from_slice.ensures.items ∙ c.id_bytes.ensures body read)) key declared in
    (moves.0, (moves.1, c.in-Ok.ensures.documents settings nothing_owed before x.0 body st x.1 x.2 ds))
