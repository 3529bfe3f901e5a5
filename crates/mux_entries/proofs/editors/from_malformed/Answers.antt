-- A body that is no message.
use Rattle.rpc_message.specs.Message.{message_of}
use Rattle.mux_starts.specs.mux_tables.specs.Documents.{AllStand}
use Rattle.mux_entries.proofs.EditorRows.{done_alike, malformed, refused_malformed}
use Rattle.mux_entries.proofs.editors.from_malformed.Goals as goal

pub returns-in_ok-take_malformed-in-NotJson-clause-does : goal.returns-in_ok-take_malformed-in-NotJson-clause-does
returns-in_ok-take_malformed-in-NotJson-clause-does c = λ settings before body refuses first st ds.
    done_alike (λ k events. AllStand settings k events) (malformed settings before c.args.e body (refused_malformed c.args.fault (message_of body) c.in-NotJson.is refuses))
    (c.in_ok-take_malformed-in-NotJson.ensures.does settings before body refuses first st ds)

pub returns-in_ok-take_malformed-in-NotJson-clause-malformed : goal.returns-in_ok-take_malformed-in-NotJson-clause-malformed
returns-in_ok-take_malformed-in-NotJson-clause-malformed c = λ body refuses. refused_malformed c.args.fault (message_of body) c.in-NotJson.is refuses
