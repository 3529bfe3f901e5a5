-- An editor says something of a document of a group.
use Rattle.std.proofs.Common.{arith}
use Rattle.document_model.specs.Sayings.{saying_of}
use Rattle.group_laws.specs.Steps.{document_step}
use Rattle.rpc_message.specs.Message.{message_of}
use Rattle.mux_tables.proofs.DocumentGroups.{past_step, there_step}
use Rattle.mux_tables.proofs.documents.note_at.Goals as goal

pub returns-then-g-len : goal.returns-then-g-len
returns-then-g-len c = λ body read. past_step (λ d. document_step c.args.e body (saying_of (message_of body)) d) c.args.documents.now.items c.args.g c.new.result (omega (arith, c.len.ensures)) c.new.ensures

pub returns : goal.returns
returns c = λ body read. there_step (λ d. document_step c.args.e body (saying_of (message_of body)) d) c.args.documents.now.items c.args.g c.index_mut.result.now c.note_in.new.documents c.in_ok-owed.owed (omega (arith, c.len.ensures)) c.index_mut.ensures.value (c.in_ok-owed.ensures body read)
