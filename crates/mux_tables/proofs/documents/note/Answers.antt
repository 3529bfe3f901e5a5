-- An editor says something of a document.
use Rattle.std.proofs.Common.{sym, subst}
use Rattle.document_model.specs.Sayings.{saying_of}
use Rattle.group_laws.specs.Steps.{document_step}
use Rattle.rpc_message.specs.Message.{message_of}
use Rattle.mux_tables.specs.Documents.{StepFrom}
use Rattle.mux_tables.proofs.documents.note.Goals as goal

pub returns : goal.returns
returns c = λ body read. subst (λ o. StepFrom (λ d. document_step c.args.e body (saying_of (message_of body)) d) o c.args.documents.now.items c.in_ok-owed.owed c.note_at.new.documents.items) (sym c.in-Some.is) (c.in_ok-owed.ensures body read)
