use Rattle.std.proofs.Common.{subst}
use Rattle.json_nodes.specs.At.{Found}
use Rattle.rpc_message.specs.Message.{message_of}
use Rattle.rpc_message.specs.Parsed.{result_in}
use Rattle.response_route.specs.Edits.{documents_of}
use Rattle.response_route.proofs.Answering.{changes_found, nothing_found}
use Rattle.response_route.proofs.answers.message_changes.Goals as goal

pub returns-in_ok-documents-in-Some : goal.returns-in_ok-documents-in-Some
returns-in_ok-documents-in-Some c = λ body r read mean.
    changes_found documents_of result_in c.args.message.now body read c.tape.result.now c.tape-in-Some.result.now c.in-Some.node c.in_ok-documents-in-Some.documents.items c.as_slice.result.now c.changes_of.result r c.tape.ensures c.tape-in-Some.ensures c.as_slice.ensures.value
    (subst (λ z. Found c.args.message.now.doc (result_in (message_of body) read.tree) z) c.in-Some.is (c.result.ensures.member body read)) (λ t a. c.in_ok-documents-in-Some.ensures t a) (λ js s. c.changes_of.ensures r js mean s)

pub returns-in-None : goal.returns-in-None
returns-in-None c = λ body r read mean.
    nothing_found documents_of result_in c.args.message.now body read r c.new.result.items (subst (λ z. Found c.args.message.now.doc (result_in (message_of body) read.tree) z) c.in-None.is (c.result.ensures.member body read)) c.new.ensures.items
