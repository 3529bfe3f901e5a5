use Rattle.std.proofs.Common.{Err, None, Some, refl, subst}
use Rattle.json_text.specs.Changes.{edits_of}
use Rattle.rpc_message.specs.Changed.{changed_text}
use Rattle.rpc_message.specs.Texts.{content_modified, error_text}
use Rattle.response_route.specs.Edits.{all_edits}
use Rattle.response_route.specs.Reading.{Gives}
use Rattle.response_route.specs.Results.{documents_in}
use Rattle.response_route.proofs.Answering.{answered, changes_rise}
use Rattle.response_route.proofs.Rising.{message_rise}
use Rattle.response_route.proofs.answers.answer.Goals as goal

pub with_changes-requires : goal.with_changes-requires
with_changes-requires c = changes_rise c.args.message.now c.args.mapping c.bytes-body.result.now c.args.id.now c.in-Ok.changes.items (documents_in c.bytes-body.result.now) c.bytes-body.ensures.read (λ r es e. message_rise r c.bytes-body.result.now c.args.id.now es e) (λ r mean. c.in-Ok.ensures c.bytes-body.result.now r c.bytes-body.ensures.read mean)

pub returns-in-Ok : goal.returns-in-Ok
returns-in-Ok c = λ body r read mean. answered c.with_changes.result r body c.args.id.now (changed_text body c.args.id.now (edits_of c.in-Ok.changes.items)) (Some (edits_of c.in-Ok.changes.items)) (c.in-Ok.ensures body r read mean) refl (c.with_changes.ensures body read)

pub returns-in-Err-Modified : goal.returns-in-Err-Modified
returns-in-Err-Modified c = λ body r read mean. answered c.error_answer.result r body c.args.id.now (error_text c.args.id.now content_modified) None
    (subst (λ e. Gives (Err e) (all_edits r (documents_in body))) c.in-Err-Modified.field-0-is (c.in-Err-Modified.ensures body r read mean)) refl c.error_answer.ensures
