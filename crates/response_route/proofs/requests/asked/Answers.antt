use Rattle.response_route.specs.Asked.{documents_asked}
use Rattle.response_route.proofs.Answering.{changes_rise}
use Rattle.response_route.proofs.Rising.{asked_rise}
use Rattle.response_route.proofs.requests.asked.Goals as goal

pub with_changes-requires : goal.with_changes-requires
with_changes-requires c = changes_rise c.args.message.now c.args.mapping c.bytes-body.result.now c.args.id.now c.in-Ok.changes.items (documents_asked c.bytes-body.result.now) c.bytes-body.ensures.read
    (λ r es e. asked_rise r c.bytes-body.result.now c.args.id.now es e) (λ r mean. c.in-Ok.ensures c.bytes-body.result.now r c.bytes-body.ensures.read mean)
