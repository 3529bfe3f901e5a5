use Rattle.response_route.proofs.Walks.{stand_one}
use Rattle.response_route.proofs.documents.add_document.Goals as goal

pub returns-in_ok-push : goal.returns-in_ok-push
returns-in_ok-push c = λ t js a s. stand_one c.args.tape.now c.args.document t c.args.documents.now.items c.push.new.self.items js c.has_version.result c.if-has_version.true (c.has_version.ensures t a) c.in_ok-push.ensures.items a s
