use Rattle.std.proofs.Common.{[], subst, sym}
use Rattle.response_route.specs.Reading.{Stand}
use Rattle.response_route.proofs.documents.action_documents.Goals as goal

pub returns : goal.returns
returns c = λ t a. c.in_ok-add_action.ensures t [] a (subst (λ z. Stand c.args.tape.now z []) (sym c.new-documents.ensures.items) tt)
