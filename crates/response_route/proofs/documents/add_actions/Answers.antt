use Rattle.response_route.specs.Edits.{action_documents}
use Rattle.response_route.proofs.Walks.{walk_on, walk_ends}
use Rattle.response_route.proofs.documents.add_actions.Goals as goal

pub loop-next-preserved : goal.loop-next-preserved
loop-next-preserved c = walk_on action_documents c.args.tape.now c.args.first c.loop-next.next c.next-next.result c.in-Some.action c.args.documents.now.items c.loop-next.documents.items c.add_action.new.documents.items c.loop-next.invariant c.in-Some.is
    (λ t js a s. c.in_ok-add_action.ensures t js a s) (λ k n t u a. c.next-next.ensures.next k n t u a) c.next-next.ensures.inside

pub returns : goal.returns
returns c = walk_ends action_documents c.args.tape.now c.args.first c.loop-next.next c.args.documents.now.items c.loop-next.documents.items c.loop-next.invariant c.in_default.is
