use Rattle.std.proofs.Common.{◌++◌, codes, Some}
use Rattle.std.specs.Prelude.{OnOk}
use Rattle.json_text.specs.Named.{named_in}
use Rattle.response_route.specs.Edits.{in_front, workspace_documents, action_documents}
use Rattle.response_route.specs.Reading.{Stand}
use Rattle.response_route.proofs.Walks.{in_turn, turned}
use Rattle.response_route.proofs.documents.add_object.Goals as goal

pub returns-in_ok-add_workspace : goal.returns-in_ok-add_workspace
returns-in_ok-add_workspace c = λ t js a s. in_turn (λ z. OnOk c.add_action.result (Stand c.args.tape.now c.add_action.new.documents.items z)) (in_front (named_in (codes "documentChanges") t) (named_in (codes "edit") t)) c.in_front.result js (workspace_documents (Some t)) (action_documents t)
    c.if-in_front.true (c.in_front.ensures t a) (c.add_action.ensures t (js ++ workspace_documents (Some t)) a (c.in_ok-add_workspace.ensures t js a s))

pub returns-in_ok-add_action : goal.returns-in_ok-add_action
returns-in_ok-add_action c = λ t js a s. turned (λ z. OnOk c.add_workspace-else-in_front.result (Stand c.args.tape.now c.add_workspace-else-in_front.new.documents.items z)) (in_front (named_in (codes "documentChanges") t) (named_in (codes "edit") t)) c.in_front.result js
    (workspace_documents (Some t)) (action_documents t) c.if-in_front.false (c.in_front.ensures t a) (c.add_workspace-else-in_front.ensures t (js ++ action_documents t) a (c.in_ok-add_action.ensures t js a s))
