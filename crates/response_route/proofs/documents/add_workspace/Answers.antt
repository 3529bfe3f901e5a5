use Rattle.std.specs.Str.{chars}
use Rattle.std.proofs.Common.{◌++◌, codes, refl, flat_map, subst}
use Rattle.std.specs.Prelude.{OnOk}
use Rattle.json_nodes.specs.At.{Found}
use Rattle.json_text.specs.Named.{named_in}
use Rattle.event_model.specs.Members.{listed}
use Rattle.response_route.specs.Edits.{change_documents}
use Rattle.response_route.specs.Reading.{Stand}
use Rattle.response_route.proofs.Walks.{there, member_absent, array_walked, not_walked}
use Rattle.response_route.proofs.documents.add_workspace.Goals as goal

pub returns-in_default : goal.returns-in_default
unfolding chars
returns-in_default c = λ t js a s. member_absent c.args.tape.now (λ o. flat_map change_documents (listed o)) c.args.documents.now.items js (named_in (codes "documentChanges") t) refl
    (subst (Found c.args.tape.now (named_in (codes "documentChanges") t)) c.in_default.is (c.member.ensures.member t a)) s

pub returns-in-Array : goal.returns-in-Array
unfolding chars
returns-in-Array c = λ t js a s. there c.args.tape.now (λ z. OnOk c.add_changes.result (Stand c.args.tape.now c.add_changes.new.documents.items (js ++ z))) (λ o. flat_map change_documents (listed o)) (named_in (codes "documentChanges") t) c.in-Some.list
    (c.in-Some.ensures.member t a)
    (λ u b. array_walked c.args.tape.now (λ z. OnOk c.add_changes.result (Stand c.args.tape.now c.add_changes.new.documents.items (js ++ z))) change_documents c.in-Some.list u c.kind.result c.first.result c.in-Array.is (c.kind.ensures u b)
    (c.first.ensures.first u b) (λ ts r. c.add_changes.ensures ts js r s))

pub returns-in_default-kind : goal.returns-in_default-kind
unfolding chars
returns-in_default-kind c = λ t js a s. there c.args.tape.now (λ z. Stand c.args.tape.now c.args.documents.now.items (js ++ z)) (λ o. flat_map change_documents (listed o)) (named_in (codes "documentChanges") t) c.in-Some.list (c.in-Some.ensures.member t a)
    (λ u b. not_walked c.args.tape.now change_documents u c.kind.result c.args.documents.now.items js c.in_default-kind.not-Array (c.kind.ensures u b) s)
