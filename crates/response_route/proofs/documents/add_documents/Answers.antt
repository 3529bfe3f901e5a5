use Rattle.std.proofs.Common.{◌++◌}
use Rattle.std.specs.Prelude.{OnOk}
use Rattle.response_route.specs.Edits.{action_documents}
use Rattle.response_route.specs.Reading.{Stand}
use Rattle.response_route.proofs.Walks.{array_walked, of_array, of_object, of_other}
use Rattle.response_route.proofs.documents.add_documents.Goals as goal

pub returns-in-Object : goal.returns-in-Object
returns-in-Object c = λ t js a s. of_object (λ z. OnOk c.add_object.result (Stand c.args.tape.now c.add_object.new.documents.items (js ++ z))) t c.kind.result c.in-Object.is (c.kind.ensures t a) (c.add_object.ensures t js a s)

pub returns-in-Array : goal.returns-in-Array
returns-in-Array c = λ t js a s. of_array (λ z. OnOk c.add_actions.result (Stand c.args.tape.now c.add_actions.new.documents.items (js ++ z))) t c.kind.result c.in-Array.is (c.kind.ensures t a)
    (array_walked c.args.tape.now (λ z. OnOk c.add_actions.result (Stand c.args.tape.now c.add_actions.new.documents.items (js ++ z))) action_documents c.args.node t c.kind.result c.first.result c.in-Array.is (c.kind.ensures t a)
    (c.first.ensures.first t a) (λ ts r. c.add_actions.ensures ts js r s))

pub returns-in_default : goal.returns-in_default
returns-in_default c = λ t js a s. of_other c.args.tape.now t c.kind.result c.args.documents.now.items js c.in_default.not-Object c.in_default.not-Array (c.kind.ensures t a) s
