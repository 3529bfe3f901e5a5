use Rattle.json_text.specs.Named.{children}
use Rattle.doc_text.proofs.Items.{array_given, rest_of}
use Rattle.doc_text.proofs.Reading.{no_array}
use Rattle.doc_text.proofs.read.changes.Goals as goal

pub returns-in-Array : goal.returns-in-Array
returns-in-Array c = λ t a. array_given (λ changes. changes.items) t c.kind.result c.items.result c.in-Array.is (c.kind.ensures t a)
    (c.items.ensures (children t) (rest_of c.args.tape.now c.args.node t c.first.result (c.first.ensures.first t a)))

pub returns-in_default : goal.returns-in_default
returns-in_default c = λ t a. no_array t c.kind.result c.in_default.not-Array (c.kind.ensures t a)
