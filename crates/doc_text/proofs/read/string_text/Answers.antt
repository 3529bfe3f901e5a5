use Rattle.std.proofs.Common.{sym, subst}
use Rattle.json_span.specs.json_nodes.specs.At.{At}
use Rattle.json_span.specs.json_nodes.specs.Values.{doc_of}
use Rattle.doc_text.proofs.Reading.{no_string, string_given}
use Rattle.doc_text.proofs.read.string_text.Goals as goal

pub returns-in_ok-decoded-in-Text : goal.returns-in_ok-decoded-in-Text
returns-in_ok-decoded-in-Text c = λ t a.
    string_given (doc_of c.values.result) c.args.node t c.kind.result c.string.result.now c.in_ok-decoded-in-Text.decoded.items c.from_utf8.result c.in-Text.is (c.kind.ensures t a)
    (subst (λ d. At d c.args.node t) (sym c.values.ensures.same) a)
    (λ s cs b. c.string.ensures.spelled s cs b) (λ cs h. c.in_ok-decoded-in-Text.ensures cs h) c.from_utf8.ensures.ok c.from_utf8.ensures.succeeds

pub returns-in_default : goal.returns-in_default
returns-in_default c = λ t a. no_string t c.kind.result c.in_default.not-Text (c.kind.ensures t a)
