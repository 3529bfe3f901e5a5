use Rattle.std.proofs.Common.{arith, get_or, refl}
use Rattle.std.proofs.lemmas.Result.{err_from_is_err_and}
use Rattle.json_text.specs.Changes.{edits_of}
use Rattle.response_route.proofs.Making.{made_on, made_err, made_ends}
use Rattle.response_route.proofs.edits.changes_of.Goals as goal

pub returns-in_err-add_changes : goal.returns-in_err-add_changes
returns-in_err-add_changes c = let p = err_from_is_err_and c.from_residual.result c.from_residual.ensures.1 in
    λ r js mean s. rw (p.1, p.2) (made_err c.args.mapping c.args.tape.now c.args.documents.now c.loop-document.document-index (get_or c.args.documents.now c.loop-document.document-index 0) (edits_of c.loop-document.changes.items) c.in_err-add_changes.field-0.0
    c.loop-document.invariant c.loop-document-test.true refl (edits_of c.add_changes.new.changes.items) (λ q t m a. c.in_err-add_changes.ensures q t m a) r js mean s)

pub loop-document-preserved : goal.loop-document-preserved
loop-document-preserved c = made_on c.args.mapping c.args.tape.now c.args.documents.now c.loop-document.document-index (get_or c.args.documents.now c.loop-document.document-index 0) (edits_of c.loop-document.changes.items) (edits_of c.add_changes.new.changes.items)
    c.loop-document.invariant c.loop-document-test.true refl (λ r t mean a. c.in_ok-add_changes.ensures r t mean a)

pub returns : goal.returns
returns c = made_ends c.args.mapping c.args.tape.now c.args.documents.now c.loop-document.document-index (edits_of c.loop-document.changes.items) c.loop-document.invariant (omega (arith, c.loop-document-test.false))
