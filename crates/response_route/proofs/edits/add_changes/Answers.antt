use Rattle.std.proofs.Common.{Some, subst}
use Rattle.std.proofs.lemmas.Result.{err_from_is_err_and}
use Rattle.json_nodes.specs.At.{At}
use Rattle.json_text.specs.Changes.{edits_of}
use Rattle.response_route.specs.Edits.{document_edits}
use Rattle.response_route.proofs.Making.{extended, extends_err, within_same, within_none}
use Rattle.response_route.proofs.edits.add_changes.Goals as goal

pub returns-in_default : goal.returns-in_default
returns-in_default c = λ r t mean a. absurd (within_none c.within.result c.args.document c.in_default.is (c.within.ensures.same (Some t) a))

pub returns-in_err-more : goal.returns-in_err-more
returns-in_err-more c = let p = err_from_is_err_and c.from_residual.result c.from_residual.ensures.1 in
    λ r t mean a. rw (p.1, p.2) (extends_err c.in_err-more.field-0.0 (edits_of c.args.changes.now.items) (edits_of c.args.changes.now.items) (document_edits r t)
    (c.in_err-more.ensures r t mean (subst (λ n. At c.args.tape.now n t) (within_same c.within.result c.args.document c.in-Some.document (c.within.ensures.same (Some t) a) c.in-Some.is) a)))

pub returns : goal.returns
returns c = λ r t mean a. extended c.args.changes.now.items c.in_ok-more.more.items c.append.new.self.items (document_edits r t)
    (c.in_ok-more.ensures r t mean (subst (λ n. At c.args.tape.now n t) (within_same c.within.result c.args.document c.in-Some.document (c.within.ensures.same (Some t) a) c.in-Some.is) a)) c.in_ok-append.ensures.items
