use Rattle.std.proofs.Common.{Vec, Global}
use Rattle.doc_text.specs.declared.change.ContentChange.{ContentChange}
use Rattle.std.proofs.lemmas.Result.{err_from_is_err_and}
use Rattle.doc_text.proofs.Items.{read_on, read_fails, read_ends}
use Rattle.doc_text.proofs.read.items.Goals as goal

pub returns-in_err-read : goal.returns-in_err-read
returns-in_err-read c = let p = err_from_is_err_and c.from_residual.result c.from_residual.ensures.1 in
    λ js r. rw (p.1, p.2) (read_fails (λ (changes : Vec ContentChange Global). changes.items) c.args.tape.now c.args.first c.loop-next.next c.in-Some.item c.loop-next.changes.items c.in_err-read.field-0.0 c.loop-next.invariant c.in-Some.is
    (λ t a. c.in_err-read.ensures t a) js r)

pub loop-next-preserved : goal.loop-next-preserved
loop-next-preserved c = rw c.in_ok-push.ensures.items
    (read_on c.args.tape.now c.args.first c.loop-next.next c.next-next.result c.in-Some.item c.loop-next.changes.items c.in_ok-read.read c.loop-next.invariant c.in-Some.is
    (λ t a. c.in_ok-read.ensures t a) (λ k n t u a. c.next-next.ensures.next k n t u a) c.next-next.ensures.inside)

pub returns : goal.returns
returns c = read_ends c.args.tape.now c.args.first c.loop-next.next c.loop-next.changes.items c.loop-next.invariant c.in_default.is
