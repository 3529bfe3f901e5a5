use Rattle.std.proofs.Common.{refl}
use Rattle.std.proofs.lemmas.Result.{err_from_is_err_and}
use Rattle.json_span.proofs.Tapes.{read_holds, some_holds, only_memory, is_syntax_fault, is_depth_fault}
use Rattle.json_span.proofs.tape.Tape.read.Goals as goal

pub returns-in_err-nodes-clause-only : goal.returns-in_err-nodes-clause-only
returns-in_err-nodes-clause-only c =
    let p = err_from_is_err_and c.from_residual.result c.from_residual.ensures.1 in
    λ j text fits. rw (p.1, p.2) (only_memory c.args.bytes.now j c.in_err-nodes.field-0.0 c.in_err-nodes.ensures text fits)

pub returns-in_err-nodes-clause-syntax : goal.returns-in_err-nodes-clause-syntax
returns-in_err-nodes-clause-syntax c =
    let p = err_from_is_err_and c.from_residual.result c.from_residual.ensures.1 in
    rw (p.1, p.2) (λ place is. is_syntax_fault c.args.bytes.now c.in_err-nodes.field-0.0 place c.in_err-nodes.ensures cc)

pub returns-in_err-nodes-clause-too_deep : goal.returns-in_err-nodes-clause-too_deep
returns-in_err-nodes-clause-too_deep c =
    let p = err_from_is_err_and c.from_residual.result c.from_residual.ensures.1 in
    rw (p.1, p.2) (λ place is. is_depth_fault c.args.bytes.now c.in_err-nodes.field-0.0 place c.in_err-nodes.ensures cc)

pub returns-clause-ok : goal.returns-clause-ok
returns-clause-ok c = (refl, some_holds c.args.bytes.now c.in_ok-nodes.nodes.items c.in_ok-nodes.ensures)

pub returns-clause-only : goal.returns-clause-only
returns-clause-only c = λ j text fits. read_holds c.args.bytes.now c.in_ok-nodes.nodes.items j c.in_ok-nodes.ensures text fits

pub invariant_of-result : goal.invariant_of-result
invariant_of-result c = some_holds c.args.bytes.now c.in_ok-nodes.nodes.items c.in_ok-nodes.ensures
