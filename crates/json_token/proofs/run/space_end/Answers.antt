use Rattle.std.proofs.Common.{sym, ap, ◌∙◌, arith}
use lib.Count.{count_trailing_zeros}
use Rattle.json_text.specs.Json.{is_space}
use Rattle.json_token.specs.Runs.{is_no_space}
use Rattle.json_token.proofs.Runs.{run_bound, not-not, run_through, run_stops}
use Rattle.json_token.proofs.run.space_end.Goals as goal

pub returns-then-found-ne0-clause-value : goal.returns-then-found-ne0-clause-value
returns-then-found-ne0-clause-value c =
    let found = c.no_spaces-found in
    let run = run_stops is_no_space is_space (λ x. not-not (is_space x)) c.args.bytes.now c.loop-at.at 16 (omega arith) (omega arith) (omega (arith, found.ensures)) ∙ ap (count_trailing_zeros 64) (sym found.ensures) in
    omega (arith, run, c.loop-at.invariant.0)

pub returns-then-found-ne0-clause-bound : goal.returns-then-found-ne0-clause-bound
returns-then-found-ne0-clause-bound c =
    let found = c.no_spaces-found in
    let run = run_stops is_no_space is_space (λ x. not-not (is_space x)) c.args.bytes.now c.loop-at.at 16 (omega arith) (omega arith) (omega (arith, found.ensures)) ∙ ap (count_trailing_zeros 64) (sym found.ensures) in
    omega (arith, run, run_bound is_space c.args.bytes.now c.loop-at.at c.loop-at.invariant.1)

pub loop-at-preserved : goal.loop-at-preserved
loop-at-preserved c =
    let run = run_through is_no_space is_space (λ x. not-not (is_space x)) c.args.bytes.now c.loop-at.at 16 (omega arith) (omega (arith, c.no_spaces-found.ensures)) in
    (omega (arith, run, c.loop-at.invariant.0), omega arith)

pub returns-clause-bound : goal.returns-clause-bound
returns-clause-bound c = omega (arith, run_bound is_space c.args.bytes.now c.loop-at.at c.loop-at.invariant.1)
