use Rattle.std.proofs.Common.{arith}
use Rattle.std.proofs.lemmas.Simd.{zip2_splat}
use lib.Bits.{bit_and}
use Rattle.json_token.specs.Runs.{is_no_space}
use Rattle.json_token.proofs.Lanes.{miss, both_lanes, masked}
use Rattle.json_token.proofs.run.no_spaces.Goals as goal

pub returns : goal.returns
returns c =
    let v = c.args.v in
    let long = c.fits-v.0 in
    masked _ is_no_space v _ (omega arith) c.fits-v.1 (both_lanes bit_and _ _ v (both_lanes bit_and _ _ v (both_lanes bit_and _ _ v (zip2_splat miss v 16 32 long) (zip2_splat miss v 16 9 long)) (zip2_splat miss v 16 10 long)) (zip2_splat miss v 16 13 long)) tt
