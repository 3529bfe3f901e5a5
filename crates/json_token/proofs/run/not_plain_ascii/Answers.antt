use Rattle.std.proofs.Common.{arith}
use Rattle.std.proofs.lemmas.Simd.{zip2_splat}
use lib.Bits.{bit_or}
use Rattle.json_token.specs.Runs.{is_not_plain_ascii}
use Rattle.json_token.proofs.Lanes.{hit, at_most, less_by, both_lanes, from_splat, masked}
use Rattle.json_token.proofs.run.not_plain_ascii.Goals as goal

pub returns : goal.returns
returns c =
    let v = c.args.v in
    let long = c.fits-v.0 in
    masked _ is_not_plain_ascii v _ (omega arith) c.fits-v.1 (both_lanes bit_or _ _ v (both_lanes bit_or _ _ v (zip2_splat hit v 16 34 long) (zip2_splat hit v 16 92 long)) (from_splat at_most _ 96 16 v long (zip2_splat less_by v 16 32 long))) tt
