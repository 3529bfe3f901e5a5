-- The worked examples, by the checker.
use Rattle.std.proofs.Common.{refl, ap, [], ◌++◌, ◌≡◌, length, arith}
use Rattle.std.proofs.lemmas.Fmt.{decimal_digit}
use Rattle.base_frame.specs.Frames.{framed}
use Rattle.std.specs.Prelude.{codes}
use Rattle.base_frame.specs.declared.block.BadWhy.TheVariants.{TwoLengths, NoLength, TooLong}
use Rattle.base_frame.specs.Block.{step}
use Rattle.base_frame.specs.Machine.{front_from}
use Rattle.base_frame.specs.Worked.{Worked}
use Rattle.base_frame.proofs.Ties.{taken, found}

two_bytes : framed (codes "{}") ≡ codes "Content-Length: 2\r\n\r\n{}"
two_bytes = ap (λ d. codes "Content-Length: " ++ (d ++ (codes "\r\n\r\n" ++ codes "{}"))) (decimal_digit 2 (omega arith))

pub worked : Worked
unfolding front_from step
worked = record {
  written = two_bytes;
  written_length = ap length two_bytes;
  small_letters = taken 67108864 (codes "content-length:2\r\nX-Y: z\r\n\r\n{}") (codes "{}") [] refl;
  empty = taken 67108864 (codes "Content-Length: 0\r\n\r\n") [] [] refl;
  two = found 67108864 (codes "Content-Length: 1\r\nContent-Length: 1\r\n\r\nx") 33 TwoLengths refl;
  none = found 67108864 (codes "\r\n") 0 NoLength refl;
  long = found 67108864 (codes "Content-Length: 99999999999") 23 TooLong refl;
}
