-- Worked examples, under the built-in limit of 67,108,864 bytes.
use Rattle.std.specs.Prelude.{◌≡◌, ℕ, List, [], length, codes}
use Rattle.base_frame.specs.declared.block.BadWhy.{BadWhy}
use Rattle.base_frame.specs.declared.block.BadWhy.TheVariants.{TwoLengths, NoLength, TooLong}
use Rattle.base_frame.specs.Grammar.{IsFrame, IsFault}
use Rattle.base_frame.specs.Frames.{framed}

abbrev pub Frame : List ℕ → List ℕ → Type 0
Frame bs content = IsFrame 67108864 bs content []

abbrev pub Fault : List ℕ → ℕ → BadWhy → Type 0
Fault bs at why = IsFault 67108864 bs at why

pub record Worked : Type 0 where
  pub written : framed (codes "{}") ≡ codes "Content-Length: 2\r\n\r\n{}"
  pub written_length : length (framed (codes "{}")) ≡ 23
  pub small_letters : Frame (codes "content-length:2\r\nX-Y: z\r\n\r\n{}") (codes "{}")
  pub empty : Frame (codes "Content-Length: 0\r\n\r\n") []
  pub two : Fault (codes "Content-Length: 1\r\nContent-Length: 1\r\n\r\nx") 33 TwoLengths
  pub none : Fault (codes "\r\n") 0 NoLength
  pub long : Fault (codes "Content-Length: 99999999999") 23 TooLong
