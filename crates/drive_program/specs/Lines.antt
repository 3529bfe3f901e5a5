-- The lines of an input. Each ends with a line feed; the last may lack it, if it isn't empty.
use Rattle.std.specs.Prelude.{◌≡◌, ℕ, ◌+◌, ◌*◌, false, List, [], ◌∷◌, ◌++◌, nat_eq, if◌then◌else◌}

-- a line without its line feed, and how many bytes of the input were read up to its end, with its line feed
pub record Line : Type 0 where
  pub bytes : List ℕ
  pub upto : ℕ

-- the most bytes of a line in a form: `ed` or `sv`, a number of 20 digits, and a body of so many bytes, each written by two
abbrev pub longest : ℕ → ℕ
longest content = 24 + 2 * content

-- a byte put before the first line; where there is none, it is a line that ends behind the byte
abbrev pub onto_first : ℕ → ℕ → List Line → List Line
onto_first at b [] = record { bytes = b ∷ []; upto = at } ∷ []
onto_first at b (line ∷ lines) = record { bytes = b ∷ line.bytes; upto = line.upto } ∷ lines

-- the lines of these bytes, which stand behind so many others
abbrev pub lines_from : ℕ → List ℕ → List Line
lines_from at [] = []
lines_from at (b ∷ bytes) = if nat_eq b 10 then record { bytes = []; upto = at + 1 } ∷ lines_from (at + 1) bytes else onto_first (at + 1) b (lines_from (at + 1) bytes)

abbrev pub lines_of : List ℕ → List Line
lines_of input = lines_from 0 input

-- the lines that end in these bytes: what stands behind the last line feed isn't one of them
abbrev pub before_first : ℕ → List Line → List Line
before_first b [] = []
before_first b (line ∷ lines) = record { bytes = b ∷ line.bytes; upto = line.upto } ∷ lines

abbrev pub ended_from : ℕ → List ℕ → List Line
ended_from at [] = []
ended_from at (b ∷ bytes) = if nat_eq b 10 then record { bytes = []; upto = at + 1 } ∷ ended_from (at + 1) bytes else before_first b (ended_from (at + 1) bytes)

abbrev pub ended_lines : List ℕ → List Line
ended_lines bytes = ended_from 0 bytes

-- none of the bytes is a line feed
abbrev pub NoFeed : List ℕ → Type 0
NoFeed [] = Unit {0}
NoFeed (b ∷ bytes) = (nat_eq b 10 ≡ false) × NoFeed bytes

-- bytes without a line feed put before the first line; where there is none, they are a line that ends here
abbrev pub onto_line : ℕ → List ℕ → List Line → List Line
onto_line at [] lines = lines
onto_line at (b ∷ piece) [] = record { bytes = b ∷ piece; upto = at } ∷ []
onto_line at (b ∷ piece) (line ∷ lines) = record { bytes = b ∷ piece ++ line.bytes; upto = line.upto } ∷ lines
