-- Places in a text, after the Language Server Protocol 3.17, "Text Documents" and "Position".
use Rattle.std.specs.Prelude.{ℕ, suc, zero, ◌+◌, ◌-◌, List, [], ◌∷◌, length, if◌then◌else◌, ◌==◌, nat_lt}
use Rattle.std.specs.Char.{len_utf8}
use Rattle.std.specs.Char.Escape.{encode_utf16}
use Rattle.position_codec.specs.declared.Encoding.{Encoding}
use Rattle.position_codec.specs.declared.Encoding.TheVariants.{Utf8, Utf16, Utf32}

-- what ends a line: `\n`, `\r\n`, or a `\r` that no `\n` follows
pub data Ending : Type 0 where
  feed : Ending
  return_feed : Ending
  return : Ending

-- the lines of a text: the characters of each, what ends it, and the lines after it
pub data Lines : Type 0 where
  last : List ℕ → Lines
  line : List ℕ → Ending → Lines → Lines

-- the lines of a text that begins with this character, which ends no line, and goes on with these lines
abbrev pub with_character : ℕ → Lines → Lines
with_character c (last cs) = last (c ∷ cs)
with_character c (line cs e ls) = line (c ∷ cs) e ls

-- the lines of a text that begins with `\r` and goes on with these lines: a `\n` at their head belongs to it
abbrev pub with_return : Lines → Lines
with_return (line [] feed ls) = line [] return_feed ls
with_return ls = line [] return ls

abbrev pub with_first : ℕ → Lines → Lines
with_first c ls =
    if c == 10 then line [] feed ls else (if c == 13 then with_return ls else with_character c ls)

-- the lines of a text, by its characters
abbrev pub lines : List ℕ → Lines
lines [] = last []
lines (c ∷ cs) = with_first c (lines cs)

-- how many bytes these characters take
abbrev pub bytes : List ℕ → ℕ
bytes [] = 0
bytes (c ∷ cs) = len_utf8 c + bytes cs

abbrev pub ending_bytes : Ending → ℕ
ending_bytes feed = 1
ending_bytes return_feed = 2
ending_bytes return = 1

-- for how much a character counts
abbrev pub units : Encoding → ℕ → ℕ
units Utf8 c = len_utf8 c
units Utf16 c = length (encode_utf16 c)
units Utf32 c = 1

-- how many bytes the most characters take, from the first on, that count for at most n
abbrev pub offset_in : Encoding → ℕ → List ℕ → ℕ
offset_in e n [] = 0
offset_in e n (c ∷ cs) = if nat_lt n (units e c) then 0 else (len_utf8 c + offset_in e (n - units e c) cs)

-- the offset of the n-th unit of the k-th line; of a line past the last, the end of the text
abbrev pub offset_at : Encoding → ℕ → ℕ → Lines → ℕ
offset_at e zero n (last cs) = offset_in e n cs
offset_at e zero n (line cs end ls) = offset_in e n cs
offset_at e (suc k) n (last cs) = bytes cs
offset_at e (suc k) n (line cs end ls) = bytes cs + (ending_bytes end + offset_at e k n ls)

-- where the lines start, if the first starts here
abbrev pub starts : ℕ → Lines → List ℕ
starts at (last cs) = at ∷ []
starts at (line cs end ls) = at ∷ starts (at + (bytes cs + ending_bytes end)) ls
