-- A header block, a byte at a time (LSP 3.17, Base Protocol, Header Part).
use Rattle.std.specs.Prelude.{ℕ, ◌+◌, ◌-◌, ◌*◌, Bool, ◌&&◌, ◌||◌, not, ◌==◌, nat_le, nat_lt, if◌then◌else◌, codes, slice_get}
use Rattle.std.specs.Prelude.{Option, Some, None, is_none}
use Rattle.base_frame.specs.declared.block.BadWhy.TheVariants.{Byte, TwoLengths, NoLength, TooLong, LongHeader}
use Rattle.base_frame.specs.declared.block.Part.{Part}
use Rattle.base_frame.specs.declared.block.Part.TheVariants.{Start, LengthName, OtherName, Value, Before, Digits, After, LineEnd, BlockEnd}
use Rattle.base_frame.specs.declared.block.State.{State}
use Rattle.base_frame.specs.declared.block.Move.{Move}
use Rattle.base_frame.specs.declared.block.Move.TheVariants.{Goes, Ends, Bad}

-- a byte of a name: from 0x21 to 0x7E, and no colon
abbrev pub is_name_byte : ℕ → Bool
is_name_byte b = nat_le 33 b && nat_le b 126 && not (b == 58)

-- a byte of a value: a tab, from 0x20 to 0x7E, or from 0x80 on
abbrev pub is_value_byte : ℕ → Bool
is_value_byte b = (b == 9) || (nat_le 32 b && not (b == 127))

abbrev pub is_space : ℕ → Bool
is_space b = (b == 32) || (b == 9)

abbrev pub is_digit : ℕ → Bool
is_digit b = nat_le 48 b && nat_le b 57

-- an ASCII letter in small
abbrev pub small : ℕ → ℕ
small b = if nat_le 65 b && nat_le b 90 then b + 32 else b

abbrev pub goes : Part → Option ℕ → Move
goes part length = Goes (record { part = part; length = length })

-- a letter of a name that so far is so many letters of Content-Length, where the next of them is wanted
abbrev pub letter_goes : Option ℕ → ℕ → ℕ → Option ℕ → Move
letter_goes None letters b length = goes OtherName length
letter_goes (Some wanted) letters b length = if (wanted == small b) && nat_lt letters 14 then goes (LengthName (letters + 1)) length else goes OtherName length

abbrev pub lettered : ℕ → ℕ → Option ℕ → Move
lettered letters b length = letter_goes (slice_get (codes "content-length") letters) letters b length

abbrev pub named : ℕ → ℕ → Option ℕ → Move
named letters b length = if is_name_byte b then lettered letters b length else Bad Byte

-- the front of a line: a name, or the empty line
abbrev pub at_start : ℕ → Option ℕ → Move
at_start b length = if b == 13 then (if is_none length then Bad NoLength else goes BlockEnd length) else named 0 b length

-- the colon behind so many letters of Content-Length, which are 14 in all
abbrev pub at_colon : ℕ → Option ℕ → Move
at_colon letters length = if letters == 14 then (if is_none length then goes Before length else Bad TwoLengths) else goes Value length

abbrev pub in_value : ℕ → Option ℕ → Move
in_value b length = if b == 13 then goes LineEnd length else if is_value_byte b then goes Value length else Bad Byte

abbrev pub value_of : Option ℕ → ℕ
value_of None = 0
value_of (Some n) = n

-- a digit of the length
abbrev pub at_digit : ℕ → ℕ → Option ℕ → Move
at_digit limit b length = if is_digit b then (if nat_le (value_of length * 10 + (b - 48)) limit then goes Digits (Some (value_of length * 10 + (b - 48))) else Bad TooLong) else Bad Byte

-- a byte behind a digit of the length
abbrev pub in_length : ℕ → ℕ → Option ℕ → Move
in_length limit b length = if b == 13 then goes LineEnd length else if is_space b then goes After length else at_digit limit b length

abbrev pub in_length_name : ℕ → ℕ → Option ℕ → Move
in_length_name letters b length = if b == 58 then at_colon letters length else named letters b length

abbrev pub in_other_name : ℕ → Option ℕ → Move
in_other_name b length = if b == 58 then goes Value length else if is_name_byte b then goes OtherName length else Bad Byte

abbrev pub before_digits : ℕ → ℕ → Option ℕ → Move
before_digits limit b length = if is_space b then goes Before length else at_digit limit b length

abbrev pub after_digits : ℕ → Option ℕ → Move
after_digits b length = if is_space b then goes After length else if b == 13 then goes LineEnd length else Bad Byte

abbrev pub at_line_end : ℕ → Option ℕ → Move
at_line_end b length = if b == 10 then goes Start length else Bad Byte

-- the end of the block: a content of that length comes next
abbrev pub at_block_end : ℕ → Option ℕ → Move
at_block_end b length = if b == 10 then Ends (value_of length) else Bad Byte

abbrev pub part_step : ℕ → ℕ → Option ℕ → Part → Move
part_step limit b length Start = at_start b length
part_step limit b length (LengthName letters) = in_length_name letters b length
part_step limit b length OtherName = in_other_name b length
part_step limit b length Value = in_value b length
part_step limit b length Before = before_digits limit b length
part_step limit b length Digits = in_length limit b length
part_step limit b length After = after_digits b length
part_step limit b length LineEnd = at_line_end b length
part_step limit b length BlockEnd = at_block_end b length

-- what this byte, at this place of a block, does
unfoldable pub step : ℕ → ℕ → ℕ → State → Move
step limit at b s = if nat_le 4096 at then Bad LongHeader else part_step limit b s.length s.part

abbrev pub start : State
start = record { part = Start; length = None }
