-- A string a byte at a time (RFC 8259, section 7; RFC 3629, section 4).
use Rattle.std.specs.Prelude.{ℕ, ◌&&◌, ◌==◌, nat_le, nat_lt, if◌then◌else◌}
use Rattle.json_text.specs.String.{is_hex, is_short}
use Rattle.json_token.specs.declared.string.Part.{Part}
use Rattle.json_token.specs.declared.string.Part.TheVariants.{Plain, Escape, Hex4, Hex3, Hex2, Hex1, Tail1, Tail2, Tail3, AfterE0, AfterEd, AfterF0, AfterF4}
use Rattle.json_token.specs.declared.string.Move.{Move}
use Rattle.json_token.specs.declared.string.Move.TheVariants.{Goes, Ends, Stops}

-- a first byte of UTF-8 that is no ASCII
unfoldable pub lead_move : ℕ → Move
lead_move b = if nat_lt b 194 then Stops else if nat_lt b 224 then Goes Tail1 else if b == 224 then Goes AfterE0 else
    if b == 237 then Goes AfterEd else if nat_lt b 240 then Goes Tail2 else if b == 240 then Goes AfterF0 else
    if nat_lt b 244 then Goes Tail3 else if b == 244 then Goes AfterF4 else Stops

unfoldable pub plain_move : ℕ → Move
plain_move b = if b == 34 then Ends else if b == 92 then Goes Escape else if nat_lt b 32 then Stops else if nat_lt b 128 then Goes Plain else lead_move b

abbrev pub escape_move : ℕ → Move
escape_move b = if b == 117 then Goes Hex4 else if is_short b then Goes Plain else Stops

abbrev pub digit_move : ℕ → Part → Move
digit_move b next = if is_hex b then Goes next else Stops

-- a byte from low to high, of UTF-8's tail
abbrev pub tail_move : ℕ → ℕ → ℕ → Part → Move
tail_move b low high next = if nat_le low b && nat_le b high then Goes next else Stops

-- what the next byte does
abbrev pub string_move : Part → ℕ → Move
string_move Plain b = plain_move b
string_move Escape b = escape_move b
string_move Hex4 b = digit_move b Hex3
string_move Hex3 b = digit_move b Hex2
string_move Hex2 b = digit_move b Hex1
string_move Hex1 b = digit_move b Plain
string_move Tail1 b = tail_move b 128 191 Plain
string_move Tail2 b = tail_move b 128 191 Tail1
string_move Tail3 b = tail_move b 128 191 Tail2
string_move AfterE0 b = tail_move b 160 191 Tail1
string_move AfterEd b = tail_move b 128 159 Tail1
string_move AfterF0 b = tail_move b 144 191 Tail2
string_move AfterF4 b = tail_move b 128 143 Tail2
