-- A number a byte at a time (RFC 8259, section 6).
use Rattle.std.specs.Prelude.{ℕ, Bool, true, false, ◌&&◌, ◌||◌, ◌==◌, nat_le, if◌then◌else◌}
use Rattle.std.specs.Prelude.{Option, Some, None}
use Rattle.json_token.specs.declared.number.NumberPart.{NumberPart}
use Rattle.json_token.specs.declared.number.NumberPart.TheVariants as part
use Rattle.json_token.specs.declared.number.NumberMove.{NumberMove}
use Rattle.json_token.specs.declared.number.NumberMove.TheVariants.{Goes, Ends, Stops}
use Rattle.json_token.specs.declared.number.NumberByte.{NumberByte}
use Rattle.json_token.specs.declared.number.NumberByte.TheVariants as byte

-- what a byte is to a number
unfoldable pub number_byte : ℕ → NumberByte
number_byte b = if b == 48 then byte.Zero else if nat_le 49 b && nat_le b 57 then byte.OneToNine else if b == 46 then byte.Point else
    if (b == 101) || (b == 69) then byte.Letter else if b == 43 then byte.Plus else if b == 45 then byte.Minus else byte.Other

abbrev pub begin_with : NumberByte → Option NumberPart
begin_with byte.Zero = Some part.Zero
begin_with byte.OneToNine = Some part.Whole
begin_with byte.Point = None
begin_with byte.Letter = None
begin_with byte.Plus = None
begin_with byte.Minus = Some part.Minus
begin_with byte.Other = None

-- the part that a number's first byte begins
abbrev pub number_begin : ℕ → Option NumberPart
number_begin b = begin_with (number_byte b)

abbrev pub after_minus : NumberByte → NumberMove
after_minus byte.Zero = Goes part.Zero
after_minus byte.OneToNine = Goes part.Whole
after_minus byte.Point = Stops
after_minus byte.Letter = Stops
after_minus byte.Plus = Stops
after_minus byte.Minus = Stops
after_minus byte.Other = Stops

abbrev pub after_zero : NumberByte → NumberMove
after_zero byte.Zero = Stops
after_zero byte.OneToNine = Stops
after_zero byte.Point = Goes part.Point
after_zero byte.Letter = Goes part.Letter
after_zero byte.Plus = Stops
after_zero byte.Minus = Stops
after_zero byte.Other = Ends

abbrev pub after_whole : NumberByte → NumberMove
after_whole byte.Zero = Goes part.Whole
after_whole byte.OneToNine = Goes part.Whole
after_whole byte.Point = Goes part.Point
after_whole byte.Letter = Goes part.Letter
after_whole byte.Plus = Stops
after_whole byte.Minus = Stops
after_whole byte.Other = Ends

abbrev pub after_point : NumberByte → NumberMove
after_point byte.Zero = Goes part.Fraction
after_point byte.OneToNine = Goes part.Fraction
after_point byte.Point = Stops
after_point byte.Letter = Stops
after_point byte.Plus = Stops
after_point byte.Minus = Stops
after_point byte.Other = Stops

abbrev pub after_fraction : NumberByte → NumberMove
after_fraction byte.Zero = Goes part.Fraction
after_fraction byte.OneToNine = Goes part.Fraction
after_fraction byte.Point = Stops
after_fraction byte.Letter = Goes part.Letter
after_fraction byte.Plus = Stops
after_fraction byte.Minus = Stops
after_fraction byte.Other = Ends

abbrev pub after_letter : NumberByte → NumberMove
after_letter byte.Zero = Goes part.Exponent
after_letter byte.OneToNine = Goes part.Exponent
after_letter byte.Point = Stops
after_letter byte.Letter = Stops
after_letter byte.Plus = Goes part.Sign
after_letter byte.Minus = Goes part.Sign
after_letter byte.Other = Stops

abbrev pub after_sign : NumberByte → NumberMove
after_sign byte.Zero = Goes part.Exponent
after_sign byte.OneToNine = Goes part.Exponent
after_sign byte.Point = Stops
after_sign byte.Letter = Stops
after_sign byte.Plus = Stops
after_sign byte.Minus = Stops
after_sign byte.Other = Stops

abbrev pub after_exponent : NumberByte → NumberMove
after_exponent byte.Zero = Goes part.Exponent
after_exponent byte.OneToNine = Goes part.Exponent
after_exponent byte.Point = Stops
after_exponent byte.Letter = Stops
after_exponent byte.Plus = Stops
after_exponent byte.Minus = Stops
after_exponent byte.Other = Ends

-- what a byte of this class does behind a part
abbrev pub number_moved : NumberPart → NumberByte → NumberMove
number_moved part.Minus k = after_minus k
number_moved part.Zero k = after_zero k
number_moved part.Whole k = after_whole k
number_moved part.Point k = after_point k
number_moved part.Fraction k = after_fraction k
number_moved part.Letter k = after_letter k
number_moved part.Sign k = after_sign k
number_moved part.Exponent k = after_exponent k

-- what the next byte does
abbrev pub number_move : NumberPart → ℕ → NumberMove
number_move p b = number_moved p (number_byte b)

-- whether a number may end after this part
abbrev pub number_may_end : NumberPart → Bool
number_may_end part.Minus = false
number_may_end part.Zero = true
number_may_end part.Whole = true
number_may_end part.Point = false
number_may_end part.Fraction = true
number_may_end part.Letter = false
number_may_end part.Sign = false
number_may_end part.Exponent = true
