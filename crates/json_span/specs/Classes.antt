-- What a byte is between the tokens of RFC 8259, section 2.
use Rattle.std.specs.Prelude.{ℕ, ◌==◌, if◌then◌else◌}
use Rattle.std.specs.Prelude.{Option, Some, None}
use Rattle.json_text.specs.Json.{is_space}
use Rattle.json_token.specs.declared.number.NumberPart.{NumberPart}
use Rattle.json_token.specs.NumberMoves.{number_begin}
use Rattle.json_span.specs.declared.word.Begun.TheVariants.{N, F, T}
use Rattle.json_span.specs.declared.class.Class.{Class}
use Rattle.json_span.specs.declared.class.Class.TheVariants.{Space, Quote, Colon, Comma, OpenArray, CloseArray, OpenObject, CloseObject, Begins, Number, Other}

abbrev pub class_of_number : Option NumberPart → Class
class_of_number (Some p) = Number p
class_of_number None = Other

unfoldable pub class_of : ℕ → Class
class_of b = if is_space b then Space else if b == 34 then Quote else if b == 58 then Colon else if b == 44 then Comma else
    if b == 91 then OpenArray else if b == 93 then CloseArray else if b == 123 then OpenObject else if b == 125 then CloseObject else
    if b == 110 then Begins N else if b == 102 then Begins F else if b == 116 then Begins T else class_of_number (number_begin b)
