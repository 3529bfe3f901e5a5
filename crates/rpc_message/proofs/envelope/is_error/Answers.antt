use Rattle.std.proofs.Common.{codes}
use Rattle.std.specs.Str.{chars}
use Rattle.json_text.specs.Named.{named_in}
use Rattle.rpc_message.proofs.KindTests.{error_and, error_not}
use Rattle.rpc_message.proofs.envelope.is_error.Goals as goal

pub returns-then-is_integer_value : goal.returns-then-is_integer_value
returns-then-is_integer_value c = λ t a. error_and t c.is_integer_value.result c.is_string_value.result
    (c.is_integer_value.ensures (named_in (chars (codes "code")) t) (c.member.ensures.member t a))
    (c.is_string_value.ensures (named_in (chars (codes "message")) t) (c.member-then-is_integer_value.ensures.member t a)) c.if-is_integer_value.true

pub returns-else-is_integer_value : goal.returns-else-is_integer_value
returns-else-is_integer_value c = λ t a. error_not t c.is_integer_value.result (c.is_integer_value.ensures (named_in (chars (codes "code")) t) (c.member.ensures.member t a)) c.if-is_integer_value.false
