use Rattle.std.specs.Str.{chars}
use Rattle.std.proofs.Common.{codes}
use Rattle.json_text.specs.Named.{named_in}
use Rattle.rpc_message.specs.Message.{is_integer_value, is_string_value}
use Rattle.response_route.proofs.Walks.{both_true, one_false}
use Rattle.response_route.proofs.documents.has_version.Goals as goal

pub returns-then-is_string_value : goal.returns-then-is_string_value
unfolding chars
returns-then-is_string_value c = λ t a. both_true (is_string_value (named_in (codes "uri") t)) (is_integer_value (named_in (codes "version") t)) c.is_string_value.result c.is_integer_value.result c.if-is_string_value.true
    (c.is_string_value.ensures (named_in (codes "uri") t) (c.member.ensures.member t a)) (c.is_integer_value.ensures (named_in (codes "version") t) (c.member-then-is_string_value.ensures.member t a))

pub returns-else-is_string_value : goal.returns-else-is_string_value
unfolding chars
returns-else-is_string_value c = λ t a. one_false (is_string_value (named_in (codes "uri") t)) (is_integer_value (named_in (codes "version") t)) c.is_string_value.result c.if-is_string_value.false
    (c.is_string_value.ensures (named_in (codes "uri") t) (c.member.ensures.member t a))
