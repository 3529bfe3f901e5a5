use Rattle.json_text.specs.Json.{span_of}
use Rattle.rpc_message.proofs.KindTests.{number_id, text_id, no_id}
use Rattle.rpc_message.proofs.envelope.is_id.Goals as goal

pub returns-in-Number : goal.returns-in-Number
returns-in-Number c = λ t a. number_id t c.kind.result c.is_integer.result (span_of t).from c.bytes.result.now c.in-Number.is (c.kind.ensures t a) (c.bytes.ensures.spelled t a) c.is_integer.ensures

pub returns-in-Text : goal.returns-in-Text
returns-in-Text c = λ t a. text_id t c.kind.result c.in-Text.is (c.kind.ensures t a)

pub returns-in_default : goal.returns-in_default
returns-in_default c = λ t a. no_id t c.kind.result c.in_default.not-Number c.in_default.not-Text (c.kind.ensures t a)
