use Rattle.std.proofs.Common.{◌∙◌}
use Rattle.json_span.proofs.Passed.{text_passed, key_passed}
use Rattle.json_span.proofs.reader.plain_run_end.Goals as goal

pub returns-then-bytes-end-ge128-clause-text : goal.returns-then-bytes-end-ge128-clause-text
returns-then-bytes-end-ge128-clause-text c = λ from name os ns. c.characters_end.ensures.text from name os ns ∙ text_passed c.args.bytes.now c.args.at c.plain_ascii_end-end.result c.plain_ascii_end-end.ensures.value from name os ns

pub returns-then-bytes-end-ge128-clause-key : goal.returns-then-bytes-end-ge128-clause-key
returns-then-bytes-end-ge128-clause-key c = λ from name os ns. c.characters_end.ensures.key from name os ns ∙ key_passed c.args.bytes.now c.args.at c.plain_ascii_end-end.result c.plain_ascii_end-end.ensures.value from name os ns

pub returns-else-end-bytes-clause-text : goal.returns-else-end-bytes-clause-text
returns-else-end-bytes-clause-text c = text_passed c.args.bytes.now c.args.at c.plain_ascii_end-end.result c.plain_ascii_end-end.ensures.value

pub returns-else-end-bytes-clause-key : goal.returns-else-end-bytes-clause-key
returns-else-end-bytes-clause-key c = key_passed c.args.bytes.now c.args.at c.plain_ascii_end-end.result c.plain_ascii_end-end.ensures.value
