use Rattle.std.proofs.Common.{arith}
use Rattle.json_span.proofs.Passed.{text_crossed, key_crossed}
use Rattle.json_span.proofs.reader.characters_end.Goals as goal

pub returns-then-is_part-clause-text : goal.returns-then-is_part-clause-text
returns-then-is_part-clause-text c =
    let end = c.plain_end-end in
    text_crossed c.args.bytes.now c.args.at end.result (omega (arith, end.ensures.value)) (omega (arith, end.ensures.value)) (c.is_part.ensures cc)

pub returns-then-is_part-clause-key : goal.returns-then-is_part-clause-key
returns-then-is_part-clause-key c =
    let end = c.plain_end-end in
    key_crossed c.args.bytes.now c.args.at end.result (omega (arith, end.ensures.value)) (omega (arith, end.ensures.value)) (c.is_part.ensures cc)
