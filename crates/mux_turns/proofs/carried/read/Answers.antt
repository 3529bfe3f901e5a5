-- Bytes as a text, if they are one.
use Rattle.json_text.proofs.Laws.{syntax_none, deep_none}
use Rattle.capability_meet.proofs.Reading.{is_read}
use Rattle.mux_turns.proofs.carried.read.Goals as goal

pub returns-in-Ok : goal.returns-in-Ok
returns-in-Ok c = is_read c.in-Ok.tape c.args.bytes.now c.in-Ok.ensures.ok

pub returns-in-Err-Syntax : goal.returns-in-Err-Syntax
returns-in-Err-Syntax c = syntax_none c.args.bytes.now c.in-Err-Syntax.field-0-0 (c.in-Err-Syntax.ensures.syntax c.in-Err-Syntax.field-0-0 cc)

pub returns-in-Err-TooDeep : goal.returns-in-Err-TooDeep
returns-in-Err-TooDeep c = deep_none c.args.bytes.now c.in-Err-TooDeep.field-0-0 (c.in-Err-TooDeep.ensures.too_deep c.in-Err-TooDeep.field-0-0 cc)
