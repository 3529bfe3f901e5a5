use Rattle.std.proofs.Common.{refl}
use Rattle.json_text.proofs.Laws.{syntax_none, deep_none}
use Rattle.mux_config.proofs.Ceilings.{object_read}
use Rattle.mux_config.proofs.values.is_object.Goals as goal

pub returns-in-Ok : goal.returns-in-Ok
returns-in-Ok c = object_read c.in-Ok.tape c.args.bytes.now c.holds_object.result c.in-Ok.ensures.ok c.holds_object.ensures

pub returns-in-Err-Syntax : goal.returns-in-Err-Syntax
returns-in-Err-Syntax c = rw (syntax_none c.args.bytes.now c.in-Err-Syntax.field-0-0 (c.in-Err-Syntax.ensures.syntax c.in-Err-Syntax.field-0-0 cc)) refl

pub returns-in-Err-TooDeep : goal.returns-in-Err-TooDeep
returns-in-Err-TooDeep c = rw (deep_none c.args.bytes.now c.in-Err-TooDeep.field-0-0 (c.in-Err-TooDeep.ensures.too_deep c.in-Err-TooDeep.field-0-0 cc)) refl
