-- Whether folders are declared.
use Rattle.json_text.proofs.Laws.{syntax_none, deep_none}
use Rattle.capability_meet.proofs.Reading.{is_read}
use Rattle.mux_turns.proofs.Folders.{wants_none, wants_so}
use Rattle.mux_turns.proofs.greeting.wants_folders.Goals as goal

pub returns-in-Err-Syntax : goal.returns-in-Err-Syntax
returns-in-Err-Syntax c = wants_none c.args.declared.now (syntax_none c.args.declared.now c.in-Err-Syntax.field-0-0 (c.in-Err-Syntax.ensures.syntax c.in-Err-Syntax.field-0-0 cc))

pub returns-in-Err-TooDeep : goal.returns-in-Err-TooDeep
returns-in-Err-TooDeep c = wants_none c.args.declared.now (deep_none c.args.declared.now c.in-Err-TooDeep.field-0-0 (c.in-Err-TooDeep.ensures.too_deep c.in-Err-TooDeep.field-0-0 cc))

pub returns : goal.returns
returns c = wants_so c.in-Ok.tape c.args.declared.now c.root.result c.maybe_member-workspace.result c.maybe_member-folders.result c.maybe_kind.result c.is_true.result (is_read c.in-Ok.tape c.args.declared.now c.in-Ok.ensures.ok) c.root.ensures.value c.maybe_member-workspace.ensures.member c.maybe_member-folders.ensures.member c.maybe_kind.ensures c.is_true.ensures
