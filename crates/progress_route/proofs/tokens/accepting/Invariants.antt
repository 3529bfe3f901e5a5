use Rattle.std.proofs.Common.{◌≡◌, ◌++◌}
use Rattle.progress_route.specs.Tables.{accepting}
use Rattle.progress_route.proofs.tokens.accepting.Given as goal

abbrev pub invariant-loop-editor : goal.invariant-loop-editor
invariant-loop-editor l = l.found.items ++ accepting l.token l.editor-iterator ≡ accepting l.token l.editors.entries
