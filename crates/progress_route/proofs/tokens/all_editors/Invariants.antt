use Rattle.std.proofs.Common.{◌≡◌, ◌++◌}
use Rattle.std.specs.Map.{keys_of}
use Rattle.progress_route.proofs.tokens.all_editors.Given as goal

abbrev pub invariant-loop-editor : goal.invariant-loop-editor
invariant-loop-editor l = l.all.items ++ l.editor-iterator ≡ keys_of l.editors.entries
