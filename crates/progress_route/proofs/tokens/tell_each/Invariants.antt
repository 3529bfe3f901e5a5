use Rattle.std.proofs.Common.{◌≡◌, drop}
use Rattle.progress_route.specs.Tells.{told_each}
use Rattle.progress_route.proofs.tokens.tell_each.Given as goal

abbrev pub invariant-loop-editor : goal.invariant-loop-editor
invariant-loop-editor l = told_each l.token l.body l.kind (drop l.editor-index l.all) l.editors.entries ≡ told_each l.token l.body l.kind l.all l.fn.editors.entries
