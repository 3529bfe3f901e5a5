-- The editor left those before.
use Rattle.std.proofs.Common.{◌≡◌, drop}
use Rattle.mux_tokens.specs.Rows.{left_each}
use Rattle.mux_tokens.proofs.created.leave_each.Given as goal

abbrev pub invariant-loop-s : goal.invariant-loop-s
invariant-loop-s l = left_each l.editor (drop l.s-index l.all) l.starts.entries ≡ left_each l.editor l.all l.fn.starts.entries
