-- An editor leaves all starts.
use Rattle.std.proofs.Common.{ℕ, List, ◌∙◌, ap}
use Rattle.std.specs.Map.{keys_of}
use Rattle.mux_tokens.specs.Rows.{Rows, left_each}
use Rattle.mux_tokens.proofs.created.Created.forget_editor.Goals as goal

pub returns-clause-table : goal.returns-clause-table
returns-clause-table c = c.leave_each.ensures ∙ (ap (λ (ss : List ℕ). left_each c.args.editor ss c.self.inside.starts.entries) (c.deref.ensures.value ∙ c.in_ok-all.ensures.all) ∙ ap (λ (rows : Rows). left_each c.args.editor (keys_of rows) rows) c.self.view_is)
