use Rattle.std.proofs.Common.{◌∙◌, ap, filter, not, refl, subst, sym}
use Rattle.held_requests.specs.Tables.{is_of}
use Rattle.mux_waits.specs.Rows.{Becomes, BecomesAt, Rows, held_of}
use Rattle.mux_waits.proofs.Rows.{held_edited}
use Rattle.mux_waits.proofs.waiting.Waiting.leave.Goals as goal

pub returns-in-Some : goal.returns-in-Some
returns-in-Some c = subst (λ home. BecomesAt home (filter (λ r. not (is_of c.args.editor r))) c.args.self.now c.sweep.new.groups.entries) (sym c.in-Some.is)
    (subst (λ (rows : Rows). Becomes c.in-Some.g (filter (λ r. not (is_of c.args.editor r))) rows c.sweep.new.groups.entries) c.self.view_is
    (λ n. c.sweep.ensures n ∙ (ap (held_of n) c.drop_editor.ensures ∙ held_edited c.in-Some.g (filter (λ r. not (is_of c.args.editor r))) c.self.inside.groups.entries refl n)))
