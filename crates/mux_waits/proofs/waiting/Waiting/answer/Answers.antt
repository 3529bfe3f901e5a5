use Rattle.std.proofs.Common.{◌∙◌, ap, refl, subst, sym}
use Rattle.held_requests.specs.Tables.{is_under}
use Rattle.numbered_rows.specs.Rows.{less}
use Rattle.mux_waits.specs.Rows.{Becomes, BecomesAt, Rows, held_of}
use Rattle.mux_waits.proofs.Rows.{held_edited}
use Rattle.mux_waits.proofs.waiting.Waiting.answer.Goals as goal

pub returns-in-Some : goal.returns-in-Some
returns-in-Some c = subst (λ home. BecomesAt home (less (is_under c.args.editor c.args.id.now)) c.args.self.now c.sweep.new.groups.entries) (sym c.in-Some.is)
    (subst (λ (rows : Rows). Becomes c.in-Some.g (less (is_under c.args.editor c.args.id.now)) rows c.sweep.new.groups.entries) c.self.view_is
    (λ n. c.sweep.ensures n ∙ (ap (held_of n) c.drop_under.ensures ∙ held_edited c.in-Some.g (less (is_under c.args.editor c.args.id.now)) c.self.inside.groups.entries refl n)))
