use Rattle.std.proofs.Common.{[], ◌∷◌, ◌++◌, ◌∙◌, ap, subst}
use Rattle.held_requests.specs.Tables.{asked}
use Rattle.mux_waits.specs.Rows.{Becomes, Rows, held_of}
use Rattle.mux_waits.proofs.Rows.{held_changed}
use Rattle.mux_waits.proofs.waiting.Waiting.put.Goals as goal

pub returns : goal.returns
returns c = subst (λ (rows : Rows). Becomes c.args.g (λ rs. rs ++ asked c.args.editor c.args.id c.args.body ∷ []) rows c.add.new.groups.entries) c.self.view_is
    (λ n. ap (held_of n) c.in_ok-add.ensures ∙ held_changed c.args.g (λ rs. rs ++ asked c.args.editor c.args.id c.args.body ∷ []) c.self.inside.groups.entries n)
