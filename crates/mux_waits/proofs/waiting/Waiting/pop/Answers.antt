use Rattle.std.proofs.Common.{◌∙◌, ap, drop, refl, subst}
use Rattle.mux_waits.specs.Rows.{Becomes, Rows, held_of}
use Rattle.mux_waits.proofs.Rows.{held_edited}
use Rattle.mux_waits.proofs.waiting.Waiting.pop.Goals as goal

pub returns : goal.returns
returns c = subst (λ (rows : Rows). Becomes c.args.g (drop 1) rows c.sweep.new.groups.entries) c.self.view_is
    (λ n. c.sweep.ensures n ∙ (ap (held_of n) c.drop_first.ensures ∙ held_edited c.args.g (drop 1) c.self.inside.groups.entries refl n))
