use Rattle.std.proofs.Common.{ℕ, List, sym, subst}
use Rattle.progress_route.specs.Names.{IsKept, Text}
use Rattle.progress_route.proofs.Keeping.{kept_less}
use Rattle.progress_route.proofs.names.Names.remove.Goals as goal

pub invariant_of-self : goal.invariant_of-self
invariant_of-self c =
    subst (λ (rows : List (ℕ × Text)). IsKept rows c.self.inside.next c.remove_text.new.index) (sym c.in-Some.ensures.entries)
    (kept_less c.self.inside.rows.entries c.self.inside.next c.self.inside.index c.self.invariant c.args.number c.in-Some.text c.remove_text.new.index c.in-Some.ensures.value c.remove_text.ensures)
