use Rattle.std.proofs.Common.{ℕ, List, sym, subst}
use Rattle.ask_route.specs.declared.ask.Ask.{Ask}
use Rattle.std.specs.Ordering.{nat_cmp}
use Rattle.std.specs.BTreeMap.{is_at}
use Rattle.ask_route.specs.Rows.{IsKept, Rise}
use Rattle.ask_route.proofs.Keeping.{kept_less, rise_less}
use Rattle.ask_route.proofs.rows.Rows.take.Goals as goal

pub invariant_of-self-2 : goal.invariant_of-self-2
invariant_of-self-2 c =
    subst (λ (rows : List (ℕ × Ask)). IsKept rows c.self.inside.next c.remove-2.new.self.by_id c.remove-2.new.self.by_number c.remove-2.new.self.by_editor) (sym c.in_ok-ask.ensures.entries)
    (kept_less c.self.inside.rows.entries c.self.inside.next c.self.inside.numbers.by_id c.self.inside.numbers.by_number c.self.inside.numbers.by_editor c.self.invariant c.args.number c.in_ok-ask.ask c.remove-2.new.self.by_id c.remove-2.new.self.by_number c.remove-2.new.self.by_editor
    c.in_ok-ask.ensures.value c.remove-2.ensures.ids c.remove-2.ensures.numbers c.remove-2.ensures.editors)

pub returns-clause-rise : goal.returns-clause-rise
returns-clause-rise c = subst (λ (rows : List (ℕ × Ask)). Rise 0 c.self.inside.next rows) (sym c.in_ok-ask.ensures.entries) (rise_less (is_at (nat_cmp c.args.number)) 0 c.self.inside.next c.self.inside.rows.entries c.self.invariant.rise)
