use Rattle.std.proofs.Common.{ℕ, List, sym, subst}
use Rattle.std.specs.Ordering.{nat_cmp}
use Rattle.std.specs.BTreeMap.{is_at}
use Rattle.numbered_rows.specs.Rows.{Rise}
use Rattle.numbered_rows.proofs.Keeping.{rise_less}
use Rattle.held_requests.specs.declared.request.Request.{Request}
use Rattle.held_requests.specs.Rows.{IsKept}
use Rattle.held_requests.proofs.Keeping.{kept_less}
use Rattle.held_requests.proofs.rows.Rows.take.Goals as goal

pub invariant_of-self-2 : goal.invariant_of-self-2
invariant_of-self-2 c =
    subst (λ (rows : List (ℕ × Request)). IsKept rows c.self.inside.next c.remove-2.new.index) (sym c.in_ok-request.ensures.entries)
    (kept_less c.self.inside.rows.entries c.self.inside.next c.self.inside.editors c.self.invariant c.args.number c.in_ok-request.request c.remove-2.new.index c.in_ok-request.ensures.value c.remove-2.ensures)

pub returns-clause-rise : goal.returns-clause-rise
returns-clause-rise c = subst (λ (rows : List (ℕ × Request)). Rise 0 c.self.inside.next rows) (sym c.in_ok-request.ensures.entries) (rise_less (is_at (nat_cmp c.args.number)) 0 c.self.inside.next c.self.inside.rows.entries c.self.invariant.rise)
