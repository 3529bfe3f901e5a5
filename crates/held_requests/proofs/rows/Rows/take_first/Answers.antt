use Rattle.std.proofs.Common.{ℕ, List, subst}
use Rattle.held_requests.specs.declared.request.Request.{Request}
use Rattle.held_requests.specs.Rows.{IsKept}
use Rattle.held_requests.proofs.Keeping.{kept_rest}
use Rattle.held_requests.proofs.rows.Rows.take_first.Goals as goal

pub invariant_of-self-2 : goal.invariant_of-self-2
invariant_of-self-2 c =
    kept_rest c.in_ok-number.number c.in_ok-number.request c.pop_first.new.self.entries c.self.inside.next c.self.inside.editors c.remove.new.index
    (subst (λ (rows : List (ℕ × Request)). IsKept rows c.self.inside.next c.self.inside.editors) c.in_ok-number.ensures.removal c.self.invariant) c.remove.ensures
