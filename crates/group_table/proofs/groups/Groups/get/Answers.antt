use Rattle.std.proofs.Common.{◌≡◌, sym, ap, subst, ◌∙◌, None, Some, arith}
use Rattle.number_table.specs.Numbers.{IsAt, held}
use Rattle.group_table.proofs.Places.{kept_get, lost_get, past_get}
use Rattle.group_table.proofs.groups.Groups.get.Goals as goal

pub returns-then-group-self : goal.returns-then-group-self
returns-then-group-self c = sym (past_get c.self.inside.limit c.self.inside.idle c.self.inside.count c.self.inside.live.items c.args.self.now c.self.view_is c.self.invariant.0 c.args.group c.if-group-self.true)

pub returns-in-Some : goal.returns-in-Some
returns-in-Some c =
    sym (kept_get c.self.inside.limit c.self.inside.idle c.self.inside.count c.self.inside.live.items c.args.self.now c.self.view_is c.self.invariant.0 c.self.invariant.1 c.args.group c.in-Some.at (subst (λ ys. IsAt ys c.args.group c.in-Some.at) c.deref.ensures.value c.in-Some.ensures.found) c.index.result.now c.index.ensures)

pub returns-in-None : goal.returns-in-None
returns-in-None c =
    ap (λ x. Some x) c.self.invariant.2 ∙ sym (lost_get c.self.inside.limit c.self.inside.idle c.self.inside.count c.self.inside.live.items c.args.self.now c.self.view_is c.self.invariant.0 c.args.group (subst (λ ys. held c.args.group ys ≡ None) c.deref.ensures.value c.in-None.ensures.none) (omega (arith, c.if-group-self.false)))
