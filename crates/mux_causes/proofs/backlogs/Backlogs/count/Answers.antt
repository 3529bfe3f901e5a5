-- What is on its way to an editor.
use Rattle.std.proofs.Common.{◌≡◌, subst, None}
use Rattle.number_table.specs.Numbers.{IsAt, held}
use Rattle.number_table.proofs.Places as places
use Rattle.mux_causes.proofs.Linked.{nothing_owed}
use Rattle.mux_causes.proofs.backlogs.Backlogs.count.Goals as goal

pub returns-in-Some-clause-some : goal.returns-in-Some-clause-some
returns-in-Some-clause-some c =
    let at = (subst (λ ys. IsAt ys c.args.e c.in-Some.at) c.deref.ensures.value c.in-Some.ensures.found) in
    places.kept_get 0 c.self.inside.count c.self.inside.linked.items c.args.self.now c.self.view_is c.self.invariant c.args.e c.in-Some.at (places.kept_inside 0 c.self.inside.count c.self.inside.linked.items c.args.self.now c.self.view_is c.self.invariant c.args.e c.in-Some.at at c.index.result.now c.index.ensures) at c.index.result.now c.index.ensures

pub returns-in-None-clause-none : goal.returns-in-None-clause-none
returns-in-None-clause-none c = nothing_owed c.self.inside.count c.self.inside.linked.items c.args.self.now c.self.view_is c.self.invariant c.args.e (subst (λ ys. held c.args.e ys ≡ None) c.deref.ensures.value c.in-None.ensures.none)
