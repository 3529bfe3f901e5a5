use Rattle.std.proofs.Common.{◌≡◌, subst, None}
use Rattle.number_table.specs.Numbers.{IsAt, held}
use Rattle.editor_session.proofs.Places.{kept_linked, kept_session, lost}
use Rattle.editor_session.proofs.editors.Editors.find.Goals as goal

pub returns-in-Some-clause-some : goal.returns-in-Some-clause-some
returns-in-Some-clause-some c =
    (kept_session c.self.inside.count c.self.inside.linked.items c.args.self.now c.self.view_is c.self.invariant.0 c.self.invariant.1 c.args.e c.in-Some.at c.requires (subst (λ ys. IsAt ys c.args.e c.in-Some.at) c.deref.ensures.value c.in-Some.ensures.found) c.index.result.now c.index.ensures, kept_linked c.self.inside.count c.self.inside.linked.items c.args.self.now c.self.view_is c.self.invariant.0 c.self.invariant.1 c.args.e c.in-Some.at c.requires (subst (λ ys. IsAt ys c.args.e c.in-Some.at) c.deref.ensures.value c.in-Some.ensures.found) c.index.result.now c.index.ensures)

pub returns-in-None-clause-none : goal.returns-in-None-clause-none
returns-in-None-clause-none c =
    lost c.self.inside.count c.self.inside.linked.items c.args.self.now c.self.view_is c.self.invariant.0 c.args.e c.requires (subst (λ ys. held c.args.e ys ≡ None) c.deref.ensures.value c.in-None.ensures.none)
