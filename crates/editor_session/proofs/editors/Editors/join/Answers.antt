use Rattle.std.proofs.Common.{[], ◌∷◌, ◌++◌, ◌+◌, ◌∙◌, ap, sym, subst}
use Rattle.number_table.specs.Numbers.{Rise, spread}
use Rattle.editor_session.specs.Kept.{AreLinked}
use Rattle.editor_session.specs.Sessions.{gone}
use Rattle.editor_session.proofs.Places.{joins_order, one_joins}
use Rattle.editor_session.proofs.editors.Editors.join.Goals as goal

pub invariant_of-self-2 : goal.invariant_of-self-2
invariant_of-self-2 c =
    subst (λ ys. Rise 0 (c.args.e + 1) ys × AreLinked ys) (sym (c.in_ok-push.ensures.items ∙ ap (λ s. c.self.inside.linked.items ++ record { number = c.args.e; item = s } ∷ []) c.new.ensures)) (joins_order c.self.inside.count c.self.inside.linked.items c.args.self.now c.self.view_is c.self.invariant.0 c.self.invariant.1 c.args.e c.requires.next)

pub returns-clause-ok : goal.returns-clause-ok
returns-clause-ok c =
    ap (spread gone 0 (c.args.e + 1)) (c.in_ok-push.ensures.items ∙ ap (λ s. c.self.inside.linked.items ++ record { number = c.args.e; item = s } ∷ []) c.new.ensures) ∙ one_joins c.self.inside.count c.self.inside.linked.items c.args.self.now c.self.view_is c.self.invariant.0 c.args.e c.requires.next
