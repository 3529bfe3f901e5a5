use Rattle.std.proofs.Common.{IfOk, codes, refl, sym, ◌∙◌, subst}
use Rattle.mux_model.specs.event_model.specs.Members.{named_of}
use Rattle.mux_members.specs.Notices.{Says}
use Rattle.mux_members.specs.declared.notice.Notice.TheVariants.{Nothing}
use Rattle.mux_members.proofs.Notices.{said_open, said_change, said_close, said_other}
use Rattle.mux_members.proofs.notice.said.Goals as goal

pub returns-then-spells-clause-said : goal.returns-then-spells-clause-said
returns-then-spells-clause-said c = λ s cs o f p.
    subst (λ z. IfOk c.opens.result (λ notice. Says notice z)) (said_open cs o (sym (c.spells.ensures refl s cs f) ∙ c.if-spells.true)) (c.opens.ensures.said (named_of (codes "textDocument") o) (c.member-document.ensures refl o p))

pub returns-then-spells-2-clause-said : goal.returns-then-spells-2-clause-said
returns-then-spells-2-clause-said c = λ s cs o f p.
    subst (λ z. Says c.changes.result z) (said_change cs o (sym (c.spells.ensures refl s cs f) ∙ c.if-spells.false) (sym (c.spells-else-spells.ensures refl s cs f) ∙ c.if-spells-2.true))
    (c.changes.ensures.said (named_of (codes "textDocument") o) (named_of (codes "contentChanges") o) (c.member-document.ensures refl o p) (c.member.ensures refl o p))

pub returns-then-spells-3-clause-said : goal.returns-then-spells-3-clause-said
returns-then-spells-3-clause-said c = λ s cs o f p.
    subst (λ z. IfOk c.closes.result (λ notice. Says notice z)) (said_close cs o (sym (c.spells.ensures refl s cs f) ∙ c.if-spells.false) (sym (c.spells-else-spells.ensures refl s cs f) ∙ c.if-spells-2.false) (sym (c.spells-else-spells-2.ensures refl s cs f) ∙ c.if-spells-3.true))
    (c.closes.ensures.said (named_of (codes "textDocument") o) (c.member-document.ensures refl o p))

pub returns-else-spells-3-clause-said : goal.returns-else-spells-3-clause-said
returns-else-spells-3-clause-said c = λ s cs o f p.
    subst (λ z. Says Nothing z) (said_other cs o (sym (c.spells.ensures refl s cs f) ∙ c.if-spells.false) (sym (c.spells-else-spells.ensures refl s cs f) ∙ c.if-spells-2.false) (sym (c.spells-else-spells-2.ensures refl s cs f) ∙ c.if-spells-3.false)) tt
