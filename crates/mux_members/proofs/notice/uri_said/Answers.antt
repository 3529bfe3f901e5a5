-- The document that a notification of a method opens.
use Rattle.std.proofs.Common.{◌≡◌, IfOk, codes, refl, sym, subst, ◌∙◌}
use Rattle.mux_model.specs.event_model.specs.Members.{named_of}
use Rattle.mux_members.specs.Notices.{uri_opened}
use Rattle.mux_members.proofs.Notices.{said_open}
use Rattle.mux_members.proofs.Opened.{opened_other}
use Rattle.mux_members.proofs.notice.uri_said.Goals as goal

pub returns-then-spells : goal.returns-then-spells
returns-then-spells c = λ s cs o f p.
    subst (λ z. IfOk c.uri_in.result (λ uri. uri ≡ uri_opened z)) (said_open cs o (sym (c.spells.ensures refl s cs f) ∙ c.if-spells.true)) (c.uri_in.ensures (named_of (codes "textDocument") o) (c.member.ensures refl o p))

pub returns-else-spells : goal.returns-else-spells
returns-else-spells c = λ s cs o f p. sym (opened_other cs o (sym (c.spells.ensures refl s cs f) ∙ c.if-spells.false))
