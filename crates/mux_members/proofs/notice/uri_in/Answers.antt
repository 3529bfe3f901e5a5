-- The document of an opening that has all its parts.
use Rattle.std.proofs.Common.{◌≡◌, IfOk, refl, sym, subst, ◌∙◌}
use Rattle.mux_members.proofs.Opened.{opened_partly, opened_whole}
use Rattle.mux_members.proofs.notice.uri_in.Goals as goal

pub returns-then-is_whole : goal.returns-then-is_whole
returns-then-is_whole c = λ o f. subst (λ z. IfOk c.string.result (λ uri. uri ≡ z)) (sym (opened_whole o (sym (c.is_whole.ensures o f) ∙ c.if-is_whole.true))) (c.string.ensures.said refl o f)

pub returns-else-is_whole : goal.returns-else-is_whole
returns-else-is_whole c = λ o f. sym (opened_partly o (sym (c.is_whole.ensures o f) ∙ c.if-is_whole.false))
