-- The body that an editor gets of an answer.
use Rattle.std.proofs.Common.{◌≡◌, ap, subst, ◌∙◌}
use Rattle.std.specs.Prelude.{IfOk}
use Rattle.response_route.specs.Answers.{answer_text}
use Rattle.response_route.specs.Versions.{stamp_of, version_now}
use Rattle.group_rows.specs.Answers.{own_version}
use Rattle.mux_tables.specs.Stands.{forwarded_as}
use Rattle.mux_starts.proofs.Answering.{means_own, noted_read}
use Rattle.mux_starts.proofs.answers.answered.Goals as goal

pub returns : goal.returns
returns c = λ settings before body s n x read here ready at st ds noted.
    let p = c.args.pending.now in
    let own = own_version settings before s (forwarded_as n p) in
    subst (λ w. IfOk c.answer.result (λ text. text ≡ answer_text own body w)) c.bytes.ensures (c.answer.ensures body own read
    (λ u digits. ap (λ o. version_now digits (stamp_of u c.in_ok-now.now) o) (noted_read u c.as_ref.result p.noted c.as_ref.ensures.value)
    ∙ means_own settings before s n p c.in_ok-now.now (c.in_ok-now.ensures.versions settings before s x here ready at st ds) (λ u left. c.in_ok-now.ensures.left settings before s u at st ds left) noted u digits))
