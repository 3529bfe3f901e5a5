use Rattle.std.proofs.Common.{◌≡◌, ◌∙◌, ap, subst}
use Rattle.std.specs.Prelude.{IfOk}
use Rattle.document_table.specs.document_model.specs.Orderly.{Once}
use Rattle.document_table.specs.Rows.{uris_of}
use Rattle.document_table.specs.Shown.{all_bytes}
use Rattle.focus_switch.specs.Documents.{Documents}
use Rattle.focus_switch.proofs.Walking.{versions_all}
use Rattle.focus_switch.proofs.shared.Shared.versions_of.Goals as goal

pub returns : goal.returns
returns g c =
    let opens = ap (λ (s : Documents). s.opens) c.self.view_is in
    let uris = ap all_bytes c.as_slice.ensures.value ∙ c.in_ok-uris.ensures ∙ ap (uris_of c.args.e) opens in
    subst (λ z. IfOk c.versions_at.result (λ versions. versions.items ≡ z)) (versions_all c.args.e (all_bytes c.as_slice.result.now) c.args.self.now (subst Once opens c.once.ensures) uris) c.versions_at.ensures
