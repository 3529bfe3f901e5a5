-- The text of an empty list.
use Rattle.std.proofs.Common.{rules, ◌≡◌, ◌++◌, IfOk, Some, append_assoc, codes, ap, ap₂, subst, ◌∙◌}
use Rattle.group_rows.specs.ExitRows.{empty_params}
use Rattle.rpc_message.specs.Texts.{notification_text}
use Rattle.mux_exits.proofs.told.empty_text.Goals as goal

pub returns : goal.returns
returns c = λ spelt.
    let head : c.extend_from_slice.new.self.items ≡ codes "{\"uri\":" = search rules in
    let tail : c.as_bytes-2.result.now ≡ codes ",\"diagnostics\":[]}" = search rules in
    let most : c.extend_from_slice-2.new.self.items ≡ codes "{\"uri\":" ++ c.in_ok-uri.uri = c.in_ok-extend_from_slice-2.ensures.items ∙ ap₂ (λ xs ys. xs ++ ys) head c.bytes.ensures in
    let written : c.as_slice.result.now ≡ empty_params c.args.uri.now = c.as_slice.ensures.value ∙ (c.in_ok-extend_from_slice-3.ensures.items ∙ (ap₂ (λ xs ys. xs ++ ys) most tail
    ∙ (append_assoc (codes "{\"uri\":") c.in_ok-uri.uri (codes ",\"diagnostics\":[]}") ∙ ap (λ w. codes "{\"uri\":" ++ (w ++ codes ",\"diagnostics\":[]}")) (c.in_ok-uri.ensures spelt)))) in
    subst (λ w. IfOk c.notification.result (λ body. body ≡ notification_text (codes "textDocument/publishDiagnostics") (Some w))) written c.notification.ensures
