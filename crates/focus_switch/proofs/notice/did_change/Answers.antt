use Rattle.std.proofs.Common.{◌∙◌, ap, subst, codes}
use Rattle.std.specs.Option.{option_and_then}
use Rattle.std.specs.Str.{chars}
use Rattle.json_text.specs.Named.{named_in}
use Rattle.json_nodes.specs.At.{Found}
use Rattle.document_table.specs.doc_text.specs.Changes.{string_text}
use Rattle.document_table.specs.document_model.specs.Notices.{document_in, integer_text}
use Rattle.focus_switch.proofs.Noticed.{change_found, uri_chars, version_chars, changes_chars}
use Rattle.focus_switch.proofs.notice.did_change.Goals as goal

pub returns-clause-shape : goal.returns-clause-shape
returns-clause-shape c = λ t a. change_found c.args.tape.now t c.in_ok-uri.uri c.in_ok-version.version c.maybe_member-changes.result c.change_of.result c.change_of.ensures
    (c.in_ok-uri.ensures (option_and_then (named_in (chars (codes "uri"))) (document_in t)) (c.maybe_member.ensures.member (document_in t) (c.document-params.ensures.document t a))
    ∙ ap (λ n. option_and_then string_text (option_and_then (named_in n) (document_in t))) uri_chars)
    (c.in_ok-version.ensures (option_and_then (named_in (chars (codes "version"))) (document_in t)) (c.maybe_member-2.ensures.member (document_in t) (c.document-params.ensures.document t a))
    ∙ ap (λ n. option_and_then integer_text (option_and_then (named_in n) (document_in t))) version_chars)
    (subst (λ n. Found c.args.tape.now (option_and_then (named_in n) (named_in (codes "params") t)) c.maybe_member-changes.result) changes_chars
    (c.maybe_member-changes.ensures.member (named_in (codes "params") t) (c.document-params.ensures.params t a)))
