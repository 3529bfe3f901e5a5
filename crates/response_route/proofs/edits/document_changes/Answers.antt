use Rattle.std.proofs.Common.{Some, ap, codes, sym, subst, ◌∙◌}
use Rattle.std.specs.Option.{option_and_then}
use Rattle.std.specs.Str.{chars}
use Rattle.json_text.specs.Named.{named_in}
use Rattle.document_model.specs.doc_text.specs.Changes.{string_text}
use Rattle.document_model.specs.Notices.{integer_text}
use Rattle.response_route.specs.Edits.{renamed}
use Rattle.response_route.specs.Reading.{Gives}
use Rattle.response_route.proofs.Making.{no_uri}
use Rattle.response_route.proofs.edits.document_changes.Goals as goal

pub returns-in-Some : goal.returns-in-Some
unfolding chars
returns-in-Some c = λ r t mean a. subst (λ z. Gives c.versioned_changes.result (renamed r t z (option_and_then integer_text (named_in (codes "version") t))))
    (ap Some c.bytes.ensures ∙ (sym c.in-Some.is ∙ c.in_ok-uri.ensures (named_in (codes "uri") t) (c.member.ensures.member t a))) (c.versioned_changes.ensures r t mean a)

pub returns-in-None : goal.returns-in-None
unfolding chars
returns-in-None c = λ r t mean a. no_uri r t (option_and_then string_text (named_in (codes "uri") t)) (option_and_then integer_text (named_in (codes "version") t)) c.new.result.items
    (sym c.in-None.is ∙ c.in_ok-uri.ensures (named_in (codes "uri") t) (c.member.ensures.member t a)) c.new.ensures.items
