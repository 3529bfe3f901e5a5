use Rattle.std.proofs.Common.{Some, codes, refl, ◌∙◌}
use Rattle.std.specs.Option.{option_and_then}
use Rattle.std.specs.Str.{chars}
use Rattle.json_text.specs.Named.{named_in}
use Rattle.document_model.specs.Notices.{integer_text}
use Rattle.response_route.proofs.Making.{renamed_is, no_version}
use Rattle.response_route.proofs.edits.versioned_changes.Goals as goal

pub returns-in-Some : goal.returns-in-Some
unfolding chars
returns-in-Some c = λ r t mean a. renamed_is c.put_version.result r t c.args.uri.now c.in-Some.digits.now (Some c.args.uri.now) (option_and_then integer_text (named_in (codes "version") t)) _ refl
    (c.in-Some.ensures (named_in (codes "version") t) (c.member.ensures.member t a)) (c.text.ensures ∙ mean c.args.uri.now c.in-Some.digits.now) (c.put_version.ensures t a)

pub returns-in-None : goal.returns-in-None
unfolding chars
returns-in-None c = λ r t mean a. no_version r t (Some c.args.uri.now) (option_and_then integer_text (named_in (codes "version") t)) c.new.result.items (c.in-None.ensures (named_in (codes "version") t) (c.member.ensures.member t a)) c.new.ensures.items
