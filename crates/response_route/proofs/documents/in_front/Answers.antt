use Rattle.std.specs.Str.{chars}
use Rattle.std.proofs.Common.{codes}
use Rattle.json_text.specs.Named.{named_in}
use Rattle.response_route.proofs.Walks.{both_there, first_absent, second_absent}
use Rattle.response_route.proofs.documents.in_front.Goals as goal

pub returns-in-Some-Some : goal.returns-in-Some-Some
unfolding chars
returns-in-Some-Some c = λ t a. both_there c.args.tape.now (named_in (codes "documentChanges") t) (named_in (codes "edit") t) c.in-Some-Some.changes c.in-Some-Some.edit c.span.result c.span-in-Some-Some.result
    (c.in-Some-Some.ensures.member t a) (c.in-Some-Some.ensures'.member t a) (λ u b. c.span.ensures.span u b) (λ u b. c.span-in-Some-Some.ensures.span u b)

pub returns-in_default : goal.returns-in_default
unfolding chars
returns-in_default c = λ t a. second_absent c.args.tape.now (named_in (codes "documentChanges") t) (named_in (codes "edit") t) c.member-2.result c.in_default.is-1 (c.member-2.ensures.member t a)

pub returns-in_default-2 : goal.returns-in_default-2
unfolding chars
returns-in_default-2 c = λ t a. first_absent c.args.tape.now (named_in (codes "documentChanges") t) (named_in (codes "edit") t) c.member.result c.in_default.is-0 (c.member.ensures.member t a)
