use Rattle.std.proofs.Common.{Option, Some, ◌∙◌, sym, ap, subst, codes, refl}
use Rattle.std.specs.Prelude.{is_some, option_map}
use Rattle.json_text.specs.Json.{Json}
use Rattle.json_text.specs.Tree.{tree_of}
use Rattle.json_nodes.specs.At.{Found}
use Rattle.json_nodes.specs.Doc.{Doc, Holds}
use Rattle.event_model.specs.Members.{bytes_if, named_of}
use Rattle.group_words.specs.Houses.{given_or}
use Rattle.group_keys.proofs.Offers.{none_offered, offer_is, offer_none, offered_text}
use Rattle.group_keys.proofs.key.offered.Goals as goal

pub returns-then-not-is_object-clause-bytes : goal.returns-then-not-is_object-clause-bytes
returns-then-not-is_object-clause-bytes c = λ body read.
    let holds : Holds c.tape-tape.result.now read.tree = subst (λ d. Holds d read.tree) (sym c.tape-tape.ensures) read.holds in
    let params : Option Json = named_of (codes "params") (Some read.tree) in
    let found : Found c.tape-tape.result.now params c.member-params.result = c.member-params.ensures refl (Some read.tree) (c.root.ensures.value read.tree holds) in
    c.as_bytes.ensures.value ∙ offer_none c.args.message.now body read (sym (c.is_object.ensures (named_of (codes "capabilities") params) (c.member.ensures refl params found)) ∙ c.if-not-is_object.true)

pub returns-then-not-is_object-clause-text : goal.returns-then-not-is_object-clause-text
returns-then-not-is_object-clause-text c = λ body read. ap (λ w. is_some (tree_of w)) c.as_bytes.ensures.value ∙ none_offered

pub returns-in-Some-clause-bytes : goal.returns-in-Some-clause-bytes
returns-in-Some-clause-bytes c = λ body read.
    let holds : Holds c.tape-tape.result.now read.tree = subst (λ d. Holds d read.tree) (sym c.tape-tape.ensures) read.holds in
    let params : Option Json = named_of (codes "params") (Some read.tree) in
    let found : Found c.tape-tape.result.now params c.member-params.result = c.member-params.ensures refl (Some read.tree) (c.root.ensures.value read.tree holds) in
    let bytes = c.member_bytes.ensures refl params found in
    ap (λ o. given_or (option_map (λ b. b.now) o) (codes "{}")) (sym c.in-Some.is)
    ∙ offer_is c.args.message.now body read (option_map (λ b. b.now) c.member_bytes.result) (sym (c.is_object.ensures (named_of (codes "capabilities") params) (c.member.ensures refl params found)) ∙ c.if-not-is_object.false)
    (bytes ∙ ap (λ (d : Doc). bytes_if (codes "capabilities") params d.bytes) c.tape-tape.ensures)

pub returns-in-Some-clause-text : goal.returns-in-Some-clause-text
returns-in-Some-clause-text c = λ body read. ap (λ w. is_some (tree_of w)) (returns-in-Some-clause-bytes c body read) ∙ offered_text c.args.message.now body read

pub returns-in-None-clause-bytes : goal.returns-in-None-clause-bytes
returns-in-None-clause-bytes c = λ body read.
    let holds : Holds c.tape-tape.result.now read.tree = subst (λ d. Holds d read.tree) (sym c.tape-tape.ensures) read.holds in
    let params : Option Json = named_of (codes "params") (Some read.tree) in
    let found : Found c.tape-tape.result.now params c.member-params.result = c.member-params.ensures refl (Some read.tree) (c.root.ensures.value read.tree holds) in
    c.as_bytes-in-None.ensures.value ∙ (ap (λ o. given_or (option_map (λ b. b.now) o) (codes "{}")) (sym c.in-None.is)
    ∙ offer_is c.args.message.now body read (option_map (λ b. b.now) c.member_bytes.result) (sym (c.is_object.ensures (named_of (codes "capabilities") params) (c.member.ensures refl params found)) ∙ c.if-not-is_object.false)
    (c.member_bytes.ensures refl params found ∙ ap (λ (d : Doc). bytes_if (codes "capabilities") params d.bytes) c.tape-tape.ensures))

pub returns-in-None-clause-text : goal.returns-in-None-clause-text
returns-in-None-clause-text c = λ body read. ap (λ w. is_some (tree_of w)) c.as_bytes-in-None.ensures.value ∙ none_offered
