-- What a notification says of the progress of its token.
use Rattle.std.proofs.Common.{ap, bytes_eq, codes, refl, subst, sym, ◌∙◌}
use Rattle.json_nodes.specs.At.{Found}
use Rattle.event_model.specs.Members.{named_of}
use Rattle.rpc_message.specs.Parsed.{FoundBare, params_of}
use Rattle.mux_turns.proofs.KindTexts.{begin_said, begin_unsaid, end_said, end_unsaid, kind_text}
use Rattle.mux_turns.proofs.creates.kind_of.Goals as goal

pub returns-in-None : goal.returns-in-None
returns-in-None c = λ body method params read says.
    let told : FoundBare c.args.message.now.doc params c.params.result = subst (λ m. FoundBare c.args.message.now.doc m c.params.result) (ap params_of says) (c.params.ensures.value body read) in
    let found = subst (λ d. Found d told.value c.params.result) (sym c.tape-tape.ensures) told.stands in
    let is = sym c.in-None.is ∙ (c.in_ok-kind.ensures.said refl (named_of (codes "value") told.value) (c.member-value.ensures refl told.value found) ∙ kind_text params told.value told.is) in
    (begin_unsaid params is, end_unsaid params is)

pub returns-in-Some : goal.returns-in-Some
returns-in-Some c = λ body method params read says.
    let told : FoundBare c.args.message.now.doc params c.params.result = subst (λ m. FoundBare c.args.message.now.doc m c.params.result) (ap params_of says) (c.params.ensures.value body read) in
    let found = subst (λ d. Found d told.value c.params.result) (sym c.tape-tape.ensures) told.stands in
    let is = sym c.in-Some.is ∙ (c.in_ok-kind.ensures.said refl (named_of (codes "value") told.value) (c.member-value.ensures refl told.value found) ∙ kind_text params told.value told.is) in
    (c.kind_named.ensures.begin ∙ (ap (bytes_eq (codes "begin")) c.bytes.ensures ∙ begin_said params c.in-Some.cs is), c.kind_named.ensures.end ∙ (ap (bytes_eq (codes "end")) c.bytes.ensures ∙ end_said params c.in-Some.cs is))
