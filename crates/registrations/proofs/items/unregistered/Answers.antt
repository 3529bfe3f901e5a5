use Rattle.std.proofs.Common.{Option, Some, List, ℕ, ◌∙◌, sym, ap, subst, codes, refl}
use Rattle.std.specs.Option.{option_and_then}
use Rattle.std.proofs.lemmas.Result.{IfOk-weaker}
use Rattle.json_text.specs.Json.{Json}
use Rattle.mux_members.specs.json_nodes.specs.At.{Found}
use Rattle.mux_members.specs.json_nodes.specs.Doc.{Doc, Holds}
use Rattle.mux_members.specs.Members.{named_of}
use Rattle.mux_members.proofs.Roots.{read_params}
use Rattle.registrations.specs.Items.{if_distinct, registrations_at}
use Rattle.registrations.proofs.items.unregistered.Goals as goal

pub returns : goal.returns
returns c = λ body read.
    let holds : Holds c.tape-tape.result.now read.tree = subst (λ d. Holds d read.tree) (sym c.tape-tape.ensures) read.holds in
    let params : Option Json = named_of (codes "params") (Some read.tree) in
    let list : Option Json = named_of (codes "unregisterations") params in
    let found : Found c.tape-tape.result.now list c.member-list.result = c.member-list.ensures refl params (c.member.ensures refl (Some read.tree) (c.root.ensures.value read.tree holds)) in
    IfOk-weaker c.distinct.result _ _ (λ items h. h
    ∙ (ap (λ (bytes : List ℕ). option_and_then if_distinct (registrations_at bytes list)) (ap (λ (d : Doc). d.bytes) c.tape-tape.ensures ∙ read.bytes_are)
    ∙ ap (λ o. option_and_then if_distinct (registrations_at body (named_of (codes "unregisterations") o))) (sym (read_params c.args.message.now body read)))) (c.distinct.ensures list found)
