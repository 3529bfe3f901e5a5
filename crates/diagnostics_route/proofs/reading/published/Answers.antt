use Rattle.std.proofs.Common.{Option, Some, List, ℕ, ◌∙◌, sym, ap, subst, codes, refl}
use Rattle.std.proofs.lemmas.Result.{IfOk-weaker}
use Rattle.json_text.specs.Json.{Json}
use Rattle.json_nodes.specs.At.{Found}
use Rattle.json_nodes.specs.Doc.{Doc, Holds}
use Rattle.mux_members.specs.Members.{named_of}
use Rattle.mux_members.proofs.Roots.{read_params}
use Rattle.diagnostics_route.specs.Published.{published_in}
use Rattle.diagnostics_route.proofs.reading.published.Goals as goal

pub returns : goal.returns
returns c = λ body read.
    let holds : Holds c.tape-tape.result.now read.tree = subst (λ d. Holds d read.tree) (sym c.tape-tape.ensures) read.holds in
    let params : Option Json = named_of (codes "params") (Some read.tree) in
    let found : Found c.tape-tape.result.now params c.member-params.result = c.member-params.ensures refl (Some read.tree) (c.root.ensures.value read.tree holds) in
    IfOk-weaker c.published_in.result _ _ (λ list h. h
    ∙ (ap (λ (bytes : List ℕ). published_in c.args.place bytes params) (ap (λ (d : Doc). d.bytes) c.tape-tape.ensures ∙ read.bytes_are)
    ∙ ap (published_in c.args.place body) (sym (read_params c.args.message.now body read)))) (c.published_in.ensures params found)
