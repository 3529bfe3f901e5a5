use Rattle.std.proofs.Common.{Option, Some, ◌∙◌, sym, ap, subst, codes, refl}
use Rattle.json_text.specs.Json.{Json}
use Rattle.json_nodes.specs.At.{Found}
use Rattle.json_nodes.specs.Doc.{Doc, Holds}
use Rattle.event_model.specs.Members.{named_of, string_of}
use Rattle.group_words.specs.Houses.{server_named}
use Rattle.mux_members.proofs.Roots.{read_params}
use Rattle.group_keys.proofs.Gathering.{string_so}
use Rattle.group_keys.proofs.server.server_asked.Goals as goal

pub returns : goal.returns
returns c = λ body read.
    let holds : Holds c.tape-tape.result.now read.tree = subst (λ d. Holds d read.tree) (sym c.tape-tape.ensures) read.holds in
    let params : Option Json = named_of (codes "params") (Some read.tree) in
    let found : Found c.tape-tape.result.now params c.member-params.result = c.member-params.ensures refl (Some read.tree) (c.root.ensures.value read.tree holds) in
    c.in_ok-place.ensures (string_of (named_of (codes "server") params)) (c.in_ok-name.ensures.said refl params found ∙ string_so (codes "server") params)
    ∙ ap (λ ps. server_named c.args.servers.now (string_of (named_of (codes "server") ps))) (sym (read_params c.args.message.now body read))
