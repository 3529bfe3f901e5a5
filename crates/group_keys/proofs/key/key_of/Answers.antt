use Rattle.std.proofs.Common.{Option, Some, ◌∙◌, sym, ap, subst, codes, refl, map}
use Rattle.json_text.specs.Json.{Json}
use Rattle.json_nodes.specs.At.{Found}
use Rattle.json_nodes.specs.Doc.{Doc, Holds}
use Rattle.event_model.specs.Members.{bytes_if, named_of}
use Rattle.group_words.specs.Houses.{normal_of}
use Rattle.mux_members.proofs.Roots.{read_params}
use Rattle.group_keys.specs.Uris.{AreTexts}
use Rattle.group_keys.proofs.Keyed.{keyed}
use Rattle.group_keys.proofs.key.key_of.Goals as goal

pub returns : goal.returns
returns c = λ body read.
    let holds : Holds c.tape-tape.result.now read.tree = subst (λ d. Holds d read.tree) (sym c.tape-tape.ensures) read.holds in
    let params : Option Json = named_of (codes "params") (Some read.tree) in
    let found : Found c.tape-tape.result.now params c.member-params.result = c.member-params.ensures refl (Some read.tree) (c.root.ensures.value read.tree holds) in
    keyed c.args.server c.in_ok-folders.folders.items c.in_ok-normal.normal.items c.in_ok-options.options body params (read_params c.args.message.now body read) (c.in_ok-folders.ensures.folders params found)
    (c.in_ok-normal.ensures (subst AreTexts (sym c.as_slice.ensures.value) (c.in_ok-folders.ensures.texts params found)) ∙ ap (map normal_of) c.as_slice.ensures.value)
    (c.in_ok-options.ensures ∙ (c.member_bytes.ensures refl params found ∙ ap (λ z. bytes_if (codes "initializationOptions") params z) (ap (λ (d : Doc). d.bytes) c.tape-tape.ensures ∙ read.bytes_are)))
