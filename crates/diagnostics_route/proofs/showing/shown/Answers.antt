use Rattle.std.proofs.Common.{◌∙◌, ℕ, List, Option, Some, ap, codes, refl, subst, sym}
use Rattle.std.specs.Option.{option_map}
use Rattle.std.proofs.lemmas.Result.{IfOk-weaker}
use Rattle.json_text.specs.Json.{Json}
use Rattle.json_text.specs.Replace.{replace}
use Rattle.json_nodes.specs.At.{Found}
use Rattle.json_nodes.specs.Doc.{Doc, Holds}
use Rattle.mux_members.specs.Members.{named_of}
use Rattle.mux_members.proofs.Roots.{read_params}
use Rattle.diagnostics_route.specs.Published.{version_in}
use Rattle.diagnostics_route.specs.Shown.{edits_by, shown_edits}
use Rattle.diagnostics_route.proofs.showing.shown.Goals as goal

pub returns : goal.returns
returns c = λ body read.
    let holds : Holds c.tape-tape.result.now read.tree = subst (λ d. Holds d read.tree) (sym c.tape-tape.ensures) read.holds in
    let o : Option Json = named_of (codes "params") (Some read.tree) in
    let found : Found c.tape-tape.result.now o c.member.result = c.member.ensures refl (Some read.tree) (c.root.ensures.value read.tree holds) in
    let inside : Found c.tape-tape.result.now o c.within-params.result = subst (λ z. Found c.tape-tape.result.now o z) (sym (c.within-params.ensures.same o found)) found in
    let own : Option (List ℕ) = option_map (λ b. b.now) c.args.own in
    IfOk-weaker c.text_by.result _ _ (λ text h. h
    ∙ (ap (λ v. replace c.tape-tape.result.now.bytes (edits_by own v c.tape-tape.result.now.bytes o)) (c.in_ok-version.ensures o inside)
    ∙ (ap (λ (bytes : List ℕ). replace bytes (edits_by own (version_in o) bytes o)) (ap (λ (d : Doc). d.bytes) c.tape-tape.ensures ∙ read.bytes_are)
    ∙ ap (λ p. replace body (shown_edits own body p)) (sym (read_params c.args.message.now body read))))) (c.text_by.ensures o inside)
