use Rattle.std.proofs.Common.{◌≡◌, List, ℕ, codes, subst}
use Rattle.std.specs.Prelude.{Option, Some, None}
use Rattle.std.specs.Option.{option_and_then, option_map}
use Rattle.json_text.specs.Json.{Json}
use Rattle.json_text.specs.Named.{named_in}
use Rattle.json_nodes.specs.At.{Found}
use Rattle.json_nodes.specs.Doc.{Doc}
use Rattle.capability_meet.specs.Shown.{change_of, without, workspace_text}
use Rattle.json_nodes.specs.Values.{doc_of}
use Rattle.capability_meet.proofs.Letters.{capabilities_letters, folders_letters, notebook_letters, workspace_letters}
use Rattle.capability_meet.proofs.Shows.{shown_so}
use Rattle.capability_meet.proofs.showing.shown_in.Goals as goal

pub returns : goal.returns
returns c = λ t a.
    let d : Doc = doc_of c.args.values in
    let o : Option Json = named_in (codes "capabilities") t in
    let p : Option Json = option_and_then (named_in (codes "workspace")) o in
    let top : Found d o c.maybe_member-capabilities.result = subst (λ (cs : List ℕ). Found d (named_in cs t) c.maybe_member-capabilities.result) capabilities_letters (c.maybe_member-capabilities.ensures.member (Some t) a) in
    let low : Found d p c.maybe_member-workspace.result = subst (λ (cs : List ℕ). Found d (option_and_then (named_in cs) o) c.maybe_member-workspace.result) workspace_letters (c.maybe_member-workspace.ensures.member o top) in
    let inner : c.in_ok-inner.inner ≡ option_map (change_of (workspace_text d.bytes)) p = subst (λ (cs : List ℕ). c.in_ok-inner.inner ≡ option_map (change_of (without d.bytes cs None)) p) folders_letters (c.in_ok-inner.ensures p low) in
    let change : c.in_ok-change.change ≡ option_map (change_of (without d.bytes (codes "notebookDocumentSync") c.in_ok-inner.inner)) o = subst (λ (cs : List ℕ). c.in_ok-change.change ≡ option_map (change_of (without d.bytes cs c.in_ok-inner.inner)) o) notebook_letters (c.in_ok-change.ensures o top) in
    shown_so d.bytes c.write_window.new.out.items c.new-out.result.items t c.in_ok-inner.inner c.in_ok-change.change inner change c.new-out.ensures.items c.in_ok-write_window.ensures
