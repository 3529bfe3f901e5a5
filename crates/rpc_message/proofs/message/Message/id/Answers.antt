use Rattle.std.proofs.Common.{◌≡◌, ◌∙◌, ap, ap₂, sym, subst}
use Rattle.json_text.specs.Tree.{tree_of}
use Rattle.json_span.specs.json_nodes.specs.Doc.{Doc, Holds}
use Rattle.json_span.specs.json_nodes.specs.Values.{doc_of}
use Rattle.rpc_message.specs.Message.{place_in}
use Rattle.rpc_message.specs.Parsed.{Parsed}
use Rattle.rpc_message.proofs.Standing.{id_chars}
use Rattle.rpc_message.proofs.message.Message.id.Goals as goal

pub returns : goal.returns
returns c = λ bytes r.
    let same : doc_of c.values.result ≡ c.args.self.now.doc = c.values.ensures.same ∙ ap (λ (p : Parsed). p.doc) c.self.view_is in
    c.member_span.ensures r.tree (subst (λ e. Holds e r.tree) (sym same) r.holds) ∙ ap₂ (λ z b. place_in z (tree_of b)) id_chars (ap (λ (e : Doc). e.bytes) same ∙ r.bytes_are)
