-- What was read, and why bytes were refused.
use Rattle.std.proofs.Common.{◌≡◌, ℕ, List, subst, sym, ◌∙◌, ap}
use Rattle.std.specs.Prelude.{Some}
use Rattle.std.specs.Option.{option_map}
use Rattle.json_text.specs.Tree.{tree_of}
use Rattle.json_nodes.specs.At.{At}
use Rattle.json_text.specs.Json.{Json, IsText}
use Rattle.json_text.proofs.Laws.{tree_complete}
use Rattle.json_nodes.specs.Doc.{Doc, Holds}
use Rattle.capability_meet.specs.Answers.{IsRead}

pub is_read : (doc : Doc) (bytes : List ℕ) → (doc.bytes ≡ bytes) × ((j : Json) × Holds doc j) → IsRead doc bytes
is_read doc bytes k = read_by k.0 k.1.0 k.1.1
  where
    read_by : doc.bytes ≡ bytes → (j : Json) → Holds doc j → IsRead doc bytes
    read_by e j h = record { tree = j; is = tree_complete bytes j (subst (λ bs. IsText bs j) e h.text) h.shallow; holds = h; same = e }

-- what is told of the value that was read is told of the bytes
pub told_of_read : (f : List ℕ → Json → List ℕ) (tape d : Doc) (bytes : List ℕ) (root : ℕ) (out body : List ℕ) → IsRead tape bytes → d ≡ tape → ((j : Json) → Holds tape j → At tape root j)
    → ((t : Json) → At d root t → out ≡ f d.bytes t) → body ≡ out → option_map (f bytes) (tree_of bytes) ≡ Some body
told_of_read f tape d bytes root out body r e first told b =
    let a : At d root r.tree = subst (λ (z : Doc). At z root r.tree) (sym e) (first r.tree r.holds) in
    let same : d.bytes ≡ bytes = ap (λ (z : Doc). z.bytes) e ∙ r.same in
    ap (λ o. option_map (f bytes) o) r.is ∙ ap (λ z. Some z) (sym (b ∙ told r.tree a ∙ ap (λ z. f z r.tree) same))
