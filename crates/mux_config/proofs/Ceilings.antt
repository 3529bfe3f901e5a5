-- The JSON objects among texts.
use Rattle.std.proofs.Common.{◌≡◌, ℕ, Bool, List, Some, refl, subst}
use Rattle.json_text.specs.Json.{Json, word, number, string, array, object, IsText}
use Rattle.json_text.specs.declared.kind.Word.TheVariants.{Null, False, True}
use Rattle.json_text.specs.Tree.{tree_of}
use Rattle.json_text.proofs.Laws.{tree_complete}
use Rattle.json_nodes.specs.Doc.{Doc, Holds}
use Rattle.json_nodes.specs.Nodes.{kind_of}
use Rattle.mux_config.specs.Settings.{is_object, is_object_kind}

pub object_kind : (t : Json) → is_object_kind (kind_of t) ≡ is_object (Some t)
object_kind (word s Null) = refl
object_kind (word s False) = refl
object_kind (word s True) = refl
object_kind (number s ds) = refl
object_kind (string s cs) = refl
object_kind (array s js) = refl
object_kind (object s ms) = refl

-- what is told of the value that was read is told of the bytes
pub object_read : (doc : Doc) (bytes : List ℕ) (b : Bool) → (doc.bytes ≡ bytes) × ((j : Json) × Holds doc j) → ((t : Json) → Holds doc t → b ≡ is_object (Some t)) → b ≡ is_object (tree_of bytes)
object_read doc bytes b k told = read_by k.0 k.1.0 k.1.1
  where
    read_by : doc.bytes ≡ bytes → (j : Json) → Holds doc j → b ≡ is_object (tree_of bytes)
    read_by e j h = rw (tree_complete bytes j (subst (λ bs. IsText bs j) e h.text) h.shallow) (told j h)
