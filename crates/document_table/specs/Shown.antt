-- What contracts see of what the code keeps.
use Rattle.std.specs.Prelude.{ℕ, List, map}
use Rattle.std.specs.declared.string.String.{String}
use Rattle.document_table.specs.declared.opens.Opening.{Opening}
use Rattle.document_model.specs.Opens.{Open}

-- a document at an editor, with the bytes of its text
abbrev pub shown : {T : Type 0} → (T → List ℕ) → Opening T → Open
shown bytes o = record {
  editor = o.editor;
  uri = o.uri.bytes.items;
  language = o.language.bytes.items;
  version = o.version;
  text = bytes o.text;
  touched = o.touched;
}

-- the same, by their numbers
abbrev pub all_numbered : {T : Type 0} → (T → List ℕ) → List (ℕ × Opening T) → List (ℕ × Open)
all_numbered bytes rows = map (λ r. (r.0, shown bytes r.1)) rows

-- the bytes of texts
abbrev pub all_bytes : {A : Type 0} → List (String A) → List (List ℕ)
all_bytes texts = map (λ t. t.bytes.items) texts
