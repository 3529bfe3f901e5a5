-- Answers over texts: the text asked for, or none where the bytes are no JSON text; memory may be wanting at any time.
use Rattle.std.specs.Prelude.{◌≡◌, ℕ, List}
use Rattle.std.specs.Prelude.{Option, Some, None, Result, Ok, Err}
use Rattle.json_text.specs.Json.{Json}
use Rattle.json_text.specs.Tree.{tree_of}
use Rattle.json_nodes.specs.Doc.{Doc, Holds}
use Rattle.capability_meet.specs.declared.fault.CapFault.{CapFault}
use Rattle.capability_meet.specs.declared.fault.CapFault.TheVariants.{NotJson, Memory}

abbrev pub Answers : Result (List ℕ) CapFault → Option (List ℕ) → Type 0
Answers (Ok body) text = text ≡ Some body
Answers (Err NotJson) text = text ≡ None
Answers (Err Memory) text = Unit {0}

-- the bytes were read
pub record IsRead (doc : Doc) (bytes : List ℕ) : Type 0 where
  pub tree : Json
  pub is : tree_of bytes ≡ Some tree
  pub holds : Holds doc tree
  pub same : doc.bytes ≡ bytes

abbrev pub Reads : Result Doc CapFault → List ℕ → Type 0
Reads (Ok doc) bytes = IsRead doc bytes
Reads (Err NotJson) bytes = tree_of bytes ≡ None
Reads (Err Memory) bytes = Unit {0}
