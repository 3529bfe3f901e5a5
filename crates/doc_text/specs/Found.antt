-- What the reading of a tape gives.
use Rattle.std.specs.Prelude.{◌≡◌, ℕ, List, drop}
use Rattle.std.specs.Prelude.{Option, Some, None, Result, Ok, Err}
use Rattle.json_text.specs.Json.{Json}
use Rattle.json_text.specs.Named.{children}
use Rattle.json_span.specs.json_nodes.specs.At.{FoundChild}
use Rattle.json_span.specs.json_nodes.specs.Doc.{Doc}
use Rattle.doc_text.specs.declared.fault.ChangeFault.{ChangeFault}
use Rattle.doc_text.specs.declared.fault.ChangeFault.TheVariants.{BadShape, Memory}

-- the answer is what was sought, or a bad shape where there is none; memory may run out at any time
abbrev pub Gives : {A B : Type 0} → (A → B) → Result A ChangeFault → Option B → Type 0
Gives view (Ok x) sought = sought ≡ Some (view x)
Gives view (Err BadShape) sought = sought ≡ None
Gives view (Err Memory) sought = Unit {0}

-- the answer is the number of the first of these values, which are the last ones of an array
pub record Rest (doc : Doc) (answer : Option ℕ) (values : List Json) : Type 0 where
  pub parent : ℕ
  pub tree : Json
  pub count : ℕ
  pub next : FoundChild doc parent tree count answer
  pub are : drop count (children tree) ≡ values
