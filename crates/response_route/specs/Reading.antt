-- What the reading of a result gives.
use Rattle.std.specs.Prelude.{◌≡◌, ℕ, List, [], ◌∷◌, ◌++◌, Vec, option_map}
use Rattle.std.specs.Prelude.{Option, Some, None, Result, Ok, Err}
use Rattle.std.specs.Global.{Global}
use Rattle.json_text.specs.Changes.{edits_of}
use Rattle.json_text.specs.Replace.{Edit}
use Rattle.json_text.specs.declared.change.Change.{Change}
use Rattle.json_text.specs.Json.{Json}
use Rattle.json_nodes.specs.At.{At}
use Rattle.json_nodes.specs.Doc.{Doc}
use Rattle.response_route.specs.declared.fault.EditFault.{EditFault}
use Rattle.response_route.specs.declared.fault.EditFault.TheVariants.{Modified, Memory}

-- the changes make these edits, or there are none where a version is refused; memory may run out at any time
abbrev pub Gives : Result (Vec Change Global) EditFault → Option (List Edit) → Type 0
Gives (Ok changes) edits = edits ≡ Some (edits_of changes.items)
Gives (Err Modified) edits = edits ≡ None
Gives (Err Memory) edits = Unit {0}

-- the changes from now on make these edits and then those of a document, if none is refused
abbrev pub Extends : Result Unit EditFault → List Edit → List Edit → Option (List Edit) → Type 0
Extends (Ok done) old new edits = option_map (λ es. old ++ es) edits ≡ Some new
Extends (Err Modified) old new edits = edits ≡ None
Extends (Err Memory) old new edits = Unit {0}

-- these are the numbers of these values
abbrev pub Stand : Doc → List ℕ → List Json → Type 0
Stand doc [] [] = Unit {0}
Stand doc (n ∷ ns) (j ∷ js) = At doc n j × Stand doc ns js
Stand doc [] (j ∷ js) = ⊥
Stand doc (n ∷ ns) [] = ⊥
