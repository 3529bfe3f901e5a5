-- Values under their names, as an object's members are kept to be written, and the pairs that they stand for.
use Rattle.std.specs.Prelude.{◌≡◌, ℕ, ◌<◌, List, [], ◌∷◌, Vec, encode_utf8_all}
use Rattle.std.specs.Global.{Global}
use Rattle.json_text.specs.Json.{Json}
use Rattle.json_nodes.specs.At.{At}
use Rattle.json_nodes.specs.Doc.{Doc}
use Rattle.capability_meet.specs.ValueText.{Pair, value_text}

-- a name and the number of a value
abbrev pub Entry : Type 0
Entry = Vec ℕ Global × ℕ

-- the numbers are between these two
abbrev pub AreBetween : ℕ → ℕ → List Entry → Type 0
AreBetween low high [] = Unit {0}
AreBetween low high (e ∷ es) = (low < e.1) × (e.1 < high) × AreBetween low high es

-- a value of this number has this text
abbrev pub HasText : Doc → ℕ → List ℕ → Type 0
HasText doc k text = (t : Json) × At doc k t × (text ≡ value_text t)

-- one by one the names are those of the pairs, and the values have their texts
abbrev pub ArePairs : Doc → List Entry → List Pair → Type 0
ArePairs doc [] [] = Unit {0}
ArePairs doc (e ∷ es) (p ∷ ps) = (e.0.items ≡ encode_utf8_all p.0) × HasText doc e.1 p.1 × ArePairs doc es ps
ArePairs doc [] (p ∷ ps) = ⊥
ArePairs doc (e ∷ es) [] = ⊥
