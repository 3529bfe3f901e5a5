-- Where bytes that are no JSON text go wrong, and where they nest too deep.
use Rattle.std.specs.Prelude.{ℕ, ◌+◌, ◌<◌, ◌≤◌, List, ◌++◌, length, take}
use Rattle.json_text.specs.Json.{Json, IsText, depth}

-- these bytes begin a JSON text, or are one
abbrev pub Begins : List ℕ → Type 0
Begins bs = (more : List ℕ) × (j : Json) × IsText (bs ++ more) j

-- they begin one with at most d arrays and objects open at once
abbrev pub BeginsWithin : ℕ → List ℕ → Type 0
BeginsWithin d bs = (more : List ℕ) × (j : Json) × IsText (bs ++ more) j × (depth j ≤ d)

-- p is the length of the longest prefix that begins a JSON text, and no bracket before p opens level d + 1
pub record IsSyntaxFault (d : ℕ) (bytes : List ℕ) (p : ℕ) : Type 0 where
  pub inside : p ≤ length bytes
  pub begins : BeginsWithin d (take p bytes)
  pub longest : (q : ℕ) → p < q → q ≤ length bytes → Begins (take q bytes) → ⊥
  pub no_text : (j : Json) → IsText bytes j → ⊥

-- the bracket at p opens level d + 1, and no syntax fault stands before it
pub record IsDepthFault (d : ℕ) (bytes : List ℕ) (p : ℕ) : Type 0 where
  pub inside : p < length bytes
  pub before : BeginsWithin d (take p bytes)
  pub begins : Begins (take (p + 1) bytes)
  pub deeper : BeginsWithin d (take (p + 1) bytes) → ⊥
