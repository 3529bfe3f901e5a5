-- Parts of a text, and lists of parts.
use Rattle.std.specs.Prelude.{ℕ, Bool, true, false, ◌||◌, List, [], ◌∷◌, ◌++◌, nat_lt, if◌then◌else◌}
use Rattle.std.specs.Prelude.{Option, Some, None}
use Rattle.json_text.specs.declared.change.Change.{Change}
use Rattle.json_text.specs.Json.{Json, span_of}
use Rattle.json_nodes.specs.Texts.{between}

-- a value's bytes
abbrev pub own : List ℕ → Json → List ℕ
own bs j = between (span_of j).from (span_of j).to bs

-- the bytes from one place to another, with a change made that lies there
abbrev pub window : List ℕ → Option Change → ℕ → ℕ → List ℕ
window bs None from to = between from to bs
window bs (Some c) from to = if nat_lt c.span.from from || nat_lt to c.span.to then between from to bs else between from c.span.from bs ++ (c.text ++ between c.span.to to bs)

abbrev pub comma : Bool → List ℕ
comma true = 44 ∷ []
comma false = []

-- joined with commas, where one or none stands in front already
abbrev pub listed : Bool → List (List ℕ) → List ℕ
listed started [] = []
listed started (x ∷ xs) = comma started ++ (x ++ listed true xs)

-- in braces
abbrev pub braced : List (List ℕ) → List ℕ
braced xs = 123 ∷ (listed false xs ++ 125 ∷ [])

-- in brackets
abbrev pub bracketed : List (List ℕ) → List ℕ
bracketed xs = 91 ∷ (listed false xs ++ 93 ∷ [])
