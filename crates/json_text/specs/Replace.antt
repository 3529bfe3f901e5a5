-- Bytes in which some places are replaced.
use Rattle.std.specs.Prelude.{ℕ, ◌-◌, ◌≤◌, List, [], ◌∷◌, ◌++◌, length, take, drop}
use Rattle.json_text.specs.declared.span.Span.{Span}

-- a place, and the bytes that come there
pub record Edit : Type 0 where
  pub span : Span
  pub text : List ℕ

-- the bytes from `at` on: those before the first place, its new bytes, and so on; for places that rise and don't overlap
abbrev pub replace_from : ℕ → List ℕ → List Edit → List ℕ
replace_from at bytes [] = drop at bytes
replace_from at bytes (e ∷ es) = take (e.span.from - at) (drop at bytes) ++ (e.text ++ replace_from e.span.to bytes es)

abbrev pub replace : List ℕ → List Edit → List ℕ
replace bytes es = replace_from 0 bytes es

-- the places rise from `at` on, don't overlap, and lie in n bytes
abbrev pub RiseFrom : ℕ → ℕ → List Edit → Type 0
RiseFrom at n [] = at ≤ n
RiseFrom at n (e ∷ es) = (at ≤ e.span.from) × (e.span.from ≤ e.span.to) × RiseFrom e.span.to n es

abbrev pub Rise : List ℕ → List Edit → Type 0
Rise bytes es = RiseFrom 0 (length bytes) es
