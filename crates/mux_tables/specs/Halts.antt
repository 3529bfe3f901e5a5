-- The ids that a stop of all answers.
use Rattle.std.specs.Prelude.{ℕ, List, [], ◌∷◌, filter, map, Option, Some, None}
use Rattle.id_rewrite.specs.declared.pending.Pending.{Pending}
use Rattle.group_laws.specs.group_rows.specs.Forwarded.{Forwarded, is_of}

-- what an editor called a request, where it is open
abbrev pub id_at : Option Pending → List (List ℕ)
id_at None = []
id_at (Some p) = p.id ∷ []

-- what an editor called its open requests
abbrev pub ids_at : ℕ → List Forwarded → List (List ℕ)
ids_at e fs = map (λ (f : Forwarded). f.id) (filter (is_of e) fs)
