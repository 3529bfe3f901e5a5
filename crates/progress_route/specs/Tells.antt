-- How editors are told of a body: one after the other.
use Rattle.std.specs.Prelude.{ℕ, List, [], ◌∷◌}
use Rattle.progress_route.specs.declared.kind.Kind.{Kind}
use Rattle.progress_route.specs.Tables.{Part, edited, told}

abbrev pub told_each : ℕ → List ℕ → Kind → List ℕ → List (ℕ × Part) → List (ℕ × Part)
told_each k body kind [] parts = parts
told_each k body kind (e ∷ es) parts = told_each k body kind es (edited e (told k body kind) parts)
