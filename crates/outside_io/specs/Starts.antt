-- A start that a berth was asked for.
use Rattle.std.specs.Prelude.{ℕ, List, Option}

-- the bytes of each word of its program, and those of the folder's path, where one was named
pub record Start : Type 0 where
  pub words : List (List ℕ)
  pub folder : Option (List ℕ)
