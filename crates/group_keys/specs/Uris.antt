-- Folders whose URIs are texts.
use Rattle.std.specs.Prelude.{ℕ, List, IsUtf8}
use Rattle.std.specs.List.{AllByRecursion}

abbrev pub AreTexts : List (List ℕ × List ℕ) → Type 0
AreTexts folders = AllByRecursion (λ (folder : List ℕ × List ℕ). IsUtf8 folder.0) folders
