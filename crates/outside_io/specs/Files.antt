-- The files of a folder.
use Rattle.std.specs.Prelude.{ℕ, List, [], ◌∷◌, Option, Some, None, if◌then◌else◌, string_bytes}
use Rattle.std.specs.Str.{bytes_eq}
use Rattle.std.specs.declared.string.String.{String}
use Rattle.std.specs.declared.vec.Vec.{Vec}

-- a file: the bytes of its path, and its own
pub record File : Type 0 where
  pub path : List ℕ
  pub bytes : List ℕ

-- the bytes of the first file of that path
abbrev pub bytes_at : List ℕ → List File → Option (List ℕ)
bytes_at path [] = None
bytes_at path (file ∷ files) = (if bytes_eq file.path path then Some file.bytes else bytes_at path files)

abbrev pub file_of : {Y Z : Type 0} → String Y × Vec ℕ Z → File
file_of file = record { path = string_bytes file.0; bytes = file.1.items }
