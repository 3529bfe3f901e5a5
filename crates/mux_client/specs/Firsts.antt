-- The first frame of a source, so far.
use Rattle.std.specs.Prelude.{◌≡◌, ℕ, List, [], Option}
use Rattle.std.specs.Io.KnownBytes.{append_known, prepend_known}
use Rattle.base_frame.specs.Frames.{HasNoFrame}
use Rattle.base_frame.specs.Reader.{Held, Stands}

-- these bytes were read, and no frame is whole
pub record FirstSoFar (limit : ℕ) (reader : Held) (taken taken' left left' : Option (List ℕ)) : Type 0 where
  pub fed : List ℕ
  pub reads : taken' ≡ append_known taken fed
  pub leaves : left ≡ prepend_known fed left'
  pub limit_is : reader.limit ≡ limit
  pub stands : Stands reader fed []
  pub none : HasNoFrame limit fed
