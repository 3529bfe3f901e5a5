-- One read and one whole write.
use Rattle.std.specs.Prelude.{◌≡◌, ℕ, ◌<◌, ◌≤◌, Bool, true, false, List, [], ◌∷◌, length, take, Option}
use Rattle.std.specs.Io.KnownBytes.{append_known, prepend_known}
use Rattle.outside_io.specs.Faults.{Rose}
use Rattle.mux_client.specs.Sessions.{IsEnded, IsFront}
use Rattle.mux_client.specs.declared.pieces.NextByte.{NextByte}
use Rattle.mux_client.specs.declared.pieces.NextByte.TheVariants as next
use Rattle.mux_client.specs.declared.pieces.Piece.{Piece}
use Rattle.mux_client.specs.declared.pieces.Piece.TheVariants as piece

-- these bytes came, next of those that were left
pub record Came (taken taken' left left' : Option (List ℕ)) (bytes : List ℕ) : Type 0 where
  pub reads : taken' ≡ append_known taken bytes
  pub leaves : left ≡ prepend_known bytes left'

abbrev pub CamePiece : Option (List ℕ) → Option (List ℕ) → Option (List ℕ) → Option (List ℕ) → ℕ → ℕ → List ℕ → Piece → Type 0
CamePiece taken taken' left left' before now buffer (piece.Bytes n) = (0 < n) × (n ≤ length buffer) × Came taken taken' left left' (take n buffer)
CamePiece taken taken' left left' before now buffer piece.End = Came taken taken' left left' [] × IsEnded left'
CamePiece taken taken' left left' before now buffer piece.Failed = Came taken taken' left left' [] × Rose before now

abbrev pub CameByte : Option (List ℕ) → Option (List ℕ) → Option (List ℕ) → Option (List ℕ) → ℕ → ℕ → NextByte → Type 0
CameByte taken taken' left left' before now (next.Byte byte) = Came taken taken' left left' (byte ∷ [])
CameByte taken taken' left left' before now next.End = Came taken taken' left left' [] × IsEnded left'
CameByte taken taken' left left' before now next.Failed = Came taken taken' left left' [] × Rose before now

-- a front of these bytes went out, all of them where it could be
pub record Went (written written' : Option (List ℕ)) (before now : ℕ) (bytes : List ℕ) (whole : Bool) : Type 0 where
  pub part : List ℕ
  pub writes : written' ≡ append_known written part
  pub front : IsFront part bytes
  pub all : whole ≡ true → part ≡ bytes
  pub failed : whole ≡ false → Rose before now
  pub later : before ≤ now
