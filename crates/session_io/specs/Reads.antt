-- What is posted of the bytes that a session reads (LSP 3.17, Base Protocol).
use Rattle.std.specs.Prelude.{◌≡◌, ℕ, List, [], ◌∷◌, ◌++◌, map, IfSome}
use Rattle.std.specs.Prelude.{Option, Some, None}
use Rattle.std.specs.Io.KnownBytes.{append_known}
use Rattle.outside_io.specs.Faults.{Rose}
use Rattle.mux_history.specs.declared.cause.Why.{Why}
use Rattle.mux_history.specs.declared.cause.Why.TheVariants as why
use Rattle.base_frame.specs.Frames.{Splits, HasNoFrame, HasNoFault}
use Rattle.base_frame.specs.Reader.{Held, IsFaulty, Stands}
use Rattle.lane_lists.specs.declared.item.Posted.{Posted}
use Rattle.lane_lists.specs.declared.item.Posted.TheVariants as posted
use Rattle.session_io.specs.declared.part.End.TheVariants as end
use Rattle.session_io.specs.declared.read.Frames.{Frames}
use Rattle.session_io.specs.declared.read.Frames.TheVariants as frames
use Rattle.session_io.specs.declared.read.Stop.{Stop}
use Rattle.session_io.specs.declared.read.Stop.TheVariants as stop

abbrev pub bodies : List (List ℕ) → List Posted
bodies contents = map posted.Body contents

-- all frames of these bytes are given, and behind them stand bytes that are neither a frame nor faulty as yet, or a fault
abbrev pub AllGiven : ℕ → List ℕ → List (List ℕ) → (List ℕ → Type 0) → Type 0
AllGiven limit fed given What = (rest : List ℕ) × (Splits limit fed given rest × HasNoFrame limit rest) × What rest

abbrev pub AllPosted : ℕ → List ℕ → List (List ℕ) → Frames → Type 0
AllPosted limit fed given frames.Short = AllGiven limit fed given (HasNoFault limit)
AllPosted limit fed given frames.Bad = AllGiven limit fed given (IsFaulty limit)
AllPosted limit fed given frames.Cut = Unit {0}

-- only where the posting was cut off may a content be lost
abbrev pub LostBy : Frames → List (List ℕ) → Type 0
LostBy frames.Short lost = lost ≡ []
LostBy frames.Bad lost = lost ≡ []
LostBy frames.Cut lost = Unit {0}

-- the contents that the reader gave were posted; the last may have been refused
pub record PostedFrames (old new : Held) (before after : List Posted) (result : Frames) : Type 0 where
  pub more : List (List ℕ)
  pub lost : List (List ℕ)
  pub limit : new.limit ≡ old.limit
  pub posts : after ≡ before ++ bodies more
  pub losses : LostBy result lost
  pub stands : (fed : List ℕ) (given : List (List ℕ)) → Stands old fed given → Stands new fed (given ++ (more ++ lost))
  pub all : (fed : List ℕ) (given : List (List ℕ)) → Stands old fed given → AllPosted old.limit fed (given ++ more) result

-- what a stop says of the bytes read and the contents posted: all frames were posted, and the source has ended, a read has failed, or a fault stands there
abbrev pub StoppedBy : ℕ → List ℕ → List (List ℕ) → Option (List ℕ) → ℕ → ℕ → Stop → Type 0
StoppedBy limit fed given left before now (stop.Ended why.End) = AllPosted limit fed given frames.Short × IfSome left (λ bytes. bytes ≡ [])
StoppedBy limit fed given left before now (stop.Ended why.ReadFault) = AllPosted limit fed given frames.Short × Rose before now
StoppedBy limit fed given left before now (stop.Ended why.BadFrame) = AllPosted limit fed given frames.Bad
StoppedBy limit fed given left before now (stop.Ended why.WriteFault) = ⊥
StoppedBy limit fed given left before now (stop.Told how) = Unit {0}
StoppedBy limit fed given left before now stop.Cut = Unit {0}

-- the contents that are posted are those of the first frames of the bytes read
pub record ReadFrames (limit : ℕ) (taken taken' left' : Option (List ℕ)) (before now : ℕ) (posts posts' : List Posted) (result : Stop) : Type 0 where
  pub fed : List ℕ
  pub given : List (List ℕ)
  pub lost : List (List ℕ)
  pub rest : List ℕ
  pub read : taken' ≡ append_known taken fed
  pub splits : Splits limit fed (given ++ lost) rest
  pub posted : posts' ≡ posts ++ bodies given
  pub stopped : StoppedBy limit fed given left' before now result

-- how a session that stopped so is said to have ended
abbrev pub why_of : Stop → Option Why
why_of (stop.Ended w) = Some w
why_of (stop.Told end.Closed) = Some why.End
why_of (stop.Told end.Done) = Some why.WriteFault
why_of stop.Cut = None

abbrev pub end_items : Option Why → List Posted
end_items None = []
end_items (Some w) = posted.Ended w ∷ []

-- the same, and then how the session ended
pub record ReadAs (limit : ℕ) (taken taken' left' : Option (List ℕ)) (before now : ℕ) (posts posts' : List Posted) (result : Stop) : Type 0 where
  pub fed : List ℕ
  pub given : List (List ℕ)
  pub lost : List (List ℕ)
  pub rest : List ℕ
  pub read : taken' ≡ append_known taken fed
  pub splits : Splits limit fed (given ++ lost) rest
  pub posted : posts' ≡ posts ++ (bodies given ++ end_items (why_of result))
  pub stopped : StoppedBy limit fed given left' before now result

-- so far the reader gave these contents, and they were posted
pub record PostedSoFar (old new : Held) (before after : List Posted) : Type 0 where
  pub more : List (List ℕ)
  pub limit : new.limit ≡ old.limit
  pub posts : after ≡ before ++ bodies more
  pub stands : (fed : List ℕ) (given : List (List ℕ)) → Stands old fed given → Stands new fed (given ++ more)

-- so far all frames of the bytes read were posted
pub record ReadSoFar (limit : ℕ) (reader : Held) (taken taken' : Option (List ℕ)) (posts posts' : List Posted) : Type 0 where
  pub fed : List ℕ
  pub given : List (List ℕ)
  pub read : taken' ≡ append_known taken fed
  pub limit_is : reader.limit ≡ limit
  pub stands : Stands reader fed given
  pub posted : posts' ≡ posts ++ bodies given
  pub all : AllPosted limit fed given frames.Short
