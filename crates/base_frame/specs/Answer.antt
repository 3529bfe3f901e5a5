-- What a reader's answers say.
use Rattle.std.specs.Prelude.{ℕ, List, [], ◌∷◌, ◌++◌}
use Rattle.base_frame.specs.declared.reader.Next.{Next}
use Rattle.base_frame.specs.declared.reader.Next.TheVariants.{Frame, NotYet, BadFrame}
use Rattle.base_frame.specs.Grammar.{IsFault}
use Rattle.base_frame.specs.Frames.{Splits, HasNoFrame, HasNoFault}
use Rattle.base_frame.specs.Reader.{Held, Stands}

-- all whole frames of the bytes fed were given, and these bytes stand behind them
abbrev pub Behind : Held → List ℕ → List (List ℕ) → List ℕ → Type 0
Behind r fed given rest = Splits r.limit fed given rest × HasNoFrame r.limit rest

-- A content is given. Or all whole frames of the bytes fed were given, and the bytes behind them are neither a frame nor
-- faulty as yet, or that fault stands there.
abbrev pub Gives : Held → List ℕ → List (List ℕ) → Next → Type 0
Gives r fed given (Frame body) = Stands r fed (given ++ body ∷ [])
Gives r fed given NotYet = Stands r fed given × ((rest : List ℕ) × Behind r fed given rest × HasNoFault r.limit rest)
Gives r fed given (BadFrame at why) = Stands r fed given × ((rest : List ℕ) × Behind r fed given rest × IsFault r.limit rest at why)

abbrev pub NotFrame : Next → Type 0
NotFrame (Frame body) = ⊥
NotFrame NotYet = Unit {0}
NotFrame (BadFrame at why) = Unit {0}

abbrev pub IsBadFrame : Next → Type 0
IsBadFrame (Frame body) = ⊥
IsBadFrame NotYet = ⊥
IsBadFrame (BadFrame at why) = Unit {0}
