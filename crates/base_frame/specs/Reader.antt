-- What a reader of frames stands for.
use Rattle.std.specs.Prelude.{◌≡◌, ℕ, List, ◌++◌, ◌⊎◌}
use Rattle.base_frame.specs.declared.block.BadWhy.{BadWhy}
use Rattle.base_frame.specs.Grammar.{IsFault}
use Rattle.base_frame.specs.Frames.{Splits, HasNoFrame}

pub record Held : Type 0 where
  pub limit : ℕ
  -- the contents to be given
  pub ready : List (List ℕ)
  -- bytes behind them
  pub rest : List ℕ

-- these bytes have a fault
abbrev pub IsFaulty : ℕ → List ℕ → Type 0
IsFaulty limit bs = (at : ℕ) × (why : BadWhy) × IsFault limit bs at why

-- a fault stands behind the contents to be given
abbrev pub IsBad : Held → Type 0
IsBad r = IsFaulty r.limit r.rest

-- the reader keeps the rest of the stream, or, where a fault stands in it, at least what shows the fault
pub record Keeps (limit : ℕ) (kept rest : List ℕ) : Type 0 where
  pub none_whole : HasNoFrame limit kept
  pub all_kept : (kept ≡ rest) ⊎ (IsFaulty limit kept × ((more : List ℕ) × (rest ≡ kept ++ more)))

-- the reader was fed these bytes, in whatever pieces, and gave these contents
abbrev pub Stands : Held → List ℕ → List (List ℕ) → Type 0
Stands r fed given = (rest : List ℕ) × Splits r.limit fed (given ++ r.ready) rest × Keeps r.limit r.rest rest
