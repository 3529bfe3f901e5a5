-- What is known while a group ends whose last start refuses its `initialize`, or ended.
use Rattle.std.specs.Prelude.{◌≡◌, ℕ, List, ◌++◌, false}
use Rattle.std.specs.Prelude.{Some, slice_get}
use Rattle.mux_history.specs.declared.out.Out.{Out}
use Rattle.event_model.specs.Stages.{is_ready}
use Rattle.mux_tables.specs.declared.tables.Start.{Start}

-- the last start that is kept of this group isn't ready
abbrev pub IsUnready : ℕ → List Start → Type 0
IsUnready g lasts = (place : ℕ) (x : Start) → slice_get lasts place ≡ Some x → x.life.group ≡ g → is_ready x.life.stage ≡ false

-- some are said behind those that were
pub record Adds (xs ys : List Out) : Type 0 where
  pub more : List Out
  pub is : ys ≡ xs ++ more
