-- What a part of a turn does: it sends a row's outs behind those of the parts before it, and the tables stand for all of them.
use Rattle.std.specs.Prelude.{◌≡◌, List, ◌++◌}
use Rattle.mux_history.specs.declared.out.Out.{Out}
use Rattle.event_model.specs.Event.{Event, behind}
use Rattle.event_model.specs.Row.{Row, outs}

-- the two rows send the same, wherever they stand
pub record Alike (r p : Row) : Type 0 where
  pub sends : (events : List Event) → outs r events ≡ outs p events

-- `base`: the events before the entry, and its cause; `xs`, `ys`: the entry's outs before the part and behind it; `t`, `u`: the tables
pub record Done {K : Type 0} (Stands : K → List Event → Type 0) (row : Row) (base : List Event) (xs : List Out) (u : K) (ys : List Out) : Type 0 where
  pub outs : ys ≡ xs ++ outs row (behind base xs)
  pub stands : Stands u (behind base ys)

pub record Does {K : Type 0} (Stands : K → List Event → Type 0) (row : Row) (base : List Event) (t : K) (xs : List Out) (u : K) (ys : List Out) : Type 0 where
  pub done : Stands t (behind base xs) → Done Stands row base xs u ys
