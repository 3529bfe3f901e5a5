-- A row of the routing table, as data: what is sent, in which order, and what it depends on.
use Rattle.std.specs.Prelude.{Bool, true, false, List, [], ◌∷◌, ◌++◌}
use Rattle.std.specs.Prelude.{Option, Some, None}
use Rattle.mux_history.specs.declared.out.Out.{Out}
use Rattle.event_model.specs.Event.{Event, behind}

pub data Row : Type 0 where
  nothing : Row
  send : Out → Row
  after : Row → Row → Row
  choose : Bool → Row → Row → Row
  look : (List Event → Row) → Row

-- the outs of a row behind these events: `look` sees the events as they stand at its place
abbrev pub outs : Row → List Event → List Out
outs nothing events = []
outs (send out) events = out ∷ []
outs (after p q) events = let xs = outs p events in xs ++ outs q (behind events xs)
outs (choose true p q) events = outs p events
outs (choose false p q) events = outs q events
outs (look f) events = outs (f events) events

-- the one, then the other
infixr 40 ◌⨾◌
abbrev pub ◌⨾◌ : Row → Row → Row
◌⨾◌ p q = after p q

-- a row for each
abbrev pub each : {A : Type 0} → (A → Row) → List A → Row
each row [] = nothing
each row (x ∷ xs) = after (row x) (each row xs)

-- the first where there is nothing, the second with what is there
abbrev pub on : {A : Type 0} → Option A → Row → (A → Row) → Row
on None p f = p
on (Some a) p f = f a
