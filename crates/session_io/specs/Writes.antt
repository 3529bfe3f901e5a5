-- What is written of the orders that a session takes (LSP 3.17, Base Protocol).
use Rattle.std.specs.Prelude.{◌≡◌, ◌≢◌, ℕ, ◌≤◌, List, [], ◌∷◌, ◌++◌, Bool, true, false, not, map, length, replicate, if◌then◌else◌}
use Rattle.std.specs.Prelude.{Option, Some, None}
use Rattle.std.specs.Io.KnownBytes.{append_known}
use Rattle.outside_io.specs.Faults.{Rose}
use Rattle.base_frame.specs.Frames.{framed, all_framed}
use Rattle.lane_lists.specs.declared.item.Order.{Order}
use Rattle.lane_lists.specs.declared.item.Order.TheVariants as order
use Rattle.lane_lists.specs.declared.item.Side.{Side}
use Rattle.lane_lists.specs.declared.item.Side.TheVariants as side
use Rattle.session_io.specs.declared.write.Wrote.{Wrote}

abbrev pub body_orders : List (List ℕ) → List Order
body_orders bodies = map order.Body bodies

abbrev pub broken : Bool → List Side
broken true = side.Broke ∷ []
broken false = []

-- of the bodies that were ordered these were written whole, and of the others at most a part of the first, behind a fault
pub record WroteSoFar (written written' : Option (List ℕ)) (before now : ℕ) (taken taken' : List Order) (sides sides' : List Side) (broke : Bool) : Type 0 where
  pub whole : List (List ℕ)
  pub others : List (List ℕ)
  pub part : List ℕ
  pub rest : List ℕ
  pub took : taken' ≡ taken ++ body_orders (whole ++ others)
  pub wrote : written' ≡ append_known written (all_framed whole ++ part)
  pub front : all_framed others ≡ part ++ rest
  pub items : sides' ≡ sides ++ (replicate (length whole) side.Wrote ++ broken broke)
  pub unbroken : broke ≡ false → (others ≡ []) × (part ≡ [])
  pub failing : broke ≡ true → others ≢ []
  pub fault : broke ≡ true → Rose before now
  pub later : before ≤ now

-- a frame was written, or a part of it behind a fault
pub record WroteFrame (body : List ℕ) (written written' : Option (List ℕ)) (before now : ℕ) (whole : Bool) : Type 0 where
  pub part : List ℕ
  pub rest : List ℕ
  pub front : framed body ≡ part ++ rest
  pub wrote : written' ≡ append_known written part
  pub all : whole ≡ true → rest ≡ []
  pub fault : whole ≡ false → Rose before now
  pub later : before ≤ now

abbrev pub end_orders : Option Order → List Order
end_orders None = []
end_orders (Some o) = o ∷ []

-- a session's writing: the orders taken, what was written, and what was said of each body. Where memory ran out or the core goes on no more, what was said is told too: a body in which it was cut off is one of the others, of which nothing was said
pub record WroteAs (written written' : Option (List ℕ)) (before now : ℕ) (taken taken' : List Order) (sides sides' : List Side) (x : Wrote) : Type 0 where
  pub whole : List (List ℕ)
  pub others : List (List ℕ)
  pub part : List ℕ
  pub rest : List ℕ
  pub took : taken' ≡ taken ++ (body_orders (whole ++ others) ++ end_orders x.end)
  pub wrote : written' ≡ append_known written (all_framed whole ++ part)
  pub front : all_framed others ≡ part ++ rest
  pub all : x.cut ≡ false → x.broke ≡ false → (others ≡ []) × (part ≡ [])
  pub items : sides' ≡ sides ++ (replicate (length whole) side.Wrote ++ broken x.broke)
  pub failing : x.broke ≡ true → others ≢ []
  pub fault : x.broke ≡ true → Rose before now
  pub ends : x.cut ≡ false → x.end ≡ None → ⊥
  pub no_body : (body : List ℕ) → x.end ≡ Some (order.Body body) → ⊥
  pub later : before ≤ now

-- at most a part of the frame went out
pub record WroteFront (body : List ℕ) (written written' : Option (List ℕ)) (before now : ℕ) : Type 0 where
  pub part : List ℕ
  pub rest : List ℕ
  pub front : framed body ≡ part ++ rest
  pub wrote : written' ≡ append_known written part
  pub later : before ≤ now

-- one order more: dropped behind a failed write, or written whole, or its write failed
pub data WroteOrder (body : List ℕ) (written written' : Option (List ℕ)) (before now : ℕ) (sides sides' : List Side) (broke broke' : Bool) : Type 0 where
  dropped : broke ≡ true → broke' ≡ true → written' ≡ written → before ≡ now → sides' ≡ sides → WroteOrder body written written' before now sides sides' broke broke'
  wrote : (whole : Bool) → broke ≡ false → broke' ≡ not whole → WroteFrame body written written' before now whole → sides' ≡ sides ++ (if whole then side.Wrote else side.Broke) ∷ []
      → WroteOrder body written written' before now sides sides' broke broke'
