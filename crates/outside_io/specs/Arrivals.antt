-- What holds of an accept by its answer.
use Rattle.std.specs.Prelude.{⊤}
use Rattle.outside_io.specs.declared.port.Arrival.{Arrival}
use Rattle.outside_io.specs.declared.port.Arrival.TheVariants.{Link, Nobody, Closed}

-- it holds where a link came
abbrev pub OnLink : Arrival → Type 0 → Type 0
OnLink Link p = p
OnLink Nobody p = ⊤
OnLink Closed p = ⊤

-- it holds where no link came
abbrev pub OnNoLink : Arrival → Type 0 → Type 0
OnNoLink Link p = ⊤
OnNoLink Nobody p = p
OnNoLink Closed p = p
