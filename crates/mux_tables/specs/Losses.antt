-- What ends with the program of a group's last start (X2).
use Rattle.std.specs.Prelude.{ℕ, List, filter, map}
use Rattle.group_laws.specs.group_rows.specs.Asks.{Ask, is_with}

-- the numbers of an editor's open asks, in the order in which they were put
abbrev pub open_asks : ℕ → List Ask → List ℕ
open_asks e qs = map (λ (a : Ask). a.number) (filter (is_with e) qs)
