-- The integers of positions, LSP 3.17 (uinteger), as JSON writes them.
use Rattle.std.specs.Prelude.{ℕ, ◌+◌, ◌-◌, ◌*◌, min, List, [], ◌∷◌, codes, bytes_eq, if◌then◌else◌}
use Rattle.std.specs.Prelude.{Option, Some, None}
use Rattle.json_text.specs.Number.{is_digit}

abbrev pub greatest : ℕ
greatest = 4_294_967_295

-- behind digits of this value: all digits together, at most the greatest; none where another byte stands there
abbrev pub unsigned_behind : ℕ → List ℕ → Option ℕ
unsigned_behind n [] = Some (min n greatest)
unsigned_behind n (d ∷ ds) = if is_digit d then unsigned_behind (n * 10 + (d - 48)) ds else None

-- the number that these bytes write, where it is an integer that isn't negative; a minus may stand before zero
abbrev pub unsigned : List ℕ → Option ℕ
unsigned ds = if bytes_eq ds (codes "-0") then Some 0 else unsigned_behind 0 ds
