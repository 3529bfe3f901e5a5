-- A cause that an item means has no body that is longer than a core takes.
use Rattle.std.specs.Prelude.{◌≤◌, ⊤}
use Rattle.mux_history.specs.Cores.{body_length}
use Rattle.lane_lists.specs.declared.item.Meaning.{Meaning}
use Rattle.lane_lists.specs.declared.item.Meaning.TheVariants as meant

abbrev pub IsSmall : Meaning → Type 0
IsSmall (meant.Means cause) = body_length cause ≤ 268435456
IsSmall meant.Silent = ⊤
IsSmall meant.Stray = ⊤
