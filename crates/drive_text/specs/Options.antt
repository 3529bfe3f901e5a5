-- What goes on where there is a value.
use Rattle.std.specs.Prelude.{Option, Some, None}

abbrev pub then_option : {A B : Type 0} → Option A → (A → Option B) → Option B
then_option None f = None
then_option (Some a) f = f a
