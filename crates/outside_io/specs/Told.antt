-- Lists that an object tells, or doesn't: what a call adds at the end, and what it takes off the front.
use Rattle.std.specs.Prelude.{List, ◌++◌, Option, option_map}

-- the told list, and then these
abbrev pub append_to : {T : Type 0} → Option (List T) → List T → Option (List T)
append_to told xs = option_map (λ before. before ++ xs) told

-- these, and then the told list
abbrev pub prepend_to : {T : Type 0} → List T → Option (List T) → Option (List T)
prepend_to xs told = option_map (λ after. xs ++ after) told
