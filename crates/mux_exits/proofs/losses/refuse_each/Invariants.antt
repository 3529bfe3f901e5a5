-- Those before fail.
use Rattle.std.proofs.Common.{◌≡◌, ◌++◌, take}
use Rattle.mux_exits.specs.Losses.{refused}
use Rattle.mux_exits.proofs.losses.refuse_each.Given as goal

abbrev pub invariant-loop-id : goal.invariant-loop-id
invariant-loop-id l = l.losses.items ≡ l.initial.losses.items ++ refused l.e (take l.id-index l.ids)
