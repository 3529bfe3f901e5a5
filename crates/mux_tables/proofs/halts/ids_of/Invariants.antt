-- The ids so far, and those to come.
use Rattle.std.proofs.Common.{◌≡◌, ◌++◌, drop, flat_map}
use Rattle.id_rewrite.specs.Tables.{pending_of}
use Rattle.mux_tables.specs.Halts.{id_at}
use Rattle.mux_tables.proofs.halts.ids_of.Given as goal

abbrev pub invariant-loop-n : goal.invariant-loop-n
invariant-loop-n l = flat_map (λ n. id_at (pending_of n l.ids.requests)) l.n-items ≡ l.texts.items ++ flat_map (λ n. id_at (pending_of n l.ids.requests)) (drop l.n-index l.n-items)
