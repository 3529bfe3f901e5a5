use Rattle.std.proofs.Common.{◌≡◌, drop}
use Rattle.std.specs.Prelude.{find}
use Rattle.id_rewrite.specs.Tables.{pending_of}
use Rattle.mux_tables.specs.Tokens.{works}
use Rattle.mux_tables.proofs.tokens.first_among.Given as goal

abbrev pub invariant-loop-i : goal.invariant-loop-i
invariant-loop-i l = find (λ n. works l.token (pending_of n l.ids.requests)) l.numbers ≡ find (λ n. works l.token (pending_of n l.ids.requests)) (drop l.i l.numbers)
