-- One isn't awaited any more.
use Rattle.std.proofs.Common.{nat_eq, not, rules}
use Rattle.std.proofs.lemmas.Fn.{filter_same}
use Rattle.mux_tables.proofs.stops.end_stop.Goals as goal

pub returns : goal.returns
returns c = filter_same _ (λ n. not (nat_eq c.args.s n)) _ (λ x b f k. search rules) _ _ c.retain.ensures.filtered
