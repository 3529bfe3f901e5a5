-- A start of a group ended.
use Rattle.std.proofs.Common.{sym, ◌∙◌}
use Rattle.mux_tables.proofs.Exits.{lose_dead, lose_ends, lose_stays}
use Rattle.mux_tables.proofs.seats.lose.Goals as goal

pub returns-in_default : goal.returns-in_default
returns-in_default c = lose_dead c.args.restarts c.args.wanted c.args.groups.now c.exits.new.self c.args.g c.in_default.ensures.ended c.in_default.ensures.kept

pub returns-then-goes_on : goal.returns-then-goes_on
returns-then-goes_on c = lose_stays c.args.restarts c.in-Some.exits c.args.wanted c.args.groups.now c.args.g c.in-Some.ensures.count c.exits.new.self (sym c.goes_on.ensures ∙ c.if-goes_on.true) c.in-Some.ensures.kept

pub returns : goal.returns
returns c = lose_ends c.args.restarts c.in-Some.exits c.args.wanted c.args.groups.now c.args.g c.in-Some.ensures.count c.exits.new.self c.end.new.self (sym c.goes_on.ensures ∙ c.if-goes_on.false) c.in-Some.ensures.kept c.end.ensures
