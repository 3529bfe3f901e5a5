-- Another group is founded.
use Rattle.mux_tables.specs.Documents.{nothing_owed}
use Rattle.mux_turns.proofs.Evictions.{replaces}
use Rattle.mux_turns.proofs.evicting.replace.Goals as goal

pub returns-clause-does : goal.returns-clause-does
returns-clause-does c = λ settings before base e body next numbered.
    replaces settings c.args.tables.now c.evict.new.tables c.found.new.tables before base e c.args.g c.args.new body c.args.outs.now c.evict.new.outs c.found.new.outs next (c.in_ok-evict.ensures.does settings nothing_owed base numbered)
    (λ still. c.in_ok-found.ensures.does settings before base e body still) (λ still st ds. c.in_ok-found.ensures.documents settings nothing_owed base still st ds)
