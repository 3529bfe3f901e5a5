-- Too many groups have editors.
use Rattle.mux_tables.specs.Documents.{nothing_owed}
use Rattle.mux_turns.proofs.Turning.{turned}
use Rattle.mux_turns.proofs.placing.turn_away.Goals as goal

pub returns-clause-does : goal.returns-clause-does
returns-clause-does c = λ settings before base body method id params read says off.
    turned settings c.args.tables.now c.refuse.new.tables c.close.new.self before base c.args.e body method id params c.args.outs.now c.refuse.new.outs c.close.new.outs c.in_ok-close.field-0 says off
    (c.in_ok-refuse.ensures.does settings base body method id params read says) (λ ds. c.in_ok-refuse.ensures.documents settings nothing_owed base ds) (c.in_ok-close.ensures.does settings base) (λ st ds. c.in_ok-close.ensures.documents settings base st ds)
