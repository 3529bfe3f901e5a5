-- The start is sent what it is owed.
use Rattle.mux_tables.proofs.DocumentOwed.{paid_does}
use Rattle.mux_tables.proofs.tables.Tables.pay.Goals as goal

pub returns-clause-does : goal.returns-clause-does
returns-clause-does c = λ settings base g x bodies at ready are. paid_does settings c.args.self.now g x at ready base c.args.outs.now c.append.new.self c.args.owed bodies are c.in_ok-append.ensures.ok
