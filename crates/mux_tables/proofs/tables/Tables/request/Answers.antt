-- The request of a number.
use Rattle.std.specs.Prelude.{option_copied}
use Rattle.mux_tables.proofs.Answering.{request_noted}
use Rattle.mux_tables.proofs.Served.{answer_found}
use Rattle.mux_tables.proofs.tables.Tables.request.Goals as goal

pub returns-clause-found : goal.returns-clause-found
returns-clause-found c = λ settings events s at st. answer_found settings c.args.self.now events c.args.g s c.args.n c.index.result.now (option_copied c.get.result) at c.requires c.index.ensures c.get.ensures.value st

pub returns-clause-noted : goal.returns-clause-noted
returns-clause-noted c = λ settings owed events s p at is ds. request_noted settings owed c.args.self.now events c.args.g s c.args.n c.index.result.now (option_copied c.get.result) p at c.requires c.index.ensures c.get.ensures.value is ds
