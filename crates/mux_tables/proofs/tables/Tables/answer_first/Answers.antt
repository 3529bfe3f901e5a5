-- The first that waits is answered.
use Rattle.std.proofs.Common.{refl}
use Rattle.mux_tables.proofs.DocumentSaid.{told_documents}
use Rattle.mux_tables.proofs.Said.{first_does}
use Rattle.mux_tables.proofs.tables.Tables.answer_first.Goals as goal

pub returns-clause-does : goal.returns-clause-does
returns-clause-does c = λ settings base r first mine k a.
    first_does settings c.args.self.now _ c.args.outs.now c.push.new.self base c.args.g c.args.e c.args.body r first mine k a c.pop.ensures refl refl refl refl refl refl refl refl c.in_ok-push.ensures.ok

pub returns-clause-documents : goal.returns-clause-documents
returns-clause-documents c = λ settings owed base ds. told_documents settings owed c.args.self.now _ base c.args.outs.now c.push.new.self c.args.e c.args.body refl refl refl c.in_ok-push.ensures.ok ds
