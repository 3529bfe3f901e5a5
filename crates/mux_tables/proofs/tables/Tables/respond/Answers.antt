-- An answer to a start.
use Rattle.std.proofs.Common.{refl}
use Rattle.mux_tables.proofs.Sent.{respond_does}
use Rattle.mux_tables.proofs.DocumentSaid.{notified_documents}
use Rattle.mux_tables.proofs.tables.Tables.respond.Goals as goal

pub returns-clause-does : goal.returns-clause-does
returns-clause-does c = λ settings base s at runs counts free none. respond_does settings c.args.self.now c.args.outs.now c.push.new.self base c.args.g s c.start.result c.index.result.now c.args.text at c.requires c.index.ensures runs counts free none c.start.ensures c.in_ok-push.ensures.ok

pub returns-clause-documents : goal.returns-clause-documents
returns-clause-documents c = λ settings owed base silent aside ds. notified_documents settings owed c.args.self.now c.args.self.now base c.args.outs.now c.push.new.self c.start.result c.args.text silent aside refl refl refl c.in_ok-push.ensures.ok ds
