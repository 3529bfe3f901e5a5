-- The start is sent `shutdown`.
use Rattle.std.proofs.Common.{refl, ap, None}
use Rattle.restart_replay.specs.Standings.{Standing}
use Rattle.mux_tables.proofs.Starts.{read_here, starts_stay}
use Rattle.mux_tables.proofs.Sent.{shut_does}
use Rattle.mux_tables.proofs.DocumentSaid.{shut_documents}
use Rattle.mux_tables.proofs.tables.Tables.shut.Goals as goal

pub stop-requires : goal.stop-requires
stop-requires c = c.requires.ready c.index_mut-last.result.now (read_here c.args.self.now.lasts.items c.args.g c.index_mut-last.result.now c.requires.group c.index_mut-last.ensures.value)

pub returns-clause-starts : goal.returns-clause-starts
returns-clause-starts c = starts_stay c.args.self.now.lasts.items c.args.g c.index_mut-last.result.now (record c.index_mut-last.result.now { life = c.stop.new.self; shown = None }) c.requires.group c.index_mut-last.ensures.value (ap (λ (l : Standing). l.start) c.stop.ensures)

pub returns-clause-does : goal.returns-clause-does
returns-clause-does c = λ settings base s name ps at says.
    shut_does settings c.args.self.now _ c.args.outs.now c.push.new.self base c.args.g s c.start-start.result c.args.n c.index_mut-last.result.now c.stop.new.self c.args.text name ps at c.requires.group c.index_mut-last.ensures.value
    (c.requires.ready c.index_mut-last.result.now (read_here c.args.self.now.lasts.items c.args.g c.index_mut-last.result.now c.requires.group c.index_mut-last.ensures.value)) says c.stop.ensures c.in_ok-begin_stop.ensures refl refl refl refl refl refl refl refl c.start-start.ensures c.in_ok-push.ensures.ok

pub returns-clause-documents : goal.returns-clause-documents
returns-clause-documents c = λ settings owed base name ps says ds.
    shut_documents settings owed c.args.self.now _ base c.args.outs.now c.push.new.self c.args.g c.start-start.result c.args.n c.args.self.now.course.time c.index_mut-last.result.now c.stop.new.self c.args.text name ps c.requires.group c.index_mut-last.ensures.value says c.stop.ensures
    refl c.unready.ensures refl c.in_ok-push.ensures.ok ds
