-- The program is to be ended.
use Rattle.std.proofs.Common.{refl, ap, None}
use Rattle.restart_replay.specs.Standings.{Standing}
use Rattle.mux_tables.proofs.Starts.{read_here, starts_stay}
use Rattle.mux_tables.proofs.Sent.{end_does}
use Rattle.mux_tables.proofs.DocumentSaid.{end_documents}
use Rattle.mux_tables.proofs.tables.Tables.end.Goals as goal

pub end-requires : goal.end-requires
end-requires c = c.requires.runs c.index_mut-last.result.now (read_here c.args.self.now.lasts.items c.args.g c.index_mut-last.result.now c.requires.group c.index_mut-last.ensures.value)

pub returns-clause-starts : goal.returns-clause-starts
returns-clause-starts c = starts_stay c.args.self.now.lasts.items c.args.g c.index_mut-last.result.now (record c.index_mut-last.result.now { life = c.end.new.self; shown = None }) c.requires.group c.index_mut-last.ensures.value (ap (λ (l : Standing). l.start) c.end.ensures)

pub returns-clause-does : goal.returns-clause-does
returns-clause-does c = λ settings base s at.
    end_does settings c.args.self.now _ c.args.outs.now c.push.new.self base c.args.g s c.start-start.result c.index_mut-last.result.now c.end.new.self at c.requires.group c.index_mut-last.ensures.value
    (c.requires.runs c.index_mut-last.result.now (read_here c.args.self.now.lasts.items c.args.g c.index_mut-last.result.now c.requires.group c.index_mut-last.ensures.value)) c.end.ensures c.end_stop.ensures refl refl refl refl refl refl refl refl c.start-start.ensures c.in_ok-push.ensures.ok

pub returns-clause-documents : goal.returns-clause-documents
returns-clause-documents c = λ settings owed base ds.
    end_documents settings owed c.args.self.now _ base c.args.outs.now c.push.new.self c.args.g c.start-start.result c.index_mut-last.result.now c.end.new.self c.requires.group c.index_mut-last.ensures.value c.end.ensures refl c.unready.ensures refl c.in_ok-push.ensures.ok ds
