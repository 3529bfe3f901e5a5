-- A request is cancelled.
use Rattle.std.proofs.Common.{refl}
use Rattle.mux_tables.proofs.Starts.{asks_kept, houses_stay, stages_stay, starts_stay}
use Rattle.mux_tables.proofs.Sent.{cancel_does}
use Rattle.mux_tables.proofs.DocumentSaid.{cancel_documents}
use Rattle.mux_tables.proofs.tables.Tables.cancel.Goals as goal

pub returns-clause-starts : goal.returns-clause-starts
returns-clause-starts c = starts_stay c.args.self.now.lasts.items c.args.g c.index_mut-last.result.now (record c.index_mut-last.result.now { ids = c.mark.new.ids }) c.requires c.index_mut-last.ensures.value refl

pub returns-clause-groups : goal.returns-clause-groups
returns-clause-groups c = houses_stay c.args.self.now.lasts.items c.args.g c.index_mut-last.result.now (record c.index_mut-last.result.now { ids = c.mark.new.ids }) c.requires c.index_mut-last.ensures.value refl

pub returns-clause-stages : goal.returns-clause-stages
returns-clause-stages c = stages_stay c.args.self.now.lasts.items c.args.g c.index_mut-last.result.now (record c.index_mut-last.result.now { ids = c.mark.new.ids }) c.requires c.index_mut-last.ensures.value refl

pub returns-clause-asks : goal.returns-clause-asks
returns-clause-asks c = asks_kept c.args.self.now.lasts.items c.args.g c.index_mut-last.result.now (record c.index_mut-last.result.now { ids = c.mark.new.ids }) c.requires c.index_mut-last.ensures.value refl

pub returns-clause-does : goal.returns-clause-does
returns-clause-does c = λ settings base s method ps at says cancels written.
    cancel_does settings c.args.self.now _ c.args.outs.now c.push.new.self base c.args.g s c.start.result c.args.n c.index_mut-last.result.now c.mark.new.ids c.args.text method ps at c.requires c.index_mut-last.ensures.value says cancels written
    c.mark.ensures.requests c.mark.ensures.next c.mark.ensures.limit c.mark.ensures.order refl refl refl refl refl refl c.start.ensures c.in_ok-push.ensures.ok

pub returns-clause-documents : goal.returns-clause-documents
returns-clause-documents c = λ settings owed base method ps says cancels ds.
    cancel_documents settings owed c.args.self.now _ base c.args.outs.now c.push.new.self c.args.g c.start.result c.args.n c.index_mut-last.result.now (record c.index_mut-last.result.now { ids = c.mark.new.ids }) c.args.text method ps c.requires c.index_mut-last.ensures.value says cancels
    refl c.mark.ensures.requests refl refl refl c.in_ok-push.ensures.ok ds
