-- What an editor that leaves was asked is refused.
use Rattle.std.proofs.Common.{refl, ap, ◌++◌, ◌∙◌}
use Rattle.mux_tables.specs.Refusals.{refusals}
use Rattle.mux_tables.proofs.Starts.{houses_stay, read_same, stages_stay, starts_stay}
use Rattle.mux_tables.proofs.Refusing.{refused_by, refused_documents}
use Rattle.mux_tables.proofs.tables.Tables.refuse_asks.Goals as goal

pub returns-clause-starts : goal.returns-clause-starts
returns-clause-starts c = starts_stay c.args.self.now.lasts.items c.args.g c.index_mut-last.result.now (record c.index_mut-last.result.now { asks = c.leave.new.self }) c.requires c.index_mut-last.ensures.value refl

pub returns-clause-stages : goal.returns-clause-stages
returns-clause-stages c = stages_stay c.args.self.now.lasts.items c.args.g c.index_mut-last.result.now (record c.index_mut-last.result.now { asks = c.leave.new.self }) c.requires c.index_mut-last.ensures.value refl

pub returns-clause-groups : goal.returns-clause-groups
returns-clause-groups c = houses_stay c.args.self.now.lasts.items c.args.g c.index_mut-last.result.now (record c.index_mut-last.result.now { asks = c.leave.new.self }) c.requires c.index_mut-last.ensures.value refl

pub returns-clause-does : goal.returns-clause-does
returns-clause-does c = λ settings base x at ready.
    refused_by settings c.args.self.now _ base c.args.g c.args.e x c.index_mut-last.result.now c.leave.new.self c.in_ok-left.left.items c.start.result c.args.outs.now c.refuse_all.new.outs (read_same c.args.self.now.lasts.items c.args.g c.index_mut-last.result.now x c.requires c.index_mut-last.ensures.value at) at ready
    c.in_ok-left.ensures.asks c.in_ok-left.ensures.left c.start.ensures refl refl refl refl refl refl (c.in_ok-refuse_all.ensures ∙ ap (λ ks. c.args.outs.now ++ refusals c.start.result ks) c.deref.ensures.value)

pub returns-clause-documents : goal.returns-clause-documents
returns-clause-documents c = λ settings owed base x at ready st ds.
    refused_documents settings owed c.args.self.now _ base c.args.g c.args.e x c.index_mut-last.result.now c.leave.new.self c.in_ok-left.left.items c.start.result c.args.outs.now c.refuse_all.new.outs (read_same c.args.self.now.lasts.items c.args.g c.index_mut-last.result.now x c.requires c.index_mut-last.ensures.value at) at ready
    c.in_ok-left.ensures.asks c.start.ensures refl refl refl (c.in_ok-refuse_all.ensures ∙ ap (λ ks. c.args.outs.now ++ refusals c.start.result ks) c.deref.ensures.value) st ds
