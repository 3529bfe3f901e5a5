-- The result of `initialize` came.
use Rattle.std.proofs.Common.{refl, ap, sym, ◌∙◌}
use Rattle.std.specs.Prelude.{Some}
use Rattle.event_model.proofs.Places.{get_set_same, same_item}
use Rattle.restart_replay.specs.Standings.{Standing}
use Rattle.mux_tables.specs.declared.tables.Start.{Start}
use Rattle.mux_tables.proofs.Starts.{houses_stay, read_here, starts_stay}
use Rattle.mux_tables.proofs.Served.{result_moves}
use Rattle.rpc_message.specs.Message.{message_of}
use Rattle.mux_tables.proofs.DocumentReady.{ready_documents_by}
use Rattle.mux_tables.proofs.tables.Tables.hear_result.Goals as goal

pub returns-clause-stands : goal.returns-clause-stands
returns-clause-stands c = λ settings events s body at first named shows st.
    result_moves settings c.args.self.now _ events c.args.g s c.index_mut-last.result.now body c.args.n c.result.new.self c.forget.new.ids c.args.shown at c.requires.group c.index_mut-last.ensures.value (c.requires.stage c.index_mut-last.result.now (read_here c.args.self.now.lasts.items c.args.g c.index_mut-last.result.now c.requires.group c.index_mut-last.ensures.value)) first named shows c.result.ensures
    c.forget.ensures.requests c.forget.ensures.next c.forget.ensures.limit c.forget.ensures.order refl refl refl refl refl refl st

pub returns-clause-documents : goal.returns-clause-documents
returns-clause-documents c = λ settings events s body xs at parts gives st ds x here mine.
    let z = c.index_mut-last.result.now in
    ready_documents_by settings c.args.self.now _ events c.args.g s c.start-start.result c.args.encoding z (record z { life = c.result.new.self; ids = c.forget.new.ids; shown = Some c.args.shown }) body (message_of body) c.args.n xs c.args.parted.now parts c.in_ok-owed.owed x here at c.requires.group c.index_mut-last.ensures.value (c.requires.stage z (read_here c.args.self.now.lasts.items c.args.g z c.requires.group c.index_mut-last.ensures.value))
    gives c.result.ensures c.forget.ensures.requests c.start-start.ensures refl refl c.in_ok-owed.ensures mine st ds

pub returns-clause-starts : goal.returns-clause-starts
returns-clause-starts c = starts_stay c.args.self.now.lasts.items c.args.g c.index_mut-last.result.now (record c.index_mut-last.result.now { life = c.result.new.self; ids = c.forget.new.ids; shown = Some c.args.shown }) c.requires.group c.index_mut-last.ensures.value (ap (λ (l : Standing). l.start) c.result.ensures)

pub returns-clause-groups : goal.returns-clause-groups
returns-clause-groups c = houses_stay c.args.self.now.lasts.items c.args.g c.index_mut-last.result.now (record c.index_mut-last.result.now { life = c.result.new.self; ids = c.forget.new.ids; shown = Some c.args.shown }) c.requires.group c.index_mut-last.ensures.value (ap (λ (l : Standing). l.group) c.result.ensures)

pub returns-clause-ready : goal.returns-clause-ready
returns-clause-ready c = λ x at. ap (λ (w : Start). w.life.stage) (sym (same_item (sym (get_set_same c.args.self.now.lasts.items c.args.g (record c.index_mut-last.result.now { life = c.result.new.self; ids = c.forget.new.ids; shown = Some c.args.shown }) c.requires.group) ∙ at))) ∙ ap (λ (l : Standing). l.stage) c.result.ensures
