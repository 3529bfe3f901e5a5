-- A start publishes a list.
use Rattle.std.proofs.Common.{◌&&◌, refl, ap}
use Rattle.std.specs.Prelude.{None}
use Rattle.rpc_message.specs.Message.{message_of}
use Rattle.event_model.specs.Stages.{is_first_result, is_initializing}
use Rattle.mux_tables.proofs.DocumentHeard.{answer_documents_by}
use Rattle.mux_tables.proofs.Listed.{publish_by}
use Rattle.mux_tables.proofs.Parking.{not_spawning}
use Rattle.mux_tables.proofs.Starts.{stages_stay, starts_stay}
use Rattle.mux_tables.proofs.tables.Tables.publish.Goals as goal

pub returns-clause-starts : goal.returns-clause-starts
returns-clause-starts c = starts_stay c.args.self.now.lasts.items c.args.g c.index_mut-last.result.now (record c.index_mut-last.result.now { lists = c.take.new.self }) c.requires c.index_mut-last.ensures.value refl

pub returns-clause-stages : goal.returns-clause-stages
returns-clause-stages c = stages_stay c.args.self.now.lasts.items c.args.g c.index_mut-last.result.now (record c.index_mut-last.result.now { lists = c.take.new.self }) c.requires c.index_mut-last.ensures.value refl

pub returns-clause-stands : goal.returns-clause-stands
returns-clause-stands c = λ settings events body method params s x is ready at says class gives st.
    publish_by settings c.args.self.now _ events c.args.g s x c.index_mut-last.result.now body method params c.args.list c.take.new.self is at c.requires c.index_mut-last.ensures.value ready says class gives
    c.in_ok-_number.ensures.lists refl refl refl refl refl refl st

pub returns-clause-documents : goal.returns-clause-documents
returns-clause-documents c = λ settings owed events body method params s x is ready at says st ds.
    answer_documents_by settings owed c.args.self.now _ events c.args.g s x c.index_mut-last.result.now (record c.index_mut-last.result.now { lists = c.take.new.self }) body (message_of body) None is at c.requires c.index_mut-last.ensures.value
    (ap (λ m. is_first_result m && is_initializing x.life.stage) says) (not_spawning x.life.stage ready) refl refl refl refl refl st ds
