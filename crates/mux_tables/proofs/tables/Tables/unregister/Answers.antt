-- A start takes registrations back.
use Rattle.std.proofs.Common.{refl, ap, ◌∙◌}
use Rattle.std.specs.Prelude.{Some, None, if◌then◌else◌}
use Rattle.rpc_message.specs.Message.{message_of}
use Rattle.event_model.specs.Stages.{is_initializing}
use Rattle.group_laws.specs.registrations.specs.Items.{again, are_live}
use Rattle.mux_tables.proofs.DocumentHeard.{answer_documents_by}
use Rattle.mux_tables.proofs.Parking.{not_spawning, request_no_result}
use Rattle.mux_tables.proofs.Registered.{live_seen, unregister_by}
use Rattle.mux_tables.proofs.Starts.{stages_stay, starts_stay}
use Rattle.mux_tables.proofs.tables.Tables.unregister.Goals as goal

pub returns-clause-starts : goal.returns-clause-starts
returns-clause-starts c = starts_stay c.args.self.now.lasts.items c.args.g c.index_mut-last.result.now (record c.index_mut-last.result.now { live = c.unregister.new.self }) c.requires c.index_mut-last.ensures.value refl

pub returns-clause-stages : goal.returns-clause-stages
returns-clause-stages c = stages_stay c.args.self.now.lasts.items c.args.g c.index_mut-last.result.now (record c.index_mut-last.result.now { live = c.unregister.new.self }) c.requires c.index_mut-last.ensures.value refl

pub returns-clause-gone : goal.returns-clause-gone
returns-clause-gone c = λ settings events x at ready st. c.in_ok-gone.ensures.gone ∙ ap (λ rs. if are_live c.args.items.now rs then Some (again c.args.items.now rs) else None) (live_seen settings c.args.self.now events c.args.g x c.index_mut-last.result.now at c.requires c.index_mut-last.ensures.value ready st)

pub returns-clause-stands : goal.returns-clause-stands
returns-clause-stands c = λ settings events body method id params s x is ready at says class untaken names st.
    unregister_by settings c.args.self.now _ events c.args.g s x c.index_mut-last.result.now body method id params c.unregister.new.self c.args.items.now is at c.requires c.index_mut-last.ensures.value ready says class untaken names
    c.in_ok-gone.ensures.left refl refl refl refl refl refl st

pub returns-clause-documents : goal.returns-clause-documents
returns-clause-documents c = λ settings owed events body method id params s x is ready at says st ds.
    answer_documents_by settings owed c.args.self.now _ events c.args.g s x c.index_mut-last.result.now (record c.index_mut-last.result.now { live = c.unregister.new.self }) body (message_of body) None is at c.requires c.index_mut-last.ensures.value
    (request_no_result (message_of body) id method params (is_initializing x.life.stage) says) (not_spawning x.life.stage ready) refl refl refl refl refl st ds
