-- A request waits.
use Rattle.std.proofs.Common.{◌++◌, ◌∷◌, [], refl, ap, ◌∙◌}
use Rattle.std.specs.Prelude.{None}
use Rattle.ask_route.specs.Tables.{parked}
use Rattle.rpc_message.specs.Message.{id_bytes, message_of}
use Rattle.event_model.specs.Stages.{is_initializing}
use Rattle.mux_tables.proofs.DocumentHeard.{answer_documents_by}
use Rattle.mux_tables.proofs.Parking.{not_spawning, park_by, request_no_result}
use Rattle.mux_tables.proofs.Starts.{stages_stay, starts_stay}
use Rattle.mux_tables.proofs.tables.Tables.park.Goals as goal

pub returns-clause-starts : goal.returns-clause-starts
returns-clause-starts c = starts_stay c.args.self.now.lasts.items c.args.g c.index_mut-last.result.now (record c.index_mut-last.result.now { parked = c.park.new.self }) c.requires c.index_mut-last.ensures.value refl

pub returns-clause-stages : goal.returns-clause-stages
returns-clause-stages c = stages_stay c.args.self.now.lasts.items c.args.g c.index_mut-last.result.now (record c.index_mut-last.result.now { parked = c.park.new.self }) c.requires c.index_mut-last.ensures.value refl

pub returns-clause-stands : goal.returns-clause-stands
returns-clause-stands c = λ settings events body method id params s x is ready at read says patient untaken none_runs st.
    let z = c.index_mut-last.result.now in
    park_by settings c.args.self.now _ events c.args.g s x z body method id params c.park.new.self is at c.requires c.index_mut-last.ensures.value ready says patient untaken none_runs
    (c.in_ok-park.ensures.ok ∙ ap (λ w. z.parked ++ parked w c.in_ok-body.body ∷ []) (c.in_ok-id.ensures body read) ∙ ap (λ w. z.parked ++ parked (id_bytes body) w ∷ []) (c.in_ok-body.ensures body read)) refl refl refl refl refl refl st

pub returns-clause-documents : goal.returns-clause-documents
returns-clause-documents c = λ settings owed events body method id params s x is ready at says st ds.
    answer_documents_by settings owed c.args.self.now _ events c.args.g s x c.index_mut-last.result.now (record c.index_mut-last.result.now { parked = c.park.new.self }) body (message_of body) None is at c.requires c.index_mut-last.ensures.value
    (request_no_result (message_of body) id method params (is_initializing x.life.stage) says) (not_spawning x.life.stage ready) refl refl refl refl refl st ds
