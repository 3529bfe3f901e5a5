-- A start creates a token.
use Rattle.std.proofs.Common.{refl, ap, sym, ◌∙◌}
use Rattle.std.specs.Prelude.{None}
use Rattle.rpc_message.specs.Message.{message_of}
use Rattle.event_model.specs.Stages.{is_initializing}
use Rattle.mux_tokens.specs.Rows.{table_of}
use Rattle.mux_tokens.proofs.Seen.{next_seen}
use Rattle.mux_tables.proofs.Creating.{create_by, number_is}
use Rattle.mux_tables.proofs.DocumentHeard.{answer_documents_by}
use Rattle.mux_tables.proofs.Parking.{not_spawning, request_no_result}
use Rattle.mux_tables.proofs.Sent.{same_set}
use Rattle.mux_tables.proofs.Starts.{read_here}
use Rattle.mux_tables.proofs.tables.Tables.create.Goals as goal

pub returns-clause-number : goal.returns-clause-number
returns-clause-number c = λ settings events x at st.
    c.in_ok-number.ensures.number ∙ (ap (λ n. (table_of n c.args.self.now.origins.created).next) (number_is c.args.self.now.lasts.items c.args.g x c.index.result.now c.start-s.result at c.requires c.index.ensures c.start-s.ensures)
    ∙ next_seen settings c.args.self.now.origins.created events st.created x.life.start)

pub returns-clause-stands : goal.returns-clause-stands
returns-clause-stands c = λ settings events body method id params s x new is ready at says creates untaken makes text st.
    create_by settings c.args.self.now _ events c.args.g s c.start-s.result x c.index.result.now is at c.requires c.index.ensures ready c.start-s.ensures refl refl refl refl refl refl refl refl st body method c.args.token id params new c.in_ok-number.ensures.table says creates untaken makes text

pub returns-clause-documents : goal.returns-clause-documents
returns-clause-documents c = λ settings owed events body method id params s x is ready at says st ds.
    let z = c.index.result.now in
    answer_documents_by settings owed c.args.self.now _ events c.args.g s x z z body (message_of body) None is at c.requires c.index.ensures
    (request_no_result (message_of body) id method params (is_initializing x.life.stage) says) (not_spawning x.life.stage ready) refl refl (sym (same_set c.args.self.now.lasts.items c.args.g z (read_here c.args.self.now.lasts.items c.args.g z c.requires c.index.ensures))) refl refl st ds
