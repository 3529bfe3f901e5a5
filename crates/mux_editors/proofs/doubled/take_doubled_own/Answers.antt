-- A request of the multiplexer's own under an id that is open.
use Rattle.std.proofs.Common.{ap, sym, ◌∙◌}
use Rattle.std.proofs.lemmas.Bool.{and_parts}
use Rattle.event_model.specs.Phases.{desk_of, is_begun}
use Rattle.group_words.specs.Houses.{is_doubled}
use Rattle.rpc_message.specs.Message.{message_of}
use Rattle.mux_tables.specs.Stands.{is_answer}
use Rattle.mux_tables.proofs.Asking.{answers_none}
use Rattle.mux_tables.specs.mux_tokens.proofs.Stays.{takes_none}
use Rattle.mux_editors.proofs.Asides.{old_unopened}
use Rattle.mux_editors.proofs.Doubling.{begun_new}
use Rattle.mux_editors.proofs.Lspmux.{doubled_stops, lspmux_is, own_keeps, own_placed, own_shuts, own_stays}
use Rattle.mux_editors.proofs.Staying.{unheld_doubled}
use Rattle.mux_editors.proofs.doubled.take_doubled_own.Goals as goal

pub returns-clause-does : goal.returns-clause-does
returns-clause-does c = λ settings before body asks doubled first st ds.
    let e = c.args.e in
    c.in_ok-end_link.ensures.does settings before body (answers_none settings e (message_of body) before (ap is_answer (lspmux_is (message_of body) asks).is)) (takes_none settings e (message_of body) before (own_shuts (message_of body) asks) (ap is_answer (lspmux_is (message_of body) asks).is)) (let k = lspmux_is (message_of body) asks in unheld_doubled settings e body (message_of body) before k.id k.method k.params k.is (sym (ap (is_doubled before e) k.is) ∙ (and_parts (is_begun (desk_of e before).phase) (is_doubled before e (message_of body)) doubled).1)) (own_placed before e body asks) (doubled_stops before e body asks doubled)
    (old_unopened settings.servers before e (message_of body) (begun_new (desk_of e before).phase (and_parts (is_begun (desk_of e before).phase) (is_doubled before e (message_of body)) doubled).0)) (own_keeps before e body asks)
    (own_stays before e body asks ∙ sym (c.phase_of-phase.ensures.stands settings before st)) first st ds
