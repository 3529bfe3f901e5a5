-- A request under an id that is open.
use Rattle.std.proofs.Common.{ap, refl, sym, ◌≡◌, ◌∙◌, codes, true, false}
use Rattle.std.proofs.lemmas.Bool.{and_parts}
use Rattle.lsp_method.specs.Class.{class_of}
use Rattle.lsp_method.specs.declared.variants.Origin.TheVariants.{Editor}
use Rattle.mux_model.specs.Methods.{is_shutdown}
use Rattle.event_model.specs.declared.phase.Phase.TheVariants.{Running}
use Rattle.event_model.specs.Event.{requests}
use Rattle.event_model.specs.Phases.{is_served}
use Rattle.rpc_message.specs.Message.{message_of, request}
use Rattle.mux_tables.specs.Stands.{is_answer}
use Rattle.mux_tables.proofs.Asking.{answers_none}
use Rattle.mux_tables.specs.mux_tokens.proofs.Stays.{takes_none}
use Rattle.mux_editors.proofs.Asides.{unserved_keeps}
use Rattle.mux_editors.proofs.Classes.{shutdown_named}
use Rattle.mux_editors.proofs.Doubling.{doubled_placed, doubled_stays, doubled_stops, doubled_unopened, serves_standard}
use Rattle.mux_editors.proofs.Serving.{request_keeps, request_makes, request_runs, stands_so}
use Rattle.mux_editors.proofs.Takings.{takes_unserved}
use Rattle.mux_editors.proofs.Runs.{no_shutdown}
use Rattle.mux_editors.proofs.Staying.{unheld_doubled, unheld_unserved}
use Rattle.mux_editors.proofs.doubled.take_doubled.Goals as goal

pub returns-then-not-is_served-clause-does : goal.returns-then-not-is_served-clause-does
returns-then-not-is_served-clause-does c = λ settings before body method id params read says standard doubled first settled st ds.
    let e = c.args.e in
    let m = message_of body in
    let at = c.phase_of-phase.ensures.stands settings before st in
    let unserved = ap is_served (sym at) ∙ (sym c.is_served.ensures ∙ c.if-not-is_served.true) in
    c.in_ok-end_link.ensures.does settings before body (answers_none settings e m before (ap is_answer says)) (takes_unserved settings before settled c.args.tables.now st e m unserved) (unheld_unserved settings e body m before unserved) (doubled_placed before e id method params m says doubled) (doubled_stops before e id method params m says doubled)
    (doubled_unopened before e id method params m says doubled settings.servers) (unserved_keeps before e m unserved) (doubled_stays before e id method params m says doubled body refl unserved ∙ sym at) first st ds

pub returns-in_ok-end_served-in-Shutdown-clause-does : goal.returns-in_ok-end_served-in-Shutdown-clause-does
returns-in_ok-end_served-in-Shutdown-clause-does c = λ settings before body method id params read says standard doubled first settled st ds.
    let served = ap is_served (sym (c.phase_of-phase.ensures.stands settings before st)) ∙ (sym c.is_served.ensures ∙ c.if-not-is_served.false) in
    let down : is_shutdown (class_of method Editor false) ≡ true = ap is_shutdown (sym (c.class_in.ensures body method id params read says) ∙ c.in-Shutdown.is) in
    c.in_ok-end_served-in-Shutdown.ensures.does settings before body (ap (requests (codes "shutdown")) says ∙ shutdown_named method down) served first st ds

pub returns-in_ok-end_link-in_default : goal.returns-in_ok-end_link-in_default
returns-in_ok-end_link-in_default c = record {
  requests = c.in_ok-end_link-in_default.ensures.requests;
  versions = c.in_ok-end_link-in_default.ensures.versions;
  does = λ settings before body method id params read says standard doubled first settled st ds.
      let e = c.args.e in
      let m = message_of body in
      let served = ap is_served (sym (c.phase_of-phase.ensures.stands settings before st)) ∙ (sym c.is_served.ensures ∙ c.if-not-is_served.false) in
      let serve = serves_standard method standard (λ is. c.in_default.not-Shutdown (c.class_in.ensures body method id params read says ∙ is)) in
      c.in_ok-end_link-in_default.ensures.does settings before body (answers_none settings e m before (ap is_answer says)) (takes_none settings e m before (no_shutdown m (request_makes method id params serve m says)) (ap is_answer says)) (unheld_doubled settings e body m before id method params says (and_parts _ _ doubled).1) (doubled_placed before e id method params m says doubled) (doubled_stops before e id method params m says doubled)
      (doubled_unopened before e id method params m says doubled settings.servers) (request_keeps method id params serve before e m says) (stands_so before e body (request id method params) Running says (λ q i h. request_runs method id params serve body q i h) served) first st ds;
}
