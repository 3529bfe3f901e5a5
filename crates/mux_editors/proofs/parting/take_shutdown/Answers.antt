-- It asks to shut down.
use Rattle.std.proofs.Common.{ap, codes, map, subst, sym, ◌≡◌, ◌∙◌}
use Rattle.std.specs.Prelude.{Some}
use Rattle.event_model.specs.declared.phase.Phase.TheVariants.{Down, Waiting}
use Rattle.event_model.specs.Event.{behind, requests, with_cause}
use Rattle.event_model.specs.Phases.{desk_of}
use Rattle.event_model.specs.Requests.{answered_id}
use Rattle.event_model.proofs.Turns.{does_then}
use Rattle.group_rows.specs.Rows.{shutdown_row}
use Rattle.group_words.specs.Houses.{home_of}
use Rattle.mux_history.specs.declared.cause.Cause.TheVariants.{FromEditor}
use Rattle.rpc_message.specs.Message.{id_bytes, message_of, request}
use Rattle.rpc_message.specs.Texts.{ok_text}
use Rattle.mux_tables.specs.Documents.{AllStand, nothing_owed}
use Rattle.mux_tables.specs.Stands.{house_in, number_in, stage_in}
use Rattle.mux_tables.proofs.DocumentOwed.{all_does}
use Rattle.mux_turns.specs.Leavings.{Leaves}
use Rattle.mux_turns.proofs.Departing.{behind_first, owing_of, pays_later}
use Rattle.mux_turns.proofs.Failing.{waits_back}
use Rattle.mux_turns.proofs.Keeping.{answers_own, keeps_result, null_says, null_tree, told_as}
use Rattle.mux_turns.proofs.Matched.{whole_entry}
use Rattle.mux_editors.proofs.Serving.{shutdown_downs, stands_so, unplaced}
use Rattle.mux_editors.proofs.Staying.{home_heard}
use Rattle.mux_editors.proofs.parting.take_shutdown.Goals as goal

pub returns-clause-does : goal.returns-clause-does
returns-clause-does c = λ settings before body method id params read says asks served first st ds.
    let e = c.args.e in
    let m = message_of body in
    let base = with_cause before (FromEditor e body) in
    let t = c.args.tables.now in
    let u = c.hear_shutdown.new.self in
    let v = c.lose_waiting.new.tables in
    let w = c.answer.new.self in
    let xs = c.args.outs.now in
    let ys = c.lose_waiting.new.outs in
    let down = ap (requests (codes "shutdown")) says ∙ asks in
    let heard = c.in_ok-owed.ensures.stands settings before body served down st in
    let lasts = c.answer.ensures.lasts ∙ (c.lose_waiting.ensures.lasts ∙ c.hear_shutdown.ensures.lasts) in
    let o = owing_of settings before e t st u base c.in_ok-owed.owed (c.in_ok-owed.ensures.documents settings before body served down st ds) in
    let pays = pays_later settings before e t w c.in_ok-owed.owed o.0 (ap (λ ls. map number_in ls.items) lasts) (ap (λ ls. map stage_in ls.items) lasts) (ap (λ ls. map house_in ls.items) lasts) o.1.0 in
    let leaves = subst (λ ns. Leaves settings before e ns c.in_ok-left.left) (sym (ap (λ ls. ls.items) lasts)) (c.in_ok-left.ensures.leaves settings before st) in
    let is : c.in_ok-text.text ≡ ok_text (id_bytes body) (codes "null") = c.in_ok-text.ensures ∙ ap (λ w. ok_text w (codes "null")) (c.id_bytes-id.ensures body read) in
    let at = stands_so before e body (request id method params) Down says (λ q i h. shutdown_downs method id params asks body q i h) served in
    let stays : ((desk_of e (behind base ys)).phase ≡ Waiting) → ⊥ = λ waits. absurd (let clash : Down ≡ Waiting = sym at ∙ waits_back e base ys waits in cc) in
    let answers = ap message_of is ∙ null_says body id method params says in
    let home = ap (home_of settings e) (behind_first base xs first) ∙ home_heard settings before e body e (unplaced (desk_of e before).phase m served) in
    let told = told_as settings base v w ys c.answer.new.outs e c.in_ok-text.text (ok_text (id_bytes body) (codes "null")) is
    (c.in_ok-answer.ensures.does settings base (keeps_result e c.in_ok-text.text (behind base ys) (Some id) null_tree answers stays)
    (answers_own c.in_ok-text.text body c.id_bytes-id.result.now method id params (c.id_bytes-id.ensures body read) says (ap answered_id answers))) in
    whole_entry (λ k events. AllStand settings k events) (shutdown_row settings before e body) base (u, o.0) (c.depart.new.tables, nothing_owed) xs c.depart.new.outs first (heard, o.1.1)
    (does_then (all_does settings u v o.0 o.0 base xs ys (c.in_ok-lose_waiting.ensures.does settings before base home) (λ _ d. c.in_ok-lose_waiting.ensures.documents settings o.0 base d))
    (does_then (all_does settings v w o.0 o.0 base ys c.answer.new.outs told (λ _ d. c.in_ok-answer.ensures.documents settings o.0 base d)) (c.in_ok-depart.ensures.does settings before base e o.0 leaves pays)))
