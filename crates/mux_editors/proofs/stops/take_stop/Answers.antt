-- An editor stops all.
use Rattle.std.proofs.Common.{◌≡◌, codes, ap, sym, ◌∙◌}
use Rattle.event_model.specs.Event.{with_cause}
use Rattle.mux_history.specs.declared.cause.Cause.TheVariants.{FromEditor}
use Rattle.rpc_message.specs.Message.{id_bytes}
use Rattle.rpc_message.specs.Texts.{ok_text}
use Rattle.mux_tables.specs.Documents.{nothing_owed}
use Rattle.mux_turns.proofs.Keeping.{told_as}
use Rattle.mux_editors.proofs.Lspmux.{own_placed, own_stays}
use Rattle.mux_editors.proofs.Stopping.{answer_keeps, answer_own, stop_own, stops_all}
use Rattle.mux_editors.proofs.stops.take_stop.Goals as goal

pub returns-clause-does : goal.returns-clause-does
returns-clause-does c = λ settings before body read stop first known settled st ds.
    let e = c.args.e in
    let base = with_cause before (FromEditor e body) in
    let t = c.hear_stop.new.self in
    let xs = c.args.outs.now in
    let own = stop_own settings before e body stop in
    let heard = c.in_ok-live.ensures.stands settings before body st (own_placed before e body own) stop (own_stays before e body own ∙ sym (c.phase_of-phase.ensures.stands settings before st)) in
    let docs = c.in_ok-live.ensures.documents settings nothing_owed before body stop ds in
    let is : c.in_ok-text.text ≡ ok_text (id_bytes body) (codes "null") = c.in_ok-text.ensures ∙ ap (λ w. ok_text w (codes "null")) (c.id_bytes-id.ensures body read) in
    let tells = told_as settings base t c.answer.new.self xs c.answer.new.outs e c.in_ok-text.text (ok_text (id_bytes body) (codes "null")) is (c.in_ok-answer.ensures.does settings base (answer_keeps settings before e body stop c.in_ok-text.text xs settled first is) (answer_own settings before e body stop c.in_ok-text.text c.id_bytes-id.result.now (c.id_bytes-id.ensures body read) is)) in
    stops_all settings before e body stop known settled c.args.tables.now t c.answer.new.self c.refuse_each.new.tables c.close_each.new.tables c.end_groups.new.tables st heard docs
    xs c.answer.new.outs c.refuse_each.new.outs c.close_each.new.outs c.end_groups.new.outs c.deref.result.now c.deref-2.result.now c.deref-3.result.now first
    (c.deref.ensures.value ∙ c.in_ok-there.ensures.those settings before st) (c.deref-2.ensures.value ∙ c.in_ok-there.ensures.those settings before st) (c.deref-3.ensures.value ∙ c.in_ok-live.ensures.live settings before st)
    tells (λ owed d. c.in_ok-answer.ensures.documents settings owed base d)
    (λ forwarded r. c.in_ok-refuse_each.ensures.does settings before base forwarded r) (λ owed d. c.in_ok-refuse_each.ensures.documents settings owed base d)
    (c.in_ok-close_each.ensures.does settings base)
    (λ owed numbered. c.in_ok-end_groups.ensures.does settings owed base numbered)
