-- A request that comes too early.
use Rattle.std.proofs.Common.{◌≡◌, ap, subst, sym, ◌∙◌}
use Rattle.std.specs.Prelude.{slice_get}
use Rattle.event_model.specs.declared.stage.Stage.TheVariants.{Initializing, Spawning}
use Rattle.event_model.specs.Does.{Does}
use Rattle.event_model.specs.Event.{with_cause}
use Rattle.event_model.specs.Row.{send}
use Rattle.event_model.specs.Stages.{Life, is_initializing, is_ready}
use Rattle.event_model.proofs.Places.{item_at}
use Rattle.group_rows.specs.Rows.{hasty_row}
use Rattle.mux_history.specs.declared.cause.Cause.TheVariants.{FromServer}
use Rattle.mux_history.specs.declared.out.Out.TheVariants.{ToServer}
use Rattle.rpc_message.specs.Message.{message_of, request}
use Rattle.mux_tables.specs.Documents.{AllStand, nothing_owed}
use Rattle.mux_tables.specs.Stands.{is_early}
use Rattle.mux_tables.proofs.DocumentOwed.{all_does}
use Rattle.event_model.proofs.Frames.{never}
use Rattle.mux_starts.proofs.Early.{asked_error, asked_first, asked_named, hasty_quiet, hasty_unready}
use Rattle.mux_turns.proofs.Matched.{whole_entry}
use Rattle.mux_starts.proofs.Parking.{unready, unready_keeps}
use Rattle.mux_starts.proofs.Stopped.{last_life}
use Rattle.mux_starts.proofs.Uncreated.{unready_creates}
use Rattle.mux_starts.proofs.Unlisted.{unready_unlisted}
use Rattle.mux_starts.proofs.hasty.take_hasty.Goals as goal

pub returns-clause-does : goal.returns-clause-does
returns-clause-does c = λ settings before body method id params s read says first at st ds.
    let g = c.args.g in
    let m = message_of body in
    let base = with_cause before (FromServer s body) in
    let t = c.args.tables.now in
    let u = c.hear_answer.new.self in
    let xs = c.args.outs.now in
    let x = item_at t.lasts.items g c.requires.group in
    let stage = x.0.life.stage in
    let unheard = ap (λ (l : Life). is_ready l.stage) (last_life settings t before g s x.0 x.1 at st) ∙ ap is_ready (c.requires.stage x.0 x.1) in
    let heard = c.hear_answer.ensures.moves settings before s body x.0 x.1 at (asked_first m id method params says (is_early stage)) (asked_error m id method params says (is_initializing stage)) (unready settings before s body unheard) (unready_keeps settings before s body unheard) (unready_unlisted before s body unheard) (unready_creates settings before s body unheard) (asked_named m id method params says) st in
    let docs = c.hear_answer.ensures.documents settings nothing_owed before s body x.0 x.1 at (asked_first m id method params says (is_initializing stage)) (λ is. let clash : Initializing ≡ Spawning = sym (c.requires.stage x.0 x.1) ∙ is in cc) st ds in
    let q = hasty_quiet c.in_ok-text.text body method id params says (c.in_ok-text.ensures body method id params read says) in
    whole_entry (λ k events. AllStand settings k events) (hasty_row s body (request id method params)) base (u, nothing_owed) (u, nothing_owed) xs c.notify.new.outs first (heard, docs)
    (subst (λ w. Does (λ k events. AllStand settings k events) (send (ToServer s w)) base (u, nothing_owed) xs (u, nothing_owed) c.notify.new.outs) (c.in_ok-text.ensures body method id params read says)
    (all_does settings u u nothing_owed nothing_owed base xs c.notify.new.outs (c.in_ok-notify.ensures.does settings base s (ap (λ ns. slice_get ns g) c.hear_answer.ensures.starts ∙ at) q.runs q.counts (λ w here ready. never (sym ready ∙ hasty_unready c.args.tables.now u g x.0 w x.1 here c.hear_answer.ensures.stages (c.requires.stage x.0 x.1)))) (λ _ d. c.in_ok-notify.ensures.documents settings nothing_owed base q.says q.aside d)))
