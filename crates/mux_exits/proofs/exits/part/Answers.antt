-- What was gathered is said.
use Rattle.std.proofs.Common.{◌<◌, length, sym, subst, ◌∙◌}
use Rattle.std.specs.List.{All}
use Rattle.event_model.specs.Event.{behind}
use Rattle.event_model.proofs.Places.{item_at}
use Rattle.group_rows.specs.Live.{unregister_text}
use Rattle.mux_exits.specs.Partings.{IsOver}
use Rattle.mux_exits.proofs.Ending.{part_does}
use Rattle.mux_starts.specs.Refusing.{IsUnready}
use Rattle.mux_tables.specs.Documents.{nothing_owed}
use Rattle.mux_turns.specs.Calls.{IsCall}
use Rattle.mux_exits.proofs.exits.part.Goals as goal

pub turn_out_all-requires : goal.turn_out_all-requires
turn_out_all-requires c = subst (λ ns. All (λ e. e < length c.tell_losses.new.tables.editors) ns) (sym c.deref-2.ensures.value)
    (subst (λ n. All (λ e. e < n) c.args.parting.members.items) (sym c.in_ok-tell_losses.ensures.count) c.requires.members)

pub forget-requires : goal.forget-requires
forget-requires c = subst (λ ls. c.args.g < length ls.items) (sym (c.in_ok-turn_out_all.ensures.lasts ∙ c.in_ok-tell_losses.ensures.lasts)) c.requires.group

pub returns-clause-does : goal.returns-clause-does
returns-clause-does c = λ settings base over unready can.
    let h = c.args.group in
    let t = c.args.tables.now in
    let v = c.turn_out_all.new.tables in
    let lasts = c.in_ok-turn_out_all.ensures.lasts ∙ c.in_ok-tell_losses.ensures.lasts in
    let x = item_at v.lasts.items c.args.g (subst (λ ls. c.args.g < length ls.items) (sym lasts) c.requires.group) in
    let done = subst (λ ls. IsOver c.args.g ls.items) (sym lasts) over in
    part_does settings t c.tell_losses.new.tables v c.forget.new.self base h c.args.outs.now c.tell_losses.new.outs c.turn_out_all.new.outs c.args.parting c.deref.result.now c.deref-2.result.now c.deref.ensures.value c.deref-2.ensures.value can
    (c.in_ok-tell_losses.ensures.does settings base (subst (λ rs. IsCall (unregister_text rs)) (sym c.deref.ensures.value) can.call) can.losses can.idle)
    (λ asking housed home. c.in_ok-turn_out_all.ensures.does settings base (subst (λ ls. IsUnready h ls.items) (sym c.in_ok-tell_losses.ensures.lasts) unready) asking housed home)
    (λ st. c.forget.ensures.stands settings (behind base c.turn_out_all.new.outs) x.0 x.1 (done x.0 x.1) st)
    (λ ds. c.forget.ensures.documents settings nothing_owed (behind base c.turn_out_all.new.outs) ds)
