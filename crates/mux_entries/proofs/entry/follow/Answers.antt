-- Causes by their rows.
use Rattle.std.proofs.Common.{◌≡◌, [], ap, sym, subst, true}
use Rattle.event_model.specs.declared.settings.Limits.{Limits}
use Rattle.event_model.specs.Does.{Done}
use Rattle.event_model.specs.Event.{behind, with_cause}
use Rattle.group_rows.specs.Rows.{row_of}
use Rattle.mux_model.specs.Fits.{fits_behind}
use Rattle.mux_starts.specs.mux_tables.specs.Documents.{AllStand, nothing_owed}
use Rattle.mux_debts.proofs.Standing.{IsOther, exit_stands, other_stands}
use Rattle.mux_debts.specs.Stands.{DebtsStand}
use Rattle.mux_turns.specs.Carried.{CarriedStand}
use Rattle.mux_entries.proofs.Carried.{IsAside, aside_carried}
use Rattle.mux_entries.proofs.EditorRows.{done_quietly, drained_entry}
use Rattle.mux_entries.proofs.Exits.{exit_aside, exit_of}
use Rattle.mux_entries.proofs.entry.follow.Goals as goal

pub returns-in-Drained-clause-does : goal.returns-in-Drained-clause-does
returns-in-Drained-clause-does c = λ settings before limits servers default first known settled fits kept owed st ds.
    let t = c.args.tables.now in
    subst (λ cause. Done (λ k events. AllStand settings k events) (row_of settings before cause) (with_cause before cause) [] (t, nothing_owed) c.args.outs.now) (sym c.in-Drained.is)
    (done_quietly (λ k events. AllStand settings k events) first (drained_entry settings before c.in-Drained.field-0 c.in-Drained.field-1 t st ds))

pub returns-in_ok-gone-in-EditorGone-clause-does : goal.returns-in_ok-gone-in-EditorGone-clause-does
returns-in_ok-gone-in-EditorGone-clause-does c = λ settings before limits servers default first known settled fits kept owed st ds.
    let here = subst (λ cause. fits_behind before cause ≡ true) c.in-EditorGone.is fits in
    subst (λ cause. Done (λ k events. AllStand settings k events) (row_of settings before cause) (with_cause before cause) [] (c.gone.new.tables, nothing_owed) c.gone.new.outs) (sym c.in-EditorGone.is)
    (c.in_ok-gone-in-EditorGone.ensures.does settings before c.in-EditorGone.field-1 first known here st ds)

pub returns-in_ok-from_editor-in-FromEditor-clause-does : goal.returns-in_ok-from_editor-in-FromEditor-clause-does
returns-in_ok-from_editor-in-FromEditor-clause-does c = λ settings before limits servers default first known settled fits kept owed st ds.
    let is = c.in-FromEditor.is in
    subst (λ cause. Done (λ k events. AllStand settings k events) (row_of settings before cause) (with_cause before cause) [] (c.from_editor.new.tables, nothing_owed) c.from_editor.new.outs) (sym is)
    (c.in_ok-from_editor-in-FromEditor.ensures.does settings before servers default first known settled (subst (λ cause. fits_behind before cause ≡ true) is fits) owed st ds)

pub returns-in_ok-take_exit-in-StartFailed-clause-does : goal.returns-in_ok-take_exit-in-StartFailed-clause-does
returns-in_ok-take_exit-in-StartFailed-clause-does c = λ settings before limits servers default first known settled fits kept owed st ds.
    c.in_ok-take_exit-in-StartFailed.ensures.exit settings before c.args.cause.now (ap (λ (l : Limits). l.restarts) limits) first known settled
    (exit_of c.args.cause.now c.in-StartFailed.s c.in-StartFailed.is) fits st ds

pub returns-in_ok-take_tick-in-Tick-clause-does : goal.returns-in_ok-take_tick-in-Tick-clause-does
returns-in_ok-take_tick-in-Tick-clause-does c = λ settings before limits servers default first known settled fits kept owed st ds.
    subst (λ cause. Done (λ k events. AllStand settings k events) (row_of settings before cause) (with_cause before cause) [] (c.take_tick.new.tables, nothing_owed) c.take_tick.new.outs) (sym c.in-Tick.is)
    (c.in_ok-take_tick-in-Tick.ensures.does settings before first (ap (λ (l : Limits). l.grace) limits) known st ds)

-- What groups carry

pub returns-in_ok-joined-in-Joined-clause-carried : goal.returns-in_ok-joined-in-Joined-clause-carried
returns-in_ok-joined-in-Joined-clause-carried c = λ settings before limits servers default first known settled fits kept st ds. aside_carried settings c.args.carries.now before c.args.cause.now c.joined.new.outs (subst IsAside (sym c.in-Joined.is) tt) kept

pub returns-in_ok-gone-in-EditorGone-clause-carried : goal.returns-in_ok-gone-in-EditorGone-clause-carried
returns-in_ok-gone-in-EditorGone-clause-carried c = λ settings before limits servers default first known settled fits kept st ds. aside_carried settings c.args.carries.now before c.args.cause.now c.gone.new.outs (subst IsAside (sym c.in-EditorGone.is) tt) kept

pub returns-in_ok-take_started-in-Started-clause-carried : goal.returns-in_ok-take_started-in-Started-clause-carried
returns-in_ok-take_started-in-Started-clause-carried c = λ settings before limits servers default first known settled fits kept st ds. aside_carried settings c.args.carries.now before c.args.cause.now c.take_started.new.outs (subst IsAside (sym c.in-Started.is) tt) kept

pub returns-in_ok-take_exit-in-StartFailed-clause-carried : goal.returns-in_ok-take_exit-in-StartFailed-clause-carried
returns-in_ok-take_exit-in-StartFailed-clause-carried c = λ settings before limits servers default first known settled fits kept st ds. aside_carried settings c.args.carries.now before c.args.cause.now c.take_exit.new.outs (exit_aside c.args.cause.now c.in-StartFailed.s c.in-StartFailed.is) kept

pub returns-in_ok-take_tick-in-Tick-clause-carried : goal.returns-in_ok-take_tick-in-Tick-clause-carried
returns-in_ok-take_tick-in-Tick-clause-carried c = λ settings before limits servers default first known settled fits kept st ds. aside_carried settings c.args.carries.now before c.args.cause.now c.take_tick.new.outs (subst IsAside (sym c.in-Tick.is) tt) kept

pub returns-in-Drained-clause-carried : goal.returns-in-Drained-clause-carried
returns-in-Drained-clause-carried c = λ settings before limits servers default first known settled fits kept st ds. aside_carried settings c.args.carries.now before c.args.cause.now c.args.outs.now (subst IsAside (sym c.in-Drained.is) tt) kept

pub returns-in_ok-from_editor-in-FromEditor-clause-carried : goal.returns-in_ok-from_editor-in-FromEditor-clause-carried
returns-in_ok-from_editor-in-FromEditor-clause-carried c = λ settings before limits servers default first known settled fits kept st ds.
    let is = c.in-FromEditor.is in
    subst (λ cause. CarriedStand settings c.from_editor.new.carries (behind (with_cause before cause) c.from_editor.new.outs)) (sym is)
    (c.in_ok-from_editor-in-FromEditor.ensures.carried settings before known settled (subst (λ cause. fits_behind before cause ≡ true) is fits) kept st)

pub returns-in_ok-from_server-in-FromServer-clause-carried : goal.returns-in_ok-from_server-in-FromServer-clause-carried
returns-in_ok-from_server-in-FromServer-clause-carried c = λ settings before limits servers default first known settled fits kept st ds.
    let is = c.in-FromServer.is in
    subst (λ cause. CarriedStand settings c.from_server.new.carries (behind (with_cause before cause) c.from_server.new.outs)) (sym is)
    (c.in_ok-from_server-in-FromServer.ensures.carried settings before first known settled (subst (λ cause. fits_behind before cause ≡ true) is fits) kept st ds)

-- What starts owe

pub returns-in_ok-joined-in-Joined-clause-owed : goal.returns-in_ok-joined-in-Joined-clause-owed
returns-in_ok-joined-in-Joined-clause-owed c = λ settings before known settled fits owed st ds. other_stands settings c.args.debts.now before owed c.args.cause.now (subst IsOther (sym c.in-Joined.is) tt)

pub returns-in_ok-gone-in-EditorGone-clause-owed : goal.returns-in_ok-gone-in-EditorGone-clause-owed
returns-in_ok-gone-in-EditorGone-clause-owed c = λ settings before known settled fits owed st ds.
    subst (λ cause. DebtsStand settings c.forget_editor.new.debts (with_cause before cause)) (sym c.in-EditorGone.is) (c.forget_editor.ensures settings before c.in-EditorGone.field-1 owed)

pub returns-in_ok-take_started-in-Started-clause-owed : goal.returns-in_ok-take_started-in-Started-clause-owed
returns-in_ok-take_started-in-Started-clause-owed c = λ settings before known settled fits owed st ds. other_stands settings c.args.debts.now before owed c.args.cause.now (subst IsOther (sym c.in-Started.is) tt)

pub returns-in_ok-take_tick-in-Tick-clause-owed : goal.returns-in_ok-take_tick-in-Tick-clause-owed
returns-in_ok-take_tick-in-Tick-clause-owed c = λ settings before known settled fits owed st ds. other_stands settings c.args.debts.now before owed c.args.cause.now (subst IsOther (sym c.in-Tick.is) tt)

pub returns-in-Drained-clause-owed : goal.returns-in-Drained-clause-owed
returns-in-Drained-clause-owed c = λ settings before known settled fits owed st ds. other_stands settings c.args.debts.now before owed c.args.cause.now (subst IsOther (sym c.in-Drained.is) tt)

pub returns-in_ok-take_exit-in-StartFailed-clause-owed : goal.returns-in_ok-take_exit-in-StartFailed-clause-owed
returns-in_ok-take_exit-in-StartFailed-clause-owed c = λ settings before known settled fits owed st ds.
    exit_stands settings c.forget_start.new.debts before c.args.cause.now c.in-StartFailed.s c.in-StartFailed.is (c.forget_start.ensures.failed settings before owed) (c.forget_start.ensures.gone settings before owed)

pub returns-in_ok-from_editor-in-FromEditor-clause-owed : goal.returns-in_ok-from_editor-in-FromEditor-clause-owed
returns-in_ok-from_editor-in-FromEditor-clause-owed c = λ settings before known settled fits owed st ds.
    let is = c.in-FromEditor.is in
    subst (λ cause. DebtsStand settings c.from_editor.new.debts (with_cause before cause)) (sym is)
    (c.in_ok-from_editor-in-FromEditor.ensures.owed settings before known settled (subst (λ cause. fits_behind before cause ≡ true) is fits) owed st)

pub returns-in_ok-from_server-in-FromServer-clause-owed : goal.returns-in_ok-from_server-in-FromServer-clause-owed
returns-in_ok-from_server-in-FromServer-clause-owed c = λ settings before known settled fits owed st ds.
    subst (λ cause. DebtsStand settings c.from_server.new.debts (with_cause before cause)) (sym c.in-FromServer.is) (c.in_ok-from_server-in-FromServer.ensures.owed settings before known owed st ds)
