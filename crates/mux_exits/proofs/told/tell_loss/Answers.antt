-- One is told what it loses.
use Rattle.std.proofs.Common.{IsUtf8, ap, length, subst, sym, ◌∙◌}
use Rattle.group_rows.specs.ExitRows.{empty_text}
use Rattle.mux_exits.specs.Losses.{IsInside}
use Rattle.mux_exits.proofs.Saying.{tells_call, tells_empty, tells_refused, tells_text}
use Rattle.mux_tables.specs.Documents.{nothing_owed}
use Rattle.mux_exits.proofs.told.tell_loss.Goals as goal

pub returns-in_ok-refuse_id-in-Refused-clause-does : goal.returns-in_ok-refuse_id-in-Refused-clause-does
returns-in_ok-refuse_id-in-Refused-clause-does c = λ settings base call can idle.
    tells_refused settings c.args.tables.now c.refuse_id.new.tables base c.args.outs.now c.refuse_id.new.outs c.args.live.now c.args.loss can c.in-Refused.e c.in-Refused.id c.bytes.result.now c.in-Refused.is c.bytes.ensures
    (λ named. c.in_ok-refuse_id-in-Refused.ensures.does settings base named) (λ ds. c.in_ok-refuse_id-in-Refused.ensures.documents settings nothing_owed base ds)

pub returns-in_ok-tell-in-Told-clause-does : goal.returns-in_ok-tell-in-Told-clause-does
returns-in_ok-tell-in-Told-clause-does c = λ settings base call can idle.
    tells_text settings c.args.tables.now c.args.tables.now base c.args.outs.now c.tell.new.outs c.args.live.now c.args.loss can c.in-Told.e c.in-Told.text c.in-Told.is
    (λ keeps none. c.in_ok-tell-in-Told.ensures.does settings base keeps none) (λ ds. c.in_ok-tell-in-Told.ensures.documents settings nothing_owed base ds)

pub call_unregistered_any-requires : goal.call_unregistered_any-requires
call_unregistered_any-requires c = subst (IsInside (length c.args.tables.now.editors)) c.in-Unregistered.is c.requires

pub returns-in_ok-call_unregistered_any-in-Unregistered-clause-does : goal.returns-in_ok-call_unregistered_any-in-Unregistered-clause-does
returns-in_ok-call_unregistered_any-in-Unregistered-clause-does c = λ settings base call can idle.
    tells_call settings c.args.tables.now c.call_unregistered_any.new.tables base c.args.outs.now c.call_unregistered_any.new.outs c.args.live.now c.args.loss can c.in-Unregistered.e c.in-Unregistered.is
    (λ runs. c.in_ok-call_unregistered_any-in-Unregistered.ensures.does settings nothing_owed base call runs idle)

pub show-requires : goal.show-requires
show-requires c = subst (IsInside (length c.args.tables.now.editors)) c.in-Emptied.is c.requires

pub returns-in_ok-show-in-Emptied-clause-does : goal.returns-in_ok-show-in-Emptied-clause-does
returns-in_ok-show-in-Emptied-clause-does c = λ settings base call can idle.
    tells_empty settings c.args.tables.now c.show.new.self base c.args.outs.now c.show.new.outs c.args.live.now c.args.loss can c.in-Emptied.e c.in-Emptied.uri c.bytes-in-Emptied-2.result.now c.in_ok-text-in-Emptied.text c.in-Emptied.is c.bytes-in-Emptied-2.ensures
    (λ spelt. c.in_ok-text-in-Emptied.ensures (subst IsUtf8 (sym c.bytes-in-Emptied.ensures) spelt) ∙ ap empty_text c.bytes-in-Emptied.ensures)
    (λ list. c.in_ok-show-in-Emptied.ensures.does settings base list) (λ ds. c.in_ok-show-in-Emptied.ensures.documents settings nothing_owed base ds)
