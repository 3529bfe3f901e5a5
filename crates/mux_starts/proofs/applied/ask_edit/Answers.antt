-- An editor is asked for an edit under its next number.
use Rattle.std.proofs.Common.{None, ap, decimal, subst, sym, ◌∙◌}
use Rattle.event_model.specs.Does.{Does}
use Rattle.event_model.specs.Event.{behind}
use Rattle.group_rows.specs.AskRows.{current_version, edited}
use Rattle.response_route.specs.Asked.{asked_text}
use Rattle.response_route.specs.Versions.{version_now}
use Rattle.mux_tables.specs.Documents.{AllStand, nothing_owed}
use Rattle.mux_tables.proofs.Numbering.{none_numbered, one_numbered}
use Rattle.mux_starts.proofs.Applying.{asks_edited}
use Rattle.mux_starts.proofs.applied.ask_edit.Goals as goal

pub returns-in_default-clause-does : goal.returns-in_default-clause-does
returns-in_default-clause-does c = λ settings before base body method id params s x read says uncreating here ready at runs work meant stamps.
    let e = c.args.e in
    let now = behind base c.args.outs.now in
    none_numbered (λ k events. AllStand settings k events) (λ n. edited s body e (asked_text (current_version settings before s e) body (decimal n))) e base c.args.outs.now (c.args.tables.now, nothing_owed)
    (λ st. c.in_default.ensures settings now runs st.0)

pub returns-clause-does : goal.returns-clause-does
returns-clause-does c = λ settings before base body method id params s x read says uncreating here ready at runs work meant stamps.
    let t = c.args.tables.now in
    let u = c.send_edit.new.tables in
    let xs = c.args.outs.now in
    let ys = c.send_edit.new.outs in
    let now = behind base xs in
    let e = c.args.e in
    let n = c.in-Some.n in
    let r = current_version settings before s e in
    let is = c.in_ok-text.ensures body r read (λ w digits. ap (λ o. version_now digits o None) (stamps w)) in
    one_numbered (λ k events. AllStand settings k events) (λ n. edited s body e (asked_text r body (decimal n))) e base xs (t, nothing_owed) n (λ st. c.in-Some.ensures settings now runs st.0) (u, nothing_owed) ys
    (λ left next. subst (λ o. Does (λ k events. AllStand settings k events) (edited s body e o) base (t, nothing_owed) xs (u, nothing_owed) ys) is
    (c.in_ok-send_edit.ensures.does settings base body method id params s x read says uncreating here ready at runs work
    (λ w given. asks_edited settings before now s e n body method id params meant says left next w (sym is ∙ given))))
