-- A notification of an editor that is served.
use Rattle.std.proofs.Common.{◌≡◌, ap, bytes_eq, codes, refl, sym, ◌∙◌, false, true}
use Rattle.std.proofs.lemmas.Slice.Eq.{bytes_eq-Decides}
use Rattle.event_model.specs.Event.{notifies}
use Rattle.event_model.specs.Phases.{desk_of}
use Rattle.event_model.proofs.Turns.{alike_then}
use Rattle.lsp_method.specs.Class.{class_of}
use Rattle.lsp_method.specs.declared.variants.Origin.TheVariants.{Editor}
use Rattle.mux_model.specs.Methods.{goes_on}
use Rattle.rpc_message.specs.Message.{message_of, notification}
use Rattle.mux_starts.specs.mux_tables.specs.Documents.{AllStand}
use Rattle.mux_editors.proofs.Runs.{aside_row, exit_stays}
use Rattle.mux_editors.proofs.Turns.{is_first, is_second}
use Rattle.mux_entries.proofs.EditorBuilt.{served_needs}
use Rattle.mux_entries.proofs.EditorRows.{alike_behind, alike_past, done_alike}
use Rattle.mux_entries.proofs.editors.from_noting.Goals as goal

pub returns-in_ok-take_exit-clause-does : goal.returns-in_ok-take_exit-clause-does
returns-in_ok-take_exit-clause-does c = λ settings before body method params read says served first known settled st ds.
    let exits : notifies (codes "exit") (message_of body) ≡ true = sym (c.is_exit.ensures body read) ∙ c.if-is_exit.true in
    done_alike (λ k events. AllStand settings k events) (alike_past (aside_row settings before c.args.e (message_of body) (exit_stays (message_of body) exits)) (is_first refl (ap (notifies (codes "exit")) (sym says) ∙ exits))) (c.in_ok-take_exit.ensures.does settings before body exits first st ds)

pub returns-in_ok-take_passed-clause-does : goal.returns-in_ok-take_passed-clause-does
returns-in_ok-take_passed-clause-does c = λ settings before body method params read says served first known settled st ds.
    let stays : bytes_eq (codes "exit") method ≡ false = ap (notifies (codes "exit")) (sym says) ∙ (sym (c.is_exit.ensures body read) ∙ c.if-is_exit.false) in
    let going : goes_on (class_of method Editor true) ≡ true = sym (c.goes_on.ensures body method params read says) ∙ c.if-goes_on.true in
    done_alike (λ k events. AllStand settings k events) (alike_behind (alike_then (is_second refl stays) (is_first refl going)))
    (c.in_ok-take_passed.ensures.does settings before body method params read says going served first known.meant settled st ds)

pub returns-in_ok-take_cancel-clause-does : goal.returns-in_ok-take_cancel-clause-does
returns-in_ok-take_cancel-clause-does c = λ settings before body method params read says served first known settled st ds.
    let stays : bytes_eq (codes "exit") method ≡ false = ap (notifies (codes "exit")) (sym says) ∙ (sym (c.is_exit.ensures body read) ∙ c.if-is_exit.false) in
    let off : goes_on (class_of method Editor true) ≡ false = sym (c.goes_on.ensures body method params read says) ∙ c.if-goes_on.false in
    let cancels : bytes_eq (codes "$/cancelRequest") method ≡ true = ap (notifies (codes "$/cancelRequest")) (sym says) ∙ (sym (c.is_cancel.ensures body read) ∙ c.if-is_cancel.true) in
    done_alike (λ k events. AllStand settings k events) (alike_behind (alike_then (is_second refl stays) (alike_then (is_second refl off) (is_first refl cancels))))
    (c.in_ok-take_cancel.ensures.does settings before body params read (says ∙ ap (λ w. notification w params) (sym ((bytes_eq-Decides (codes "$/cancelRequest") method).0 cancels))) served first known settled st ds)

pub returns-in_ok-take_work_cancel-clause-does : goal.returns-in_ok-take_work_cancel-clause-does
returns-in_ok-take_work_cancel-clause-does c = λ settings before body method params read says served first known settled st ds.
    let stays : bytes_eq (codes "exit") method ≡ false = ap (notifies (codes "exit")) (sym says) ∙ (sym (c.is_exit.ensures body read) ∙ c.if-is_exit.false) in
    let off : goes_on (class_of method Editor true) ≡ false = sym (c.goes_on.ensures body method params read says) ∙ c.if-goes_on.false in
    let other : bytes_eq (codes "$/cancelRequest") method ≡ false = ap (notifies (codes "$/cancelRequest")) (sym says) ∙ (sym (c.is_cancel.ensures body read) ∙ c.if-is_cancel.false) in
    let works : bytes_eq (codes "window/workDoneProgress/cancel") method ≡ true = ap (notifies (codes "window/workDoneProgress/cancel")) (sym says) ∙ (sym (c.cancels_work.ensures body read) ∙ c.if-cancels_work.true) in
    done_alike (λ k events. AllStand settings k events) (alike_behind (alike_then (is_second refl stays) (alike_then (is_second refl off) (alike_then (is_second refl other) (is_first refl works)))))
    (c.in_ok-take_work_cancel.ensures.does settings before body params read (says ∙ ap (λ w. notification w params) (sym ((bytes_eq-Decides (codes "window/workDoneProgress/cancel") method).0 works))) served first known.meant settled st ds)

pub returns-in_ok-take_notice-clause-does : goal.returns-in_ok-take_notice-clause-does
returns-in_ok-take_notice-clause-does c = λ settings before body method params read says served first known settled st ds.
    let e = c.args.e in
    let stays : bytes_eq (codes "exit") method ≡ false = ap (notifies (codes "exit")) (sym says) ∙ (sym (c.is_exit.ensures body read) ∙ c.if-is_exit.false) in
    let seat = settled.seated e (served_needs (desk_of e before).phase served) in
    let off : goes_on (class_of method Editor true) ≡ false = sym (c.goes_on.ensures body method params read says) ∙ c.if-goes_on.false in
    let other : bytes_eq (codes "$/cancelRequest") method ≡ false = ap (notifies (codes "$/cancelRequest")) (sym says) ∙ (sym (c.is_cancel.ensures body read) ∙ c.if-is_cancel.false) in
    let idle : bytes_eq (codes "window/workDoneProgress/cancel") method ≡ false = ap (notifies (codes "window/workDoneProgress/cancel")) (sym says) ∙ (sym (c.cancels_work.ensures body read) ∙ c.if-cancels_work.false) in
    done_alike (λ k events. AllStand settings k events) (alike_behind (alike_then (is_second refl stays) (alike_then (is_second refl off) (alike_then (is_second refl other) (is_second refl idle)))))
    (c.in_ok-take_notice.ensures.does settings before body method params seat.group seat.start read says stays served seat.home seat.last first known.meant settled st ds)
