-- A request of an editor that is served.
use Rattle.std.proofs.Common.{◌≡◌, ◌||◌, ap, ap₂, codes, refl, sym, ◌∙◌, false, true}
use Rattle.lsp_method.specs.Class.{class_of}
use Rattle.lsp_method.specs.declared.variants.Origin.TheVariants.{Editor}
use Rattle.mux_model.specs.Built.{is_other}
use Rattle.mux_model.specs.Methods.{is_shutdown, is_wrong}
use Rattle.event_model.proofs.Turns.{alike_then}
use Rattle.mux_starts.specs.group_facts.specs.Built.{is_standard}
use Rattle.group_rows.specs.Waiting.{is_misplaced}
use Rattle.rpc_message.specs.Message.{message_of}
use Rattle.mux_starts.specs.mux_tables.specs.Documents.{AllStand}
use Rattle.mux_editors.proofs.Classes.{not_own, shutdown_later, shutdown_named, swapped}
use Rattle.mux_editors.proofs.Runs.{aside_row, shutdown_stays}
use Rattle.mux_editors.proofs.Turns.{is_first, is_second}
use Rattle.mux_entries.proofs.EditorBuilt.{misplaced_class, other_class, other_right}
use Rattle.mux_entries.proofs.EditorRows.{alike_behind, alike_past, done_alike}
use Rattle.mux_entries.proofs.editors.from_asking.Goals as goal

pub returns-in_ok-take_wrong-in-Wrong-clause-does : goal.returns-in_ok-take_wrong-in-Wrong-clause-does
returns-in_ok-take_wrong-in-Wrong-clause-does c = λ settings before body method id params read says sort served fresh first meant settled st ds.
    let wrong = misplaced_class method c.class_in.result (c.class_in.ensures body method id params read says) c.in-Wrong.is in
    done_alike (λ k events. AllStand settings k events) (alike_behind (is_first refl wrong)) (c.in_ok-take_wrong-in-Wrong.ensures.does settings before body method id params read says wrong served first meant settled st ds)

pub returns-in_ok-take_shutdown-in-Shutdown-clause-does : goal.returns-in_ok-take_shutdown-in-Shutdown-clause-does
returns-in_ok-take_shutdown-in-Shutdown-clause-does c = λ settings before body method id params read says sort served fresh first meant settled st ds.
    let is = sym (c.class_in.ensures body method id params read says) ∙ c.in-Shutdown.is in
    let down : is_shutdown (class_of method Editor false) ≡ true = ap is_shutdown is in
    let placed : is_misplaced method ≡ false = ap₂ (λ a b. a || b) (shutdown_later method down) (ap is_wrong is) in
    done_alike (λ k events. AllStand settings k events) (alike_past (aside_row settings before c.args.e (message_of body) (shutdown_stays (message_of body) method id params says (shutdown_named method down))) (alike_then (is_second refl placed) (is_first refl (shutdown_named method down)))) (c.in_ok-take_shutdown-in-Shutdown.ensures.does settings before body method id params read says (shutdown_named method down) served first st ds)

pub returns-in_ok-take_request-in_default-clause-does : goal.returns-in_ok-take_request-in_default-clause-does
returns-in_ok-take_request-in_default-clause-does c = λ settings before body method id params read says sort served fresh first meant settled st ds.
    let is = c.class_in.ensures body method id params read says in
    let other : is_other (class_of method Editor false) ≡ true = ap is_other (sym is) ∙ other_class c.class_in.result (ap is_standard is ∙ sort) c.in_default.not-Initialize c.in_default.not-Wrong c.in_default.not-Shutdown in
    let n = not_own method other in
    let placed : is_misplaced method ≡ false = ap₂ (λ a b. a || b) (swapped method (codes "initialize") n.initialize) (other_right (class_of method Editor false) other) in
    done_alike (λ k events. AllStand settings k events) (alike_behind (alike_then (is_second refl placed) (is_second refl (swapped method (codes "shutdown") n.shutdown))))
    (c.in_ok-take_request-in_default.ensures.does settings before body method id params read says other served fresh first meant settled st ds)
