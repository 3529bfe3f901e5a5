-- An editor is shown the list of a number, as one at which its document isn't open.
use Rattle.std.proofs.Common.{ap, sym, subst, ◌∙◌}
use Rattle.std.specs.Prelude.{slice_get}
use Rattle.mux_history.specs.declared.out.Out.TheVariants.{ToEditor}
use Rattle.event_model.specs.Does.{Does}
use Rattle.event_model.specs.Event.{behind}
use Rattle.event_model.specs.Row.{nothing, on, send}
use Rattle.event_model.proofs.Turns.{does_knowing, does_nothing}
use Rattle.mux_tables.specs.Documents.{AllStand}
use Rattle.mux_tables.specs.Stands.{IsListOf}
use Rattle.mux_tables.proofs.DocumentOwed.{all_does}
use Rattle.mux_editors.specs.Shows.{show_plain}
use Rattle.mux_editors.proofs.Showing.{lists_behind, plain_shown}
use Rattle.mux_editors.proofs.shows.show_at.Goals as goal

pub returns-in-None-clause-does : goal.returns-in-None-clause-does
returns-in-None-clause-does c = λ settings owed base x here ready meant.
    let t = c.args.tables.now in
    let e = c.args.e in
    let s = x.life.start in
    let xs = c.args.outs.now in
    does_knowing (λ k.
    let found = ap (λ ls. slice_get ls c.args.n) (sym (lists_behind s base xs)) ∙ sym (c.in-None.ensures settings (behind base xs) x here ready k.0) in
    subst (λ o. Does (λ k events. AllStand settings k events) (on o nothing (show_plain e)) base (t, owed) xs (t, owed) xs) (sym found) does_nothing)

pub returns-in_ok-show-in-Some-clause-does : goal.returns-in_ok-show-in-Some-clause-does
returns-in_ok-show-in-Some-clause-does c = λ settings owed base x here ready meant.
    let t = c.args.tables.now in
    let v = c.show.new.self in
    let e = c.args.e in
    let s = x.life.start in
    let xs = c.args.outs.now in
    let ys = c.show.new.outs in
    let l = c.in-Some.list.now in
    does_knowing (λ k.
    let found = ap (λ ls. slice_get ls c.args.n) (sym (lists_behind s base xs)) ∙ sym (c.in-Some.ensures settings (behind base xs) x here ready k.0) in
    let is = c.in_ok-text-in-Some.ensures in
    let uri = c.bytes.ensures ∙ c.in_ok-uri-in-Some.ensures in
    let listed = subst (λ w. IsListOf w l.empty c.in_ok-text-in-Some.text) (sym uri) (subst (λ w. IsListOf l.uri l.empty w) (sym is) (plain_shown s base c.args.n l meant found)) in
    subst (λ o. Does (λ k events. AllStand settings k events) (on o nothing (show_plain e)) base (t, owed) xs (v, owed) ys) (sym found)
    (subst (λ w. Does (λ k events. AllStand settings k events) (send (ToEditor e w)) base (t, owed) xs (v, owed) ys) is
    (all_does settings t v owed owed base xs ys (c.in_ok-show-in-Some.ensures.does settings base listed) (λ _ d. c.in_ok-show-in-Some.ensures.documents settings owed base d))))
