-- What was held goes to the editor, where the response takes a token.
use Rattle.std.proofs.Common.{subst, sym}
use Rattle.std.specs.Prelude.{IfSome}
use Rattle.event_model.specs.Does.{Does}
use Rattle.event_model.specs.Row.{each, nothing, on}
use Rattle.event_model.proofs.Turns.{does_nothing}
use Rattle.group_rows.specs.CreatedRows.{tell}
use Rattle.mux_tables.specs.Stands.{Stands}
use Rattle.mux_editors.specs.Handing.{AreHeld}
use Rattle.mux_editors.proofs.handed.hand_out_any.Goals as goal

pub returns-in-None-clause-does : goal.returns-in-None-clause-does
returns-in-None-clause-does c = λ settings base s at held.
    let t = c.args.tables.now in
    let xs = c.args.outs.now in
    subst (λ o. Does (λ t events. Stands settings t events) (on o nothing (λ h. each (tell s h.token c.args.e) h.bodies.items)) base t xs t xs) (sym c.in-None.is) does_nothing

pub returns-in_ok-hand_out-in-Some-clause-does : goal.returns-in_ok-hand_out-in-Some-clause-does
returns-in_ok-hand_out-in-Some-clause-does c = λ settings base s at held.
    let t = c.args.tables.now in
    let xs = c.args.outs.now in
    subst (λ o. Does (λ t events. Stands settings t events) (on o nothing (λ h. each (tell s h.token c.args.e) h.bodies.items)) base t xs t c.hand_out.new.outs) (sym c.in-Some.is)
    (c.in_ok-hand_out-in-Some.ensures.does settings base s at (subst (λ o. IfSome o (λ h. AreHeld h.bodies.items)) c.in-Some.is held))
