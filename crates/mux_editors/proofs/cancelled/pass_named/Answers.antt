-- A cancel goes to the start, or gives nothing.
use Rattle.std.proofs.Common.{◌<◌, length, map, subst}
use Rattle.std.specs.Prelude.{Option, IfSome}
use Rattle.event_model.proofs.Places.{item_at}
use Rattle.event_model.proofs.Turns.{does_alike, does_nothing}
use Rattle.mux_tables.specs.Stands.{number_in}
use Rattle.mux_tables.proofs.DocumentOwed.{number_there}
use Rattle.mux_editors.specs.Cancels.{Names}
use Rattle.mux_editors.specs.declared.cancelled.Target.{Target}
use Rattle.mux_editors.proofs.cancelled.pass_named.Goals as goal

pub returns-in-None-clause-does : goal.returns-in-None-clause-does
returns-in-None-clause-does c = λ settings before base e body params read says named.
    let silent = subst (λ o. Names settings before e body params (map number_in c.args.tables.now.lasts.items) o) c.in-None.is named in
    does_alike (λ _. silent) does_nothing

pub returns-in_ok-pass_cancel-in-Some-clause-does : goal.returns-in_ok-pass_cancel-in-Some-clause-does
returns-in_ok-pass_cancel-in-Some-clause-does c = λ settings before base e body params read says named.
    let t = c.args.tables.now in
    let r = c.in-Some.request in
    let names = subst (λ o. Names settings before e body params (map number_in t.lasts.items) o) c.in-Some.is named in
    let inside = subst (λ (o : Option Target). IfSome o (λ x. x.group < length t.lasts.items)) c.in-Some.is c.requires in
    let x = item_at t.lasts.items r.group inside in
    let there = number_there t.lasts.items r.group x.0 x.1 in
    does_alike (λ _. names.1 x.0.life.start there) (c.in_ok-pass_cancel-in-Some.ensures.does settings base body params names.0.0 x.0.life.start read says names.0.1 there)
