-- What an editor's message pays.
use Rattle.std.proofs.Common.{inl, refl, subst, sym, ◌∙◌}
use Rattle.event_model.specs.Event.{with_cause}
use Rattle.event_model.proofs.Places.{item_at}
use Rattle.mux_history.specs.declared.cause.Cause.TheVariants.{FromEditor}
use Rattle.rpc_message.specs.Message.{message_of}
use Rattle.mux_debts.specs.Stands.{DebtsStand}
use Rattle.mux_debts.proofs.Going.{ended, idle_stands, none_due, shut_goes, shut_stands}
use Rattle.mux_debts.proofs.Noting.{number_there}
use Rattle.mux_debts.proofs.pays.take_debts.Goals as goal

pub returns-then-shuts-clause-due : goal.returns-then-shuts-clause-due
returns-then-shuts-clause-due c = λ settings before body read known settled st owed.
    none_due settings before c.args.e body (shut_goes settings before c.args.e body (sym (c.shuts.ensures body read) ∙ c.if-shuts.true)) c.new.result.items c.new.ensures.items

pub returns-then-shuts-clause-stands : goal.returns-then-shuts-clause-stands
returns-then-shuts-clause-stands c = λ settings before body read known settled st owed.
    subst (λ rows. DebtsStand settings rows (with_cause before (FromEditor c.args.e body))) (sym c.leave.ensures) (shut_stands settings c.args.debts.now before owed c.args.e body (sym (c.shuts.ensures body read) ∙ c.if-shuts.true))

pub returns-in-None-clause-due : goal.returns-in-None-clause-due
returns-in-None-clause-due c = λ settings before body read known settled st owed.
    none_due settings before c.args.e body (ended settings before c.args.e body (message_of body) (c.in-None.ensures.none settings before st)) c.new-in-None.result.items c.new-in-None.ensures.items

pub returns-in-None-clause-stands : goal.returns-in-None-clause-stands
returns-in-None-clause-stands c = λ settings before body read known settled st owed.
    idle_stands settings c.args.debts.now before owed c.args.e body (sym (c.shuts.ensures body read) ∙ c.if-shuts.false)
    (λ s. inl (ended settings before c.args.e body (message_of body) (c.in-None.ensures.none settings before st) s))

pub returns-in-Some-clause-due : goal.returns-in-Some-clause-due
returns-in-Some-clause-due c = λ settings before body read known settled st owed.
    let xs = c.args.tables.now.lasts.items in
    let x = item_at xs c.in-Some.g c.in-Some.ensures.inside in
    let start = c.in-Some.ensures.start settings before x.0.life.start (number_there xs c.in-Some.g x.0 c.in-Some.ensures.inside x.1) st in
    c.take_owed.ensures.due settings before body x.0 read known settled x.1 start st owed

pub returns-in-Some-clause-stands : goal.returns-in-Some-clause-stands
returns-in-Some-clause-stands c = λ settings before body read known settled st owed.
    let xs = c.args.tables.now.lasts.items in
    let x = item_at xs c.in-Some.g c.in-Some.ensures.inside in
    let start = c.in-Some.ensures.start settings before x.0.life.start (number_there xs c.in-Some.g x.0 c.in-Some.ensures.inside x.1) st in
    c.take_owed.ensures.stands settings before body x.0 read known settled x.1 start (sym (c.shuts.ensures body read) ∙ c.if-shuts.false) st owed
