-- What the last start owes, where it owes anything.
use Rattle.std.proofs.Common.{ap, inr, sym, ◌∙◌}
use Rattle.group_rows.specs.Debts.{debts_of, goes_to}
use Rattle.refresh_debts.specs.Tables.{of}
use Rattle.rpc_message.specs.Message.{message_of}
use Rattle.mux_tables.proofs.Starts.{start_at_place}
use Rattle.mux_debts.proofs.Going.{either_idle, empty_due, idle_stands, none_of, this_due}
use Rattle.mux_debts.proofs.pays.take_owed.Goals as goal

pub returns-then-has-clause-due : goal.returns-then-has-clause-due
returns-then-has-clause-due c = c.take_going.ensures.due

pub returns-then-has-clause-stands : goal.returns-then-has-clause-stands
returns-then-has-clause-stands c = c.take_going.ensures.stands

pub returns-else-has-clause-due : goal.returns-else-has-clause-due
returns-else-has-clause-due c = λ settings before body x read known settled here start st owed.
    let e = c.args.e in
    let s = x.life.start in
    let rows = c.args.debts.now in
    let own = start_at_place c.args.tables.now.lasts.items c.args.g c.start_number-s.result x here c.start_number-s.ensures in
    let none = ap (λ n. of n e rows) own ∙ none_of c.start_number-s.result e rows (sym c.has.ensures ∙ c.if-has.false) in
    this_due settings before e body s start c.new.result.items (c.new.ensures.items ∙ empty_due (goes_to settings s before e body (message_of body)) (debts_of settings s e before) (sym (owed s e) ∙ none))

pub returns-else-has-clause-stands : goal.returns-else-has-clause-stands
returns-else-has-clause-stands c = λ settings before body x read known settled here start stays st owed.
    let e = c.args.e in
    let rows = c.args.debts.now in
    let own = start_at_place c.args.tables.now.lasts.items c.args.g c.start_number-s.result x here c.start_number-s.ensures in
    let none = ap (λ n. of n e rows) own ∙ none_of c.start_number-s.result e rows (sym c.has.ensures ∙ c.if-has.false) in
    idle_stands settings rows before owed e body stays (either_idle settings before e body x.life.start start rows (inr none))
