-- What the last start owes is taken out where the message goes on.
use Rattle.std.proofs.Common.{[], ap, if◌then◌else◌, inl, subst, sym, ◌∙◌}
use Rattle.event_model.specs.Event.{with_cause}
use Rattle.group_rows.specs.Debts.{debts_of}
use Rattle.mux_history.specs.declared.cause.Cause.TheVariants.{FromEditor}
use Rattle.refresh_debts.specs.Tables.{is_of, of, without}
use Rattle.rpc_message.specs.Message.{message_of}
use Rattle.mux_tables.proofs.Starts.{start_at_place}
use Rattle.mux_debts.specs.Stands.{DebtsStand}
use Rattle.mux_debts.proofs.Going.{either_idle, idle_stands, taken_stands, this_due, to_others}
use Rattle.mux_debts.proofs.pays.take_going.Goals as goal

pub returns-in_ok-due-clause-due : goal.returns-in_ok-due-clause-due
returns-in_ok-due-clause-due c = λ settings before body x read known settled here start st owed.
    let e = c.args.e in
    let s = x.life.start in
    let rows = c.args.debts.now in
    let own = start_at_place c.args.tables.now.lasts.items c.args.g c.start_number-s.result x here c.start_number-s.ensures in
    let goes = sym (c.in_ok-goes.ensures settings before body x read known settled here start st) ∙ c.if-goes.true in
    this_due settings before e body s start c.in_ok-due.due.items
    (c.in_ok-due.ensures.taken ∙ (ap (λ n. of n e rows) (sym own) ∙ (owed s e ∙ sym (ap (λ b. if b then debts_of settings s e before else []) goes))))

pub returns-in_ok-due-clause-stands : goal.returns-in_ok-due-clause-stands
returns-in_ok-due-clause-stands c = λ settings before body x read known settled here start stays st owed.
    let e = c.args.e in
    let s = x.life.start in
    let rows = c.args.debts.now in
    let own = start_at_place c.args.tables.now.lasts.items c.args.g c.start_number-s.result x here c.start_number-s.ensures in
    let goes = sym (c.in_ok-goes.ensures settings before body x read known settled here start st) ∙ c.if-goes.true in
    subst (λ ds. DebtsStand settings ds (with_cause before (FromEditor e body))) (sym (c.in_ok-due.ensures.left ∙ ap (λ n. without (is_of n e) rows) (sym own)))
    (taken_stands settings rows before owed e body s stays goes (λ n other. to_others settings before e body s start (message_of body) n other))

pub returns-else-goes-clause-due : goal.returns-else-goes-clause-due
returns-else-goes-clause-due c = λ settings before body x read known settled here start st owed.
    let stops = sym (c.in_ok-goes.ensures settings before body x read known settled here start st) ∙ c.if-goes.false in
    this_due settings before c.args.e body x.life.start start c.new.result.items (c.new.ensures.items ∙ sym (ap (λ b. if b then debts_of settings x.life.start c.args.e before else []) stops))

pub returns-else-goes-clause-stands : goal.returns-else-goes-clause-stands
returns-else-goes-clause-stands c = λ settings before body x read known settled here start stays st owed.
    let stops = sym (c.in_ok-goes.ensures settings before body x read known settled here start st) ∙ c.if-goes.false in
    idle_stands settings c.args.debts.now before owed c.args.e body stays (either_idle settings before c.args.e body x.life.start start c.args.debts.now (inl stops))
