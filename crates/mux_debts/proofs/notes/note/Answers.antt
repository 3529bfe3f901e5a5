-- It is owed, or owed no more.
use Rattle.std.proofs.Common.{ap, sym, ◌∙◌}
use Rattle.refresh_debts.specs.declared.debts.Debt.{Debt}
use Rattle.refresh_debts.specs.Tables.{is_same, with_debt, without}
use Rattle.group_rows.specs.Debts.{debt_of, owed_by}
use Rattle.mux_tables.proofs.Starts.{start_at_place}
use Rattle.mux_debts.proofs.notes.note.Goals as goal

pub returns-then-agrees : goal.returns-then-agrees
returns-then-agrees c = λ settings before body method id params x read says wants here ready st ds.
    let rows = c.args.debts.now in
    let debt = c.in_ok-debt.debt in
    let own = start_at_place c.args.tables.now.lasts.items c.args.g c.start_number-s.result x here c.start_number-s.ensures in
    let whole = c.in_ok-debt.ensures body method id params read says wants ∙ ap (λ n. debt_of n c.args.e method body) (sym own) in
    let agreed = sym (c.in_ok-agrees.ensures settings before x here ready st ds) ∙ c.if-agrees.true in
    c.settle.ensures ∙ (ap (λ w. without (is_same debt.start debt.editor w) rows) c.bytes.ensures
    ∙ (ap (λ (d : Debt). without (is_same d.start d.editor d.method) rows) whole ∙ sym (ap (λ a. owed_by a (debt_of x.life.start c.args.e method body) rows) agreed)))

pub returns-in_ok-owe : goal.returns-in_ok-owe
returns-in_ok-owe c = λ settings before body method id params x read says wants here ready st ds.
    let rows = c.args.debts.now in
    let own = start_at_place c.args.tables.now.lasts.items c.args.g c.start_number-s.result x here c.start_number-s.ensures in
    let whole = c.in_ok-debt.ensures body method id params read says wants ∙ ap (λ n. debt_of n c.args.e method body) (sym own) in
    let agreed = sym (c.in_ok-agrees.ensures settings before x here ready st ds) ∙ c.if-agrees.false in
    c.in_ok-owe.ensures.ok ∙ (ap (λ (d : Debt). with_debt d rows) whole ∙ sym (ap (λ a. owed_by a (debt_of x.life.start c.args.e method body) rows) agreed))
