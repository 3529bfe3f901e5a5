-- In the place of that of its method, or behind all others.
use Rattle.std.proofs.Common.{◌≡◌, ap, sym, ◌∙◌}
use Rattle.std.specs.Prelude.{Some, None}
use Rattle.refresh_debts.specs.Tables.{is_same, place_in, with_debt}
use Rattle.refresh_debts.proofs.Places.{put_at, put_behind}
use Rattle.refresh_debts.proofs.debts.Debts.owe.Goals as goal

pub returns-in-Some-clause-ok : goal.returns-in-Some-clause-ok
returns-in-Some-clause-ok c =
    let d = c.args.debt in
    let found = c.in-Some.ensures.place in
    let rows = c.deref.ensures.value in
    let method = c.bytes.ensures in
    let at : place_in 0 (is_same d.start d.editor d.method) c.self.inside.rows.items ≡ Some c.in-Some.place = cc in
    put_at c.in-Some.place d c.self.inside.rows.items at ∙ ap (with_debt d) c.self.view_is

pub returns-in_ok-push-in-None-clause-ok : goal.returns-in_ok-push-in-None-clause-ok
returns-in_ok-push-in-None-clause-ok c =
    let d = c.args.debt in
    let none = c.in-None.ensures.place in
    let rows = c.deref.ensures.value in
    let method = c.bytes.ensures in
    let at : place_in 0 (is_same d.start d.editor d.method) c.self.inside.rows.items ≡ None = cc in
    c.in_ok-push-in-None.ensures.items ∙ (sym (put_behind d c.self.inside.rows.items at) ∙ ap (with_debt d) c.self.view_is)
