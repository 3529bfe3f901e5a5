use Rattle.std.proofs.Common.{◌∙◌, ap, sym}
use Rattle.numbered_rows.specs.Rows.{row_at}
use Rattle.numbered_rows.proofs.Numbering.{found_first, none_with}
use Rattle.held_requests.specs.Tables.{is_under}
use Rattle.held_requests.specs.Rows.{Numbered}
use Rattle.held_requests.proofs.rows.Rows.find.Goals as goal

pub returns-in-Some : goal.returns-in-Some
returns-in-Some c =
    c.get.ensures.value ∙ (ap (λ (t : Numbered). row_at c.in-Some.number t.rows) c.self.view_is
    ∙ found_first (is_under c.args.editor c.args.id.now) 0 c.args.self.now.next c.args.self.now.rows c.in-Some.number c.in-Some.ensures.rise (sym c.in-Some.ensures.first))

pub returns-in-None : goal.returns-in-None
returns-in-None c = sym (none_with (is_under c.args.editor c.args.id.now) c.args.self.now.rows (sym c.in-None.ensures.first))
