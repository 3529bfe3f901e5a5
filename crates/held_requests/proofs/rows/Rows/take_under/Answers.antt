use Rattle.std.proofs.Common.{◌∙◌, ap, sym}
use Rattle.std.specs.Prelude.{is_some}
use Rattle.std.specs.Map.{values_of}
use Rattle.numbered_rows.proofs.Numbering.{any_found, less_first, none_less, none_with}
use Rattle.held_requests.specs.Tables.{is_under}
use Rattle.held_requests.proofs.Keeping.{some_first}
use Rattle.held_requests.proofs.rows.Rows.take_under.Goals as goal

pub returns-in-Some-clause-found : goal.returns-in-Some-clause-found
returns-in-Some-clause-found c = some_first (is_under c.args.editor c.args.id.now) c.args.self.now.rows c.in-Some.number (sym c.in-Some.ensures.first)

pub returns-in-Some-clause-left : goal.returns-in-Some-clause-left
returns-in-Some-clause-left c = ap values_of c.take-request.ensures.rows ∙ less_first (is_under c.args.editor c.args.id.now) 0 c.args.self.now.next c.args.self.now.rows c.in-Some.number c.in-Some.ensures.rise (sym c.in-Some.ensures.first)

pub returns-in-None-clause-found : goal.returns-in-None-clause-found
returns-in-None-clause-found c = sym (sym (any_found (is_under c.args.editor c.args.id.now) (values_of c.args.self.now.rows)) ∙ ap is_some (none_with (is_under c.args.editor c.args.id.now) c.args.self.now.rows (sym c.in-None.ensures.first)))

pub returns-in-None-clause-left : goal.returns-in-None-clause-left
returns-in-None-clause-left c = none_less (is_under c.args.editor c.args.id.now) c.args.self.now.rows (sym c.in-None.ensures.first)
