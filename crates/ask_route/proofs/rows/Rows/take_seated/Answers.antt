use Rattle.std.proofs.Common.{◌∙◌, ap, sym}
use Rattle.std.specs.Map.{values_of}
use Rattle.ask_route.specs.Tables.{is_seated}
use Rattle.ask_route.proofs.Numbering.{found_first, less_first, none_less, none_with}
use Rattle.ask_route.proofs.rows.Rows.take_seated.Goals as goal

pub returns-in-Some-clause-ask : goal.returns-in-Some-clause-ask
returns-in-Some-clause-ask c = c.take.ensures.value ∙ found_first (is_seated c.args.editor c.args.number) 0 c.args.self.now.next c.args.self.now.rows c.in-Some.at c.in-Some.ensures.rise (sym c.in-Some.ensures.first)

pub returns-in-Some-clause-left : goal.returns-in-Some-clause-left
returns-in-Some-clause-left c = ap values_of c.take.ensures.rows ∙ less_first (is_seated c.args.editor c.args.number) 0 c.args.self.now.next c.args.self.now.rows c.in-Some.at c.in-Some.ensures.rise (sym c.in-Some.ensures.first)

pub returns-in-None-clause-ask : goal.returns-in-None-clause-ask
returns-in-None-clause-ask c = sym (none_with (is_seated c.args.editor c.args.number) c.args.self.now.rows (sym c.in-None.ensures.first))

pub returns-in-None-clause-left : goal.returns-in-None-clause-left
returns-in-None-clause-left c = none_less (is_seated c.args.editor c.args.number) c.args.self.now.rows (sym c.in-None.ensures.first)
