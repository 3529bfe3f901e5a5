use Rattle.ask_route.specs.Rows.{id_key, number_key}
use Rattle.ask_route.proofs.Keeping.{undone}
use Rattle.ask_route.proofs.numbers.Numbers.add.Goals as goal

pub returns-in-Err-clause-err_ids : goal.returns-in-Err-clause-err_ids
returns-in-Err-clause-err_ids c = undone (id_key c.args.ask.now) c.args.n c.args.self.now.by_id _ _ c.requires.ids c.in_ok-add_two.ensures.ids c.remove_id.ensures

pub returns-in-Err-clause-err_numbers : goal.returns-in-Err-clause-err_numbers
returns-in-Err-clause-err_numbers c = undone (number_key c.args.ask.now) c.args.n c.args.self.now.by_number _ _ c.requires.numbers c.in_ok-add_two.ensures.numbers c.remove_number.ensures
