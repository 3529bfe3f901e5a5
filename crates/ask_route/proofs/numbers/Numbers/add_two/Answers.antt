use Rattle.ask_route.specs.Rows.{id_key}
use Rattle.ask_route.proofs.Keeping.{undone}
use Rattle.ask_route.proofs.numbers.Numbers.add_two.Goals as goal

pub returns-in-Err-clause-err_ids : goal.returns-in-Err-clause-err_ids
returns-in-Err-clause-err_ids c = undone (id_key c.args.ask.now) c.args.n c.args.self.now.by_id _ _ c.requires c.in_ok-add_id.ensures.ok c.remove_id.ensures
