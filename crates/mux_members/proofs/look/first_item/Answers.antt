use Rattle.std.proofs.Common.{sym, ◌∙◌, subst}
use Rattle.mux_members.specs.Finds.{Rest}
use Rattle.mux_members.proofs.Walks.{array_listed, other_listed, rest_none}
use Rattle.mux_model.specs.event_model.specs.Members.{listed}
use Rattle.mux_members.proofs.look.first_item.Goals as goal

pub returns-then-is_array-clause-rest : goal.returns-then-is_array-clause-rest
returns-then-is_array-clause-rest c = λ o f. subst (λ z. Rest c.args.tape.now c.first_value.result z) (array_listed o (sym (c.is_array.ensures o f) ∙ c.if-is_array.true)) (c.first_value.ensures.rest o f)

pub returns-else-is_array-clause-rest : goal.returns-else-is_array-clause-rest
returns-else-is_array-clause-rest c = λ o f. rest_none c.args.tape.now (listed o) (other_listed o (sym (c.is_array.ensures o f) ∙ c.if-is_array.false))
