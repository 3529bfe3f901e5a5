-- An editor is told of what is taken back, where there is any.
use Rattle.std.proofs.Common.{refl}
use Rattle.event_model.proofs.Turns.{does_nothing}
use Rattle.group_facts.specs.group_rows.specs.LiveRows.{has_some}
use Rattle.mux_turns.proofs.Called.{none_there, some_there}
use Rattle.mux_turns.proofs.Keeping.{chosen, unchosen}
use Rattle.mux_turns.proofs.calls.call_unregistered_any.Goals as goal

pub returns-then-is_empty-clause-does : goal.returns-then-is_empty-clause-does
returns-then-is_empty-clause-does c = λ settings owed base call runs none.
    unchosen {b = has_some c.args.items.now} refl (none_there c.args.items.now c.is_empty.result c.is_empty.ensures c.if-is_empty.true) does_nothing

pub returns-clause-does : goal.returns-clause-does
returns-clause-does c = λ settings owed base call runs none.
    chosen {b = has_some c.args.items.now} refl (some_there c.args.items.now c.is_empty.result c.is_empty.ensures c.if-is_empty.false) (c.in_ok-call_unregistered.ensures.does settings owed base call runs none)
