-- A request that isn't taken.
use Rattle.std.proofs.Common.{subst}
use Rattle.event_model.specs.Does.{Does}
use Rattle.group_facts.specs.group_rows.specs.Rows.{answer_error}
use Rattle.mux_tables.specs.Stands.{Stands}
use Rattle.mux_turns.proofs.refusals.refuse_wrong.Goals as goal

pub returns-clause-does : goal.returns-clause-does
returns-clause-does c = λ settings base body method id params read says.
    subst (λ code. Does (λ t events. Stands settings t events) (answer_error c.args.e body code) base c.args.tables.now c.args.outs.now c.refuse.new.tables c.refuse.new.outs) (c.wrong_code-code.ensures body method id params read says)
    (c.in_ok-refuse.ensures.does settings base body method id params read says)
