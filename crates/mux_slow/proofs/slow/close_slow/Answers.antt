-- An editor leaves, if it is slow.
use Rattle.std.proofs.Common.{ap, sym, ◌∙◌}
use Rattle.event_model.specs.Row.{choose, nothing}
use Rattle.event_model.specs.Event.{behind}
use Rattle.event_model.proofs.Turns.{does_false, does_look, does_nothing, does_true}
use Rattle.group_rows.specs.Rows.{closing_row}
use Rattle.mux_slow.proofs.slow.close_slow.Goals as goal

pub returns-in_ok-end_link-clause-does : goal.returns-in_ok-end_link-clause-does
returns-in_ok-end_link-clause-does c = λ settings base limit counts.
    let e = c.args.e in
    let place = behind base c.args.outs.now in
    does_look (λ s. ap (λ b. choose b (closing_row settings place e) nothing) (sym (c.is_slow.ensures.slow settings place limit s.0 counts) ∙ c.if-is_slow.true)) (does_true (c.in_ok-end_link.ensures.does settings base))

pub returns-else-is_slow-clause-does : goal.returns-else-is_slow-clause-does
returns-else-is_slow-clause-does c = λ settings base limit counts.
    let e = c.args.e in
    let place = behind base c.args.outs.now in
    does_look (λ s. ap (λ b. choose b (closing_row settings place e) nothing) (sym (c.is_slow.ensures.slow settings place limit s.0 counts) ∙ c.if-is_slow.false)) (does_false does_nothing)
