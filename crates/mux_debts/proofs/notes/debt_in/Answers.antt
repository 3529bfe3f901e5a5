-- The request as it came.
use Rattle.std.proofs.Common.{ap₂, ◌∙◌}
use Rattle.mux_debts.proofs.Going.{refresh_plain}
use Rattle.mux_debts.proofs.notes.debt_in.Goals as goal

pub returns : goal.returns
returns c = λ body method id params read says wants.
    ap₂ (λ m b. record { start = c.args.s; editor = c.args.e; method = m; body = b })
    (c.new.ensures ∙ (c.in_ok-method.ensures body method id params read says ∙ refresh_plain method wants))
    (c.new-2.ensures ∙ (c.in_ok-body.ensures.items ∙ (c.bytes.ensures.bytes ∙ read.bytes_are)))
