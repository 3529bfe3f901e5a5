-- By what is kept of its count.
use Rattle.std.proofs.Common.{◌≡◌, ℕ, false, nat_lt, ap, sym, ◌∙◌, arith}
use Rattle.std.proofs.lemmas.Bool.Decides.{nat_tests}
use Rattle.event_model.specs.Phases.{backlog_of}
use Rattle.mux_causes.specs.Backlogs.{bytes_in}
use Rattle.mux_slow.proofs.slow.is_over.Goals as goal

none_below : (n : ℕ) → nat_lt n 0 ≡ false
none_below n = grind (arith, nat_tests)

pub returns-in-Some : goal.returns-in-Some
returns-in-Some c = λ settings events limit s.
    sym (ap (λ k. nat_lt k (backlog_of c.args.e events)) limit ∙ ap (nat_lt c.args.limit) (s.bytes c.args.e ∙ ap bytes_in c.in-Some.ensures.some))

pub returns-in-None : goal.returns-in-None
returns-in-None c = λ settings events limit s. sym (ap (nat_lt settings.limits.backlog) (s.bytes c.args.e ∙ c.in-None.ensures.none) ∙ none_below settings.limits.backlog)
