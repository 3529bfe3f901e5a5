-- What waits of an editor.
use Rattle.std.proofs.Common.{ap, sym, ◌∙◌}
use Rattle.std.specs.Prelude.{is_some}
use Rattle.mux_turns.proofs.Asked.{copied_some, held_found, held_nowhere, held_open}
use Rattle.mux_turns.proofs.doubled.is_held.Goals as goal

pub returns-in-Some-clause-open : goal.returns-in-Some-clause-open
returns-in-Some-clause-open c = λ settings before i st text so.
    held_open settings c.args.tables.now before c.args.e i c.in-Some.g st (sym (c.is_some.ensures ∙ (copied_some c.waiting_under.result ∙ ap is_some (c.waiting_under.ensures settings before i text st))) ∙ so)

pub returns-in-Some-clause-kept : goal.returns-in-Some-clause-kept
returns-in-Some-clause-kept c = λ settings before i st text kept.
    c.is_some.ensures ∙ (copied_some c.waiting_under.result ∙ ap is_some (c.waiting_under.ensures settings before i text st) ∙ held_found settings before c.args.e i c.in-Some.g (c.home.ensures settings before st ∙ c.in-Some.is) kept)

pub returns-in-None-clause-kept : goal.returns-in-None-clause-kept
returns-in-None-clause-kept c = λ settings before i st text kept. held_nowhere settings before c.args.e i (c.home.ensures settings before st ∙ c.in-None.is) kept
