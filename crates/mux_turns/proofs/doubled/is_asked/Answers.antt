-- What is open of an editor that got its result.
use Rattle.std.proofs.Common.{◌≡◌, true, false, sym, ◌∙◌}
use Rattle.mux_turns.proofs.Asked.{asked_else}
use Rattle.mux_turns.proofs.doubled.is_asked.Goals as goal

pub returns-then-is_sent : goal.returns-then-is_sent
returns-then-is_sent c = λ settings before i facts known st text served. c.if-is_sent.true ∙ sym (c.is_sent.ensures.open settings before i facts known st text served c.if-is_sent.true)

pub returns-else-is_sent : goal.returns-else-is_sent
returns-else-is_sent c = λ settings before i facts known st text served.
    asked_else settings before c.args.e i c.is_held.result known served (c.is_held.ensures.open settings before i st text)
    (λ sent. let clash : true ≡ false = sym (c.is_sent.ensures.sent settings before i known st text served sent) ∙ c.if-is_sent.false in absurd cc)
    (c.is_held.ensures.kept settings before i st text)
