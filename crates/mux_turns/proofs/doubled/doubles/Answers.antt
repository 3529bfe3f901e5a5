-- Whether a request under this id is open.
use Rattle.std.proofs.Common.{ap, sym, ◌∙◌}
use Rattle.event_model.specs.Requests.{open_of}
use Rattle.group_facts.specs.Built.{doubles}
use Rattle.group_facts.specs.Settled.{is_answered}
use Rattle.mux_turns.proofs.Asked.{alone_else}
use Rattle.mux_turns.proofs.doubled.doubles.Goals as goal

pub returns-in-Waiting : goal.returns-in-Waiting
returns-in-Waiting c = λ settings before i facts known st text phase. c.is_own.ensures settings before i known st text (sym phase ∙ c.in-Waiting.is) ∙ ap (λ p. doubles p i (open_of c.args.e before)) (sym c.in-Waiting.is)

pub returns-in-Answered : goal.returns-in-Answered
returns-in-Answered c = λ settings before i facts known st text phase. c.is_asked.ensures settings before i facts known st text (ap is_answered (sym phase ∙ c.in-Answered.is)) ∙ ap (λ p. doubles p i (open_of c.args.e before)) (sym c.in-Answered.is)

pub returns-in-Running : goal.returns-in-Running
returns-in-Running c = λ settings before i facts known st text phase. c.is_asked-in-Running.ensures settings before i facts known st text (ap is_answered (sym phase ∙ c.in-Running.is)) ∙ ap (λ p. doubles p i (open_of c.args.e before)) (sym c.in-Running.is)

pub returns-in-Down : goal.returns-in-Down
returns-in-Down c = λ settings before i facts known st text phase. c.is_asked-in-Down.ensures settings before i facts known st text (ap is_answered (sym phase ∙ c.in-Down.is)) ∙ ap (λ p. doubles p i (open_of c.args.e before)) (sym c.in-Down.is)

pub returns-in_default : goal.returns-in_default
returns-in_default c = λ settings before i facts known st text phase.
    alone_else c.args.phase i (open_of c.args.e before) c.in_default.not-Waiting c.in_default.not-Answered c.in_default.not-Running c.in_default.not-Down
