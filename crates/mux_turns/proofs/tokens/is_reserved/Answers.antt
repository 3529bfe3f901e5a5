-- Whether a token might be the daemon's.
use Rattle.std.proofs.Common.{ap, sym, ◌∙◌}
use Rattle.group_facts.specs.group_rows.specs.Reserved.{begins_as_mark}
use Rattle.event_model.specs.Members.{named_of, params_of}
use Rattle.mux_turns.proofs.Marks.{reserved_nothing, reserved_text}
use Rattle.mux_turns.proofs.tokens.is_reserved.Goals as goal

pub returns-in-Some : goal.returns-in-Some
returns-in-Some c = λ ascii body method id params read says.
    reserved_text (named_of c.args.name.now (params_of body)) c.in-Some.cs c.begins_as_mark.result (sym c.in-Some.is ∙ c.in_ok-token.ensures.asked ascii body method id params read says) (c.begins_as_mark.ensures ∙ ap begins_as_mark c.bytes.ensures)

pub returns-in-None : goal.returns-in-None
returns-in-None c = λ ascii body method id params read says.
    reserved_nothing (named_of c.args.name.now (params_of body)) (sym c.in-None.is ∙ c.in_ok-token.ensures.asked ascii body method id params read says)
