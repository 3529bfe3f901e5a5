-- What an editor gets of an answer.
use Rattle.std.proofs.Common.{ap, refl, sym, ◌∙◌}
use Rattle.event_model.specs.Phases.{is_there}
use Rattle.mux_starts.proofs.Answering.{reply_given, reply_gone}
use Rattle.mux_starts.proofs.answers.reply_of.Goals as goal

pub returns-then-not-is_there : goal.returns-then-not-is_there
returns-then-not-is_there c = λ settings before body s n x read here ready at st ds noted.
    (reply_gone settings before body s n c.args.pending.now (ap is_there (sym (c.phase.ensures settings before st)) ∙ (sym c.is_there.ensures ∙ c.if-not-is_there.true)), tt)

pub returns : goal.returns
returns c = λ settings before body s n x read here ready at st ds noted. (
  reply_given settings before body s n c.args.pending.now c.in_ok-id.id c.in_ok-body.body (ap is_there (sym (c.phase.ensures settings before st)) ∙ (sym c.is_there.ensures ∙ c.if-not-is_there.false))
      (c.in_ok-body.ensures settings before body s n x read here ready at st ds noted),
  record { editor = refl; id = c.in_ok-id.ensures; text = c.in_ok-body.ensures settings before body s n x read here ready at st ds noted },
)
