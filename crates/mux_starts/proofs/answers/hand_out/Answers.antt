-- A reply goes out.
use Rattle.std.proofs.Common.{subst, sym}
use Rattle.mux_tables.specs.mux_waits.specs.Stands.{AnswersId}
use Rattle.mux_starts.proofs.Answering.{handed_none, handed_some}
use Rattle.mux_starts.proofs.answers.hand_out.Goals as goal

pub returns-in-None-clause-does : goal.returns-in-None-clause-does
returns-in-None-clause-does c = λ settings base h. handed_none settings c.args.tables.now base c.args.outs.now c.args.reply c.in-None.is

pub returns-in_ok-answer-in-Some-clause-does : goal.returns-in_ok-answer-in-Some-clause-does
returns-in_ok-answer-in-Some-clause-does c = λ settings base h.
    handed_some settings c.args.tables.now c.answer.new.self base c.args.outs.now c.answer.new.outs c.args.reply c.in-Some.reply c.in-Some.is h
    (λ keeps answers. c.in_ok-answer-in-Some.ensures.does settings base keeps (subst (λ w. AnswersId w c.in-Some.reply.body) (sym c.bytes.ensures) answers))
