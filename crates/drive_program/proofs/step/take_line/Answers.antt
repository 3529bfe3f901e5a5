use Rattle.std.proofs.Common.{sym, ◌∙◌}
use Rattle.drive_program.proofs.Steps.{on_err, taken_of, cut_of, unwritten_of}
use Rattle.drive_program.proofs.step.take_line.Goals as goal

pub returns-in_err-text-clause-left : goal.returns-in_err-text-clause-left
returns-in_err-text-clause-left g c = λ history stood. on_err c.from_residual-in_err-text.result
    (unwritten_of g.J.Journal.told c.args.content history c.args.line.items c.args.hub.now c.step.new.self (g.O.Sink.written c.args.output.now) c.in-Ok.cause
    (sym (c.in_ok-cause.ensures.reads history stood) ∙ c.in-Ok.is) (c.in_ok-outs.ensures.stands history stood))

pub returns-in_err-write_whole-clause-left : goal.returns-in_err-write_whole-clause-left
returns-in_err-write_whole-clause-left g c = λ history stood. on_err c.from_residual-in_err-write_whole.result
    (cut_of g.J.Journal.told c.args.content history c.args.line.items c.args.hub.now c.step.new.self (g.O.Sink.written c.args.output.now) (g.O.Sink.written c.write_whole.new.sink) c.in-Ok.cause c.in_ok-outs.outs c.bytes.result.now c.in_err-write_whole.field-0.0.written
    (sym (c.in_ok-cause.ensures.reads history stood) ∙ c.in-Ok.is) (c.in_ok-outs.ensures.stands history stood) (c.in_ok-outs.ensures.outs history stood) (c.bytes.ensures ∙ c.in_ok-text.ensures) c.in_err-write_whole.ensures.cut.1)

pub returns-clause-taken : goal.returns-clause-taken
returns-clause-taken g c = λ history stood.
    taken_of g.J.Journal.told c.args.content history c.args.line.items c.args.hub.now c.step.new.self (g.O.Sink.written c.args.output.now) (g.O.Sink.written c.write_whole.new.sink) c.in-Ok.cause c.in_ok-outs.outs c.bytes.result.now
    (sym (c.in_ok-cause.ensures.reads history stood) ∙ c.in-Ok.is) (c.in_ok-outs.ensures.stands history stood) (c.in_ok-outs.ensures.outs history stood) (c.bytes.ensures ∙ c.in_ok-text.ensures) c.in_ok-write_whole.ensures.ok
