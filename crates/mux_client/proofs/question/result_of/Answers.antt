use Rattle.std.proofs.Common.{◌∙◌}
use Rattle.outside_io.specs.Sessions.{session_of}
use Rattle.mux_client.proofs.Asking.{resulted_refused_by}
use Rattle.mux_client.proofs.question.result_of.Goals as goal

pub returns-in-Refusal : goal.returns-in-Refusal
returns-in-Refusal g c =
    resulted_refused_by c.args.limit c.args.question c.bytes.result.now (session_of g.S.Source.taken g.S.Source.left g.S.Source.faults g.K.Sink.written g.K.Sink.faults c.args.link.now.source c.args.link.now.sink)
    (session_of g.S.Source.taken g.S.Source.left g.S.Source.faults g.K.Sink.written g.K.Sink.faults c.exchange.new.source c.exchange.new.sink) c.in_ok-answer.answer c.bytes-2.result.now c.in-Ok-question_reply.reply
    (c.bytes.ensures ∙ c.in-Ok.ensures) c.in_ok-answer.ensures.exchanged c.bytes-2.ensures c.in-Refusal.is c.in-Ok-question_reply.ensures
