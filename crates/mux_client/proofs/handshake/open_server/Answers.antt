use Rattle.std.proofs.Common.{◌∙◌}
use Rattle.std.proofs.lemmas.Result.{err_from_is_err_and}
use Rattle.outside_io.specs.Sessions.{session_of}
use Rattle.mux_client.proofs.Opening.{opened_none, opened_other_by, opened_unsent}
use Rattle.mux_client.proofs.handshake.open_server.Goals as goal

pub returns-in_default : goal.returns-in_default
returns-in_default g c = opened_unsent c.args.limit c.args.name.now (session_of g.S.Source.taken g.S.Source.left g.S.Source.faults g.K.Sink.written g.K.Sink.faults c.args.source.now c.args.sink.now)

pub returns-in_err-answer : goal.returns-in_err-answer
returns-in_err-answer g c =
    let p = err_from_is_err_and c.from_residual.result c.from_residual.ensures.1 in
    rw (p.1, p.2) (opened_none c.args.limit c.args.name.now c.bytes.result.now (session_of g.S.Source.taken g.S.Source.left g.S.Source.faults g.K.Sink.written g.K.Sink.faults c.args.source.now c.args.sink.now)
    (session_of g.S.Source.taken g.S.Source.left g.S.Source.faults g.K.Sink.written g.K.Sink.faults c.exchange.new.source c.exchange.new.sink) c.in_err-answer.field-0.0 (c.bytes.ensures ∙ c.in-Ok.ensures) c.in_err-answer.ensures.exchanged)

pub returns : goal.returns
returns g c =
    opened_other_by c.args.limit c.args.name.now c.bytes.result.now (session_of g.S.Source.taken g.S.Source.left g.S.Source.faults g.K.Sink.written g.K.Sink.faults c.args.source.now c.args.sink.now)
    (session_of g.S.Source.taken g.S.Source.left g.S.Source.faults g.K.Sink.written g.K.Sink.faults c.exchange.new.source c.exchange.new.sink) c.in_ok-answer.answer c.bytes-2.result.now c.in-Ok-open_reply.reply
    (c.bytes.ensures ∙ c.in-Ok.ensures) c.in_ok-answer.ensures.exchanged c.bytes-2.ensures c.in-Other.is c.in-Ok-open_reply.ensures
