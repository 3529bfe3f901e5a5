use Rattle.outside_io.specs.Sessions.{session_of}
use Rattle.mux_client.specs.Copies.{CopiesSoFar}
use Rattle.mux_client.proofs.copies.copy.Given as goal

abbrev pub invariant-loop : goal.invariant-loop
invariant-loop g l = record {
  copies : CopiesSoFar (session_of g.S.Source.taken g.S.Source.left g.S.Source.faults g.K.Sink.written g.K.Sink.faults l.initial.source l.initial.sink)
      (session_of g.S.Source.taken g.S.Source.left g.S.Source.faults g.K.Sink.written g.K.Sink.faults l.source l.sink);
}
