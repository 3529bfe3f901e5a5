use Rattle.std.proofs.Common.{◌≡◌}
use Rattle.session_io.specs.Writes.{WroteSoFar}
use Rattle.session_io.proofs.write.write_session.Given as goal

abbrev pub invariant-loop : goal.invariant-loop
invariant-loop g l = record {
  orders : l.out.orders.queue ≡ l.initial.out.orders.queue;
  sides : l.out.sides.queue ≡ l.initial.out.sides.queue;
  wrote : WroteSoFar (g.K.Sink.written l.initial.sink) (g.K.Sink.written l.sink) (g.K.Sink.faults l.initial.sink) (g.K.Sink.faults l.sink) l.initial.out.orders.taken l.out.orders.taken l.initial.out.sides.pushed l.out.sides.pushed l.broke;
}
