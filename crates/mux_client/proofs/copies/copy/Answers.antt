use Rattle.std.proofs.Common.{take}
use Rattle.outside_io.specs.Sessions.{session_of}
use Rattle.mux_client.proofs.Copying.{copies_none, copy_ended, copy_more, copy_unread, copy_unwritten}
use Rattle.mux_client.proofs.copies.copy.Goals as goal

pub loop-init : goal.loop-init
loop-init g c = record { copies = copies_none (session_of g.S.Source.taken g.S.Source.left g.S.Source.faults g.K.Sink.written g.K.Sink.faults c.args.source.now c.args.sink.now) }

pub returns-in-End : goal.returns-in-End
returns-in-End g c =
    copy_ended (session_of g.S.Source.taken g.S.Source.left g.S.Source.faults g.K.Sink.written g.K.Sink.faults c.args.source.now c.args.sink.now)
    (g.S.Source.taken c.loop.source) (g.S.Source.taken c.read.new.source) (g.S.Source.left c.loop.source) (g.S.Source.left c.read.new.source) (g.K.Sink.written c.loop.sink) (g.K.Sink.written c.loop.sink)
    (g.S.Source.faults c.loop.source) (g.S.Source.faults c.read.new.source) (g.K.Sink.faults c.loop.sink) (g.K.Sink.faults c.loop.sink)
    c.loop.invariant.copies c.in-End.ensures.came c.read.ensures.later

pub returns-in-Failed : goal.returns-in-Failed
returns-in-Failed g c =
    copy_unread (session_of g.S.Source.taken g.S.Source.left g.S.Source.faults g.K.Sink.written g.K.Sink.faults c.args.source.now c.args.sink.now)
    (g.S.Source.taken c.loop.source) (g.S.Source.taken c.read.new.source) (g.S.Source.left c.loop.source) (g.S.Source.left c.read.new.source) (g.K.Sink.written c.loop.sink) (g.K.Sink.written c.loop.sink)
    (g.S.Source.faults c.loop.source) (g.S.Source.faults c.read.new.source) (g.K.Sink.faults c.loop.sink) (g.K.Sink.faults c.loop.sink)
    c.loop.invariant.copies c.in-Failed.ensures.came c.read.ensures.later

pub returns-then-not-write_piece : goal.returns-then-not-write_piece
returns-then-not-write_piece g c =
    copy_unwritten (session_of g.S.Source.taken g.S.Source.left g.S.Source.faults g.K.Sink.written g.K.Sink.faults c.args.source.now c.args.sink.now)
    (g.S.Source.taken c.loop.source) (g.S.Source.taken c.read.new.source) (g.S.Source.left c.loop.source) (g.S.Source.left c.read.new.source) (g.K.Sink.written c.loop.sink) (g.K.Sink.written c.write_piece.new.sink)
    (g.S.Source.faults c.loop.source) (g.S.Source.faults c.read.new.source) (g.K.Sink.faults c.loop.sink) (g.K.Sink.faults c.write_piece.new.sink)
    (take c.in-Bytes.count c.read.new.self.bytes.items) c.loop.invariant.copies c.in-Bytes.ensures.came.2 c.read.ensures.later (rw c.as_slice.ensures.value at c.if-not-write_piece.ensures.wrote)

pub loop-preserved : goal.loop-preserved
loop-preserved g c = record {
  copies = copy_more (session_of g.S.Source.taken g.S.Source.left g.S.Source.faults g.K.Sink.written g.K.Sink.faults c.args.source.now c.args.sink.now)
      (g.S.Source.taken c.loop.source) (g.S.Source.taken c.read.new.source) (g.S.Source.left c.loop.source) (g.S.Source.left c.read.new.source) (g.K.Sink.written c.loop.sink) (g.K.Sink.written c.write_piece.new.sink)
      (g.S.Source.faults c.loop.source) (g.S.Source.faults c.read.new.source) (g.K.Sink.faults c.loop.sink) (g.K.Sink.faults c.write_piece.new.sink)
      (take c.in-Bytes.count c.read.new.self.bytes.items) c.loop.invariant.copies c.in-Bytes.ensures.came.2 c.read.ensures.later (rw c.as_slice.ensures.value at c.if-not-write_piece.ensures.wrote);
}
