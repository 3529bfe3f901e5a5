use Rattle.std.proofs.Common.{[], arith, refl}
use Rattle.base_frame.proofs.ReadBack.{contents_fit}
use Rattle.mux_client.proofs.Frames.{first_bad, first_ended, first_failed, first_more, first_over, first_start, first_taken, first_unfed}
use Rattle.mux_client.proofs.exchange.take_frame.Goals as goal

pub loop-init : goal.loop-init
loop-init g c = record {
  first = first_start c.args.limit c.new-reader.result (g.S.Source.taken c.args.source.now) (g.S.Source.left c.args.source.now) c.new-reader.ensures.limit c.new-reader.ensures.stands;
  later = omega arith;
}

pub returns-in-End-clause-first : goal.returns-in-End-clause-first
returns-in-End-clause-first g c =
    first_ended c.args.limit c.loop.reader (g.S.Source.taken c.args.source.now) (g.S.Source.taken c.loop.source) (g.S.Source.left c.args.source.now) (g.S.Source.left c.loop.source) (g.S.Source.faults c.args.source.now) (g.S.Source.faults c.loop.source)
    c.loop.invariant.first c.loop.invariant.later (g.S.Source.taken c.read_byte.new.source) (g.S.Source.left c.read_byte.new.source) (g.S.Source.faults c.read_byte.new.source) c.read_byte.ensures.later c.in-End.ensures.came

pub returns-in-Failed-clause-first : goal.returns-in-Failed-clause-first
returns-in-Failed-clause-first g c =
    first_failed c.args.limit c.loop.reader (g.S.Source.taken c.args.source.now) (g.S.Source.taken c.loop.source) (g.S.Source.left c.args.source.now) (g.S.Source.left c.loop.source) (g.S.Source.faults c.args.source.now) (g.S.Source.faults c.loop.source)
    c.loop.invariant.first c.loop.invariant.later (g.S.Source.taken c.read_byte.new.source) (g.S.Source.left c.read_byte.new.source) (g.S.Source.faults c.read_byte.new.source) c.read_byte.ensures.later c.in-Failed.ensures.came

pub returns-then-not-feed_byte-clause-first : goal.returns-then-not-feed_byte-clause-first
returns-then-not-feed_byte-clause-first g c =
    first_unfed c.args.limit c.loop.reader (g.S.Source.taken c.args.source.now) (g.S.Source.taken c.loop.source) (g.S.Source.left c.args.source.now) (g.S.Source.left c.loop.source) (g.S.Source.faults c.args.source.now) (g.S.Source.faults c.loop.source)
    c.loop.invariant.first c.loop.invariant.later (g.S.Source.taken c.read_byte.new.source) (g.S.Source.left c.read_byte.new.source) (g.S.Source.faults c.read_byte.new.source) c.read_byte.ensures.later
    c.in-Byte.byte c.in-Byte.ensures.came

pub returns-in-Frame-clause-first : goal.returns-in-Frame-clause-first
returns-in-Frame-clause-first g c =
    first_taken c.args.limit c.loop.reader (g.S.Source.taken c.args.source.now) (g.S.Source.taken c.loop.source) (g.S.Source.left c.args.source.now) (g.S.Source.left c.loop.source) (g.S.Source.faults c.args.source.now) (g.S.Source.faults c.loop.source)
    c.loop.invariant.first c.loop.invariant.later (g.S.Source.taken c.read_byte.new.source) (g.S.Source.left c.read_byte.new.source) (g.S.Source.faults c.read_byte.new.source) c.read_byte.ensures.later
    c.in-Byte.byte c.in-Byte.ensures.came c.feed_byte.new.reader c.next.new.self (c.if-not-feed_byte.ensures.fed refl) c.feed_byte.ensures.limit c.next.ensures.limit c.in-Frame.body c.in-Frame.ensures.gives

pub returns-in-Frame-clause-fits : goal.returns-in-Frame-clause-fits
returns-in-Frame-clause-fits g c =
    let x = first_taken c.args.limit c.loop.reader (g.S.Source.taken c.args.source.now) (g.S.Source.taken c.loop.source) (g.S.Source.left c.args.source.now) (g.S.Source.left c.loop.source) (g.S.Source.faults c.args.source.now) (g.S.Source.faults c.loop.source)
    c.loop.invariant.first c.loop.invariant.later (g.S.Source.taken c.read_byte.new.source) (g.S.Source.left c.read_byte.new.source) (g.S.Source.faults c.read_byte.new.source) c.read_byte.ensures.later
    c.in-Byte.byte c.in-Byte.ensures.came c.feed_byte.new.reader c.next.new.self (c.if-not-feed_byte.ensures.fed refl) c.feed_byte.ensures.limit c.next.ensures.limit c.in-Frame.body c.in-Frame.ensures.gives in
    contents_fit c.args.limit x.heard c.in-Frame.body [] x.first

pub returns-in-BadFrame-clause-first : goal.returns-in-BadFrame-clause-first
returns-in-BadFrame-clause-first g c =
    first_bad c.args.limit c.loop.reader (g.S.Source.taken c.args.source.now) (g.S.Source.taken c.loop.source) (g.S.Source.left c.args.source.now) (g.S.Source.left c.loop.source) (g.S.Source.faults c.args.source.now) (g.S.Source.faults c.loop.source)
    c.loop.invariant.first c.loop.invariant.later (g.S.Source.taken c.read_byte.new.source) (g.S.Source.left c.read_byte.new.source) (g.S.Source.faults c.read_byte.new.source) c.read_byte.ensures.later
    c.in-Byte.byte c.in-Byte.ensures.came c.feed_byte.new.reader c.next.new.self (c.if-not-feed_byte.ensures.fed refl) c.feed_byte.ensures.limit c.next.ensures.limit _ _ c.in-BadFrame.ensures.gives

pub loop-preserved : goal.loop-preserved
loop-preserved g c = record {
  first = first_more c.args.limit c.loop.reader (g.S.Source.taken c.args.source.now) (g.S.Source.taken c.loop.source) (g.S.Source.left c.args.source.now) (g.S.Source.left c.loop.source) (g.S.Source.faults c.args.source.now) (g.S.Source.faults c.loop.source)
      c.loop.invariant.first c.loop.invariant.later (g.S.Source.taken c.read_byte.new.source) (g.S.Source.left c.read_byte.new.source) (g.S.Source.faults c.read_byte.new.source) c.read_byte.ensures.later
      c.in-Byte.byte c.in-Byte.ensures.came c.feed_byte.new.reader c.next.new.self (c.if-not-feed_byte.ensures.fed refl) c.feed_byte.ensures.limit c.next.ensures.limit c.in-NotYet.ensures.gives;
  later = (let a = c.loop.invariant.later in let b = c.read_byte.ensures.later in omega arith);
}

pub returns-clause-first : goal.returns-clause-first
returns-clause-first g c =
    first_over c.args.limit c.loop.reader (g.S.Source.taken c.args.source.now) (g.S.Source.taken c.loop.source) (g.S.Source.left c.args.source.now) (g.S.Source.left c.loop.source) (g.S.Source.faults c.args.source.now) (g.S.Source.faults c.loop.source)
    c.loop.invariant.first c.loop.invariant.later
