use Rattle.std.proofs.Common.{◌∙◌, refl, take, arith}
use Rattle.session_io.proofs.Reading.{read_start, read_more, read_bad, read_cut, read_told, read_unfed}
use Rattle.session_io.proofs.read.read_frames.Goals as goal

pub loop-init : goal.loop-init
loop-init g c = record { room = c.requires; queue = refl; read = read_start c.args.limit c.new-reader.result (g.S.Source.taken c.args.source.now) c.args.inn.now.pushed c.new-reader.ensures.limit c.new-reader.ensures.stands; later = omega arith }

pub returns-then-not-feed_piece-clause-read : goal.returns-then-not-feed_piece-clause-read
returns-then-not-feed_piece-clause-read g c =
    read_unfed c.args.limit c.loop.reader (g.S.Source.taken c.args.source.now) (g.S.Source.taken c.loop.source) (g.S.Source.taken c.read.new.self) (g.S.Source.left c.read.new.self) (g.S.Source.faults c.args.source.now) (g.S.Source.faults c.read.new.self)
    c.args.inn.now.pushed c.loop.inn.pushed (take c.in-Ok.count c.read.new.buf) c.frames_law.ensures.frames c.loop.invariant.read c.in-Ok.ensures.taken

pub returns-in-Some-ended-clause-read : goal.returns-in-Some-ended-clause-read
returns-in-Some-ended-clause-read g c =
    read_told c.args.limit c.loop.reader (g.S.Source.taken c.args.source.now) (g.S.Source.taken c.loop.source) (g.S.Source.taken c.read.new.self) (g.S.Source.left c.read.new.self) (g.S.Source.faults c.args.source.now) (g.S.Source.faults c.read.new.self)
    c.args.inn.now.pushed c.loop.inn.pushed (take c.in-Ok.count c.read.new.buf) c.frames_law.ensures.frames c.in-Some-ended.end c.loop.invariant.read c.in-Ok.ensures.taken

pub loop-preserved : goal.loop-preserved
loop-preserved g c = record {
  room = let long = c.read.auto.buf in let room = c.loop.invariant.room in omega arith;
  queue = c.post_frames.ensures.queue ∙ c.loop.invariant.queue;
  read = read_more c.args.limit c.loop.reader c.feed_piece.new.reader c.post_frames.new.reader (g.S.Source.taken c.args.source.now) (g.S.Source.taken c.loop.source) (g.S.Source.taken c.read.new.self) c.args.inn.now.pushed c.loop.inn.pushed c.post_frames.new.inn.pushed (take c.in-Ok.count c.read.new.buf)
      c.loop.invariant.read (c.if-not-feed_piece.ensures.fed refl) c.feed_piece.ensures.limit c.in-Ok.ensures.taken c.in-Short.ensures.posted;
  later = (let a = c.loop.invariant.later in let b = c.read.ensures.cause.later in omega arith);
}

pub returns-in-Bad-clause-read : goal.returns-in-Bad-clause-read
returns-in-Bad-clause-read g c =
    read_bad c.args.limit c.loop.reader c.feed_piece.new.reader c.post_frames.new.reader (g.S.Source.taken c.args.source.now) (g.S.Source.taken c.loop.source) (g.S.Source.taken c.read.new.self) c.args.inn.now.pushed c.loop.inn.pushed c.post_frames.new.inn.pushed (take c.in-Ok.count c.read.new.buf)
    (g.S.Source.left c.read.new.self) (g.S.Source.faults c.args.source.now) (g.S.Source.faults c.read.new.self)
    c.loop.invariant.read (c.if-not-feed_piece.ensures.fed refl) c.feed_piece.ensures.limit c.in-Ok.ensures.taken c.in-Bad.ensures.posted

pub returns-in-Cut-clause-read : goal.returns-in-Cut-clause-read
returns-in-Cut-clause-read g c =
    read_cut c.args.limit c.loop.reader c.feed_piece.new.reader c.post_frames.new.reader (g.S.Source.taken c.args.source.now) (g.S.Source.taken c.loop.source) (g.S.Source.taken c.read.new.self) c.args.inn.now.pushed c.loop.inn.pushed c.post_frames.new.inn.pushed (take c.in-Ok.count c.read.new.buf)
    (g.S.Source.left c.read.new.self) (g.S.Source.faults c.args.source.now) (g.S.Source.faults c.read.new.self)
    c.loop.invariant.read (c.if-not-feed_piece.ensures.fed refl) c.feed_piece.ensures.limit c.in-Ok.ensures.taken c.in-Cut.ensures.posted
