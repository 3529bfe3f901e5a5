use Rattle.std.proofs.Common.{◌∙◌}
use Rattle.session_io.specs.declared.read.Frames.TheVariants as frames
use Rattle.session_io.proofs.Reading.{so_far_more, cut_here, cut_lost, all_here}
use Rattle.session_io.proofs.read.post_frames.Goals as goal

pub returns-then-not-post_body-clause-posted : goal.returns-then-not-post_body-clause-posted
returns-then-not-post_body-clause-posted g c =
    rw c.if-not-post_body.ensures.posts (cut_lost c.args.reader.now c.loop.reader c.next-in-loop.new.self c.args.inn.now.pushed c.loop.inn.pushed c.in-Frame.body c.loop.invariant.posted c.next-in-loop.ensures.limit c.in-Frame.ensures.gives)

pub returns-in-NotYet-clause-posted : goal.returns-in-NotYet-clause-posted
returns-in-NotYet-clause-posted g c =
    all_here c.args.reader.now c.loop.reader c.next-in-loop.new.self c.args.inn.now.pushed c.loop.inn.pushed frames.Short c.loop.invariant.posted c.next-in-loop.ensures.limit
    (λ fed given s. (c.in-NotYet.ensures.gives fed given s).0)
    (λ fed given s. let r = (c.in-NotYet.ensures.gives fed given s).1 in rw c.next-in-loop.ensures.limit at r)

pub returns-in-BadFrame-clause-posted : goal.returns-in-BadFrame-clause-posted
returns-in-BadFrame-clause-posted g c =
    all_here c.args.reader.now c.loop.reader c.next-in-loop.new.self c.args.inn.now.pushed c.loop.inn.pushed frames.Bad c.loop.invariant.posted c.next-in-loop.ensures.limit
    (λ fed given s. (c.in-BadFrame.ensures.gives fed given s).0)
    (λ fed given s. let r = (c.in-BadFrame.ensures.gives fed given s).1 in let q = rw c.next-in-loop.ensures.limit at r in (q.0, q.1, (_, _, q.2)))

pub returns-then-not-pump-clause-posted : goal.returns-then-not-pump-clause-posted
returns-then-not-pump-clause-posted g c =
    cut_here c.args.reader.now c.next-in-loop.new.self c.args.inn.now.pushed c.post_body.new.inn.pushed
    (so_far_more c.args.reader.now c.loop.reader c.next-in-loop.new.self c.args.inn.now.pushed c.loop.inn.pushed c.post_body.new.inn.pushed c.in-Frame.body c.loop.invariant.posted c.next-in-loop.ensures.limit c.in-Frame.ensures.gives c.if-not-post_body.ensures.posts)

pub loop-preserved : goal.loop-preserved
loop-preserved g c = record {
  queue = c.post_body.ensures.queue ∙ c.loop.invariant.queue;
  posted = so_far_more c.args.reader.now c.loop.reader c.next-in-loop.new.self c.args.inn.now.pushed c.loop.inn.pushed c.post_body.new.inn.pushed c.in-Frame.body c.loop.invariant.posted c.next-in-loop.ensures.limit c.in-Frame.ensures.gives c.if-not-post_body.ensures.posts;
}
