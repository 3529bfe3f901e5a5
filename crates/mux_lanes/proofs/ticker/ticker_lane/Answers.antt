use Rattle.std.proofs.Common.{refl, ◌∙◌}
use Rattle.mux_lanes.proofs.Ticking.{no_tick, tick_more, tick_refused, ticks_over}
use Rattle.mux_lanes.proofs.ticker.ticker_lane.Goals as goal

pub loop-init : goal.loop-init
loop-init g c = record { queue = refl; ticked = no_tick (g.C.Clock.given c.args.clock.now) (g.C.Clock.left c.args.clock.now) c.args.inn.now.pushed }

pub returns-then-not-post-clause-ticked : goal.returns-then-not-post-clause-ticked
returns-then-not-post-clause-ticked g c =
    tick_refused (g.C.Clock.given c.args.clock.now) (g.C.Clock.given c.loop.clock) (g.C.Clock.given c.next-in-loop.new.self) (g.C.Clock.left c.args.clock.now) (g.C.Clock.left c.loop.clock) (g.C.Clock.left c.next-in-loop.new.self)
    c.args.inn.now.pushed c.loop.inn.pushed c.post.new.inn.pushed c.in-Some-next.moment c.loop.invariant.ticked c.in-Some-next.ensures.given c.in-Some-next.ensures.left c.if-not-post.ensures.posts

pub returns-in-Some-look-clause-ticked : goal.returns-in-Some-look-clause-ticked
returns-in-Some-look-clause-ticked g c =
    ticks_over (g.C.Clock.given c.args.clock.now) (g.C.Clock.given c.next-in-loop.new.self) (g.C.Clock.left c.args.clock.now) (g.C.Clock.left c.next-in-loop.new.self) c.args.inn.now.pushed c.post.new.inn.pushed c.in-Some-look.end c.in-Some-look.ensures.ends
    (tick_more (g.C.Clock.given c.args.clock.now) (g.C.Clock.given c.loop.clock) (g.C.Clock.given c.next-in-loop.new.self) (g.C.Clock.left c.args.clock.now) (g.C.Clock.left c.loop.clock) (g.C.Clock.left c.next-in-loop.new.self)
    c.args.inn.now.pushed c.loop.inn.pushed c.post.new.inn.pushed c.in-Some-next.moment c.loop.invariant.ticked c.in-Some-next.ensures.given c.in-Some-next.ensures.left c.if-not-post.ensures.posts)

pub loop-preserved : goal.loop-preserved
loop-preserved g c = record {
  queue = c.post.ensures.queue ∙ c.loop.invariant.queue;
  ticked = tick_more (g.C.Clock.given c.args.clock.now) (g.C.Clock.given c.loop.clock) (g.C.Clock.given c.next-in-loop.new.self) (g.C.Clock.left c.args.clock.now) (g.C.Clock.left c.loop.clock) (g.C.Clock.left c.next-in-loop.new.self)
      c.args.inn.now.pushed c.loop.inn.pushed c.post.new.inn.pushed c.in-Some-next.moment c.loop.invariant.ticked c.in-Some-next.ensures.given c.in-Some-next.ensures.left c.if-not-post.ensures.posts;
}
