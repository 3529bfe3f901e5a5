use Rattle.mux_lanes.proofs.Starting.{refused_none}
use Rattle.mux_lanes.proofs.server.refuse_start.Goals as goal

pub returns-then-not-post-clause-refused : goal.returns-then-not-post-clause-refused
returns-then-not-post-clause-refused g c = refused_none c.args.ends.now.inn.pushed c.post.new.inn.pushed c.args.ends.now.out.orders.taken c.if-not-post.ensures.posts
