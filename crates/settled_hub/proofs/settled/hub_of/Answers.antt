-- Settings are in the ranges that a hub wants.
use Rattle.std.proofs.Common.{arith}
use Rattle.settled_hub.proofs.Ceilings.{have_ceilings}
use Rattle.settled_hub.proofs.settled.hub_of.Goals as goal

pub new-requires-clause-requests : goal.new-requires-clause-requests
new-requires-clause-requests g c = let few = c.args.config.in_range.limits.requests.0 in omega (arith, few)

pub new-requires-clause-versions : goal.new-requires-clause-versions
new-requires-clause-versions g c = let few = c.args.config.in_range.limits.versions.0 in omega (arith, few)

pub new-requires-clause-ceilings : goal.new-requires-clause-ceilings
new-requires-clause-ceilings g c = have_ceilings c.args.config.servers.items c.args.config.in_range.servers.ceilings
