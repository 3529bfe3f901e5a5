use Rattle.std.proofs.Common.{sym}
use Rattle.group_table.proofs.Places.{length_is}
use Rattle.group_table.proofs.groups.Groups.count.Goals as goal

pub returns : goal.returns
returns c = sym (length_is c.self.inside.limit c.self.inside.idle c.self.inside.count c.self.inside.live.items c.args.self.now c.self.view_is c.self.invariant.0)
