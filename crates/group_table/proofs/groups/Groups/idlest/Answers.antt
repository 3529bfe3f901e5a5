use Rattle.std.proofs.Common.{sym, ap, ◌∙◌, None}
use Rattle.group_table.specs.Tables.{Table}
use Rattle.group_table.specs.Live.{idlest_in}
use Rattle.group_table.proofs.Walks.{idlest_all}
use Rattle.group_table.proofs.groups.Groups.idlest.Goals as goal

pub returns : goal.returns
returns c = c.idlest_of.ensures ∙ (ap (idlest_in None) c.as_slice.ensures.value ∙ sym (idlest_all c.self.inside.count c.self.inside.live.items c.args.self.now.groups (ap (λ (t : Table). t.groups) c.self.view_is) c.self.invariant.0))
