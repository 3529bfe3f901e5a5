use Rattle.std.proofs.Common.{sym, ap, ◌∙◌, map}
use Rattle.group_table.specs.Live.{number_of}
use Rattle.group_table.specs.Tables.{Table}
use Rattle.group_table.proofs.Walks.{live_all}
use Rattle.group_table.proofs.groups.Groups.live_groups.Goals as goal

pub returns : goal.returns
returns c = c.in_ok-live.ensures ∙ (ap (map number_of) c.as_slice.ensures.value ∙ sym (live_all c.self.inside.count c.self.inside.live.items c.args.self.now.groups (ap (λ (t : Table). t.groups) c.self.view_is) c.self.invariant.0 c.self.invariant.1))
