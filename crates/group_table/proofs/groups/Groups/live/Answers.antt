use Rattle.std.proofs.Common.{◌≡◌, length, sym, ap, ◌∙◌, rules}
use Rattle.group_table.specs.Tables.{Table}
use Rattle.group_table.proofs.Walks.{count_all}
use Rattle.group_table.proofs.groups.Groups.live.Goals as goal

pub returns : goal.returns
returns c =
    let long : c.len.result ≡ length c.self.inside.live.items = search rules in
    long ∙ sym (count_all c.self.inside.count c.self.inside.live.items c.args.self.now.groups (ap (λ (t : Table). t.groups) c.self.view_is) c.self.invariant.0 c.self.invariant.1)
