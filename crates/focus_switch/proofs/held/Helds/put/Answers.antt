use Rattle.focus_switch.proofs.Helds.{put_is}
use Rattle.focus_switch.proofs.held.Helds.put.Goals as goal

pub returns : goal.returns
returns c = put_is c.args.uri.now c.in_ok-key.key c.args.held c.self.inside.table.entries c.insert.new.self.entries c.args.self.now c.self.view_is c.in_ok-key.ensures.items c.in_ok-insert.ensures.entries
