use Rattle.focus_switch.proofs.Helds.{remove_is}
use Rattle.focus_switch.proofs.held.Helds.remove.Goals as goal

pub returns : goal.returns
returns c = remove_is c.args.uri.now c.self.inside.table.entries c.remove-gone.new.self.entries c.args.self.now c.self.view_is c.remove-gone.ensures.entries c.remove-gone.ensures.updates.1
