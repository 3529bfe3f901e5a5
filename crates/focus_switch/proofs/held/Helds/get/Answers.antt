use Rattle.std.proofs.Common.{Some, None}
use Rattle.focus_switch.proofs.Helds.{get_is}
use Rattle.focus_switch.proofs.held.Helds.get.Goals as goal

pub returns-in-Some : goal.returns-in-Some
returns-in-Some c = get_is c.args.uri.now c.self.inside.table.entries c.args.self.now (Some c.in-Some.held.now) c.self.view_is c.in-Some.ensures.value

pub returns-in-None : goal.returns-in-None
returns-in-None c = get_is c.args.uri.now c.self.inside.table.entries c.args.self.now None c.self.view_is c.in-None.ensures.value
