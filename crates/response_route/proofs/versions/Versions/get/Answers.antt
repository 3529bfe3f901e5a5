use Rattle.response_route.proofs.Stamps.{get_is}
use Rattle.std.specs.Prelude.{option_copied}
use Rattle.response_route.proofs.versions.Versions.get.Goals as goal

pub returns : goal.returns
returns c = get_is c.args.uri.now c.self.inside.table.entries c.args.self.now (option_copied c.get.result) c.self.view_is c.get.ensures.value
