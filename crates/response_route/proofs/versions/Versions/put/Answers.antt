use Rattle.std.proofs.Common.{refl}
use Rattle.response_route.proofs.Stamps.{put_is}
use Rattle.response_route.proofs.versions.Versions.put.Goals as goal

pub returns : goal.returns
returns c = put_is c.args.uri.now c.in_ok-key.key c.args.stamp c.self.inside.table.entries c.insert.new.self.entries c.args.self.now _ c.self.view_is refl c.in_ok-key.ensures.items c.in_ok-insert.ensures.entries
