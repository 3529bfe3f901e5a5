use Rattle.std.proofs.Common.{sym}
use Rattle.editor_session.proofs.Places.{length_is}
use Rattle.editor_session.proofs.editors.Editors.count.Goals as goal

pub returns : goal.returns
returns c =
    sym (length_is c.self.inside.count c.self.inside.linked.items c.args.self.now c.self.view_is c.self.invariant.0)
