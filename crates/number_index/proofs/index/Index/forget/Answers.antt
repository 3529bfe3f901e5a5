use Rattle.std.proofs.Common.{refl}
use Rattle.std.specs.Prelude.{None, []}
use Rattle.number_index.proofs.Keys.{changed_not, remove_other}
use Rattle.number_index.proofs.index.Index.forget.Goals as goal

pub returns : goal.returns
returns c =
    let e = c.remove-gone.ensures in
    changed_not c.args.key.now c.args.self.now c.self.inside.table.entries c.self.view_is c.remove-gone.new.self.entries None [] c.requires e.updates.1 (λ k other. rw e.entries (remove_other k c.args.key.now other c.self.inside.table.entries)) refl
