use Rattle.std.proofs.Common.{◌≡◌, ℕ, ◌∙◌, sym, refl}
use Rattle.std.specs.Prelude.{Option, Some, None, option_copied}
use Rattle.std.specs.BTreeSet.{BTreeSet}
use denote.Ref.{Bor}
use Rattle.number_index.specs.Numbers.{listed}
use Rattle.number_index.proofs.Keys.{found, keys_in}
use Rattle.number_index.proofs.index.Index.get.Goals as goal

copied : (o : Option (Bor (BTreeSet ℕ))) → listed o ≡ keys_in (option_copied o)
copied None = refl
copied (Some s) = refl

pub returns : goal.returns
returns c = copied c.get.result ∙ sym (found c.args.key.now c.args.self.now c.self.inside.table.entries c.self.view_is (option_copied c.get.result) c.get.ensures.value)
