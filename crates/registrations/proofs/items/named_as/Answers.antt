use Rattle.std.proofs.Common.{refl}
use Rattle.std.specs.Prelude.{Some}
use Rattle.registrations.proofs.Lists.{made_as}
use Rattle.registrations.proofs.items.named_as.Goals as goal

pub returns : goal.returns
returns c = λ j f. made_as c.args.name _ _ _ _ _ _ (c.in_ok-copy_of.ensures _ (c.member.ensures refl (Some j) f)) (c.in_ok-copy_of-2.ensures _ (c.member-2.ensures refl (Some j) f)) (c.in_ok-copy_of-3.ensures (Some j) f)
