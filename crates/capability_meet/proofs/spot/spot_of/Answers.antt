use Rattle.std.proofs.Common.{◌≡◌, ℕ, List, subst}
use Rattle.std.specs.Prelude.{bytes_eq, if◌then◌else◌}
use Rattle.capability_meet.specs.declared.spot.Spot.TheVariants as spot
use Rattle.capability_meet.proofs.Spots.{show_letters, spot_is, stale_letters}
use Rattle.capability_meet.proofs.spot.spot_of.Goals as goal

pub returns-in-Window : goal.returns-in-Window
returns-in-Window c = λ cs h. spot_is c.args.spot spot.Window c.named_spot.result cs c.in-Window.is (subst (λ (z : List ℕ). c.named_spot.result ≡ (if bytes_eq z cs then spot.ShowDocument else spot.Elsewhere)) show_letters (c.named_spot.ensures cs h))

pub returns-in-General : goal.returns-in-General
returns-in-General c = λ cs h. spot_is c.args.spot spot.General c.named_spot-in-General.result cs c.in-General.is (subst (λ (z : List ℕ). c.named_spot-in-General.result ≡ (if bytes_eq z cs then spot.StaleRequestSupport else spot.Elsewhere)) stale_letters (c.named_spot-in-General.ensures cs h))
