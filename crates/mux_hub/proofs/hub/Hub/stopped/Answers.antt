use Rattle.std.proofs.Common.{◌≡◌, subst, false}
use Rattle.mux_hub.specs.Entries.{was_stopped}
use Rattle.mux_hub.specs.Hubs.{HubView, HubStands}
use Rattle.mux_hub.proofs.hub.Hub.stopped.Goals as goal

pub returns : goal.returns
returns g c = λ history h s.
    subst (λ (v : HubView g.row.J.Denot). HubStands g.J.Journal.told v history → v.spent ≡ false → c.is_stopped.result ≡ was_stopped history) c.self.view_is
    (λ k t. c.is_stopped.ensures _ _ (k.tables t).tables) h s
