use Rattle.std.proofs.Common.{◌≡◌, subst, ◌∙◌, false}
use Rattle.mux_history.specs.Cores.{joined}
use Rattle.mux_hub.specs.Hubs.{HubView, HubStands}
use Rattle.mux_hub.proofs.Counts.{next_joins}
use Rattle.mux_hub.proofs.hub.Hub.next_editor.Goals as goal

pub returns : goal.returns
returns g c = λ history h s.
    subst (λ (v : HubView g.row.J.Denot). HubStands g.J.Journal.told v history → v.spent ≡ false → c.count.result ≡ joined history) c.self.view_is
    (λ k t. c.count.ensures ∙ next_joins g.J.Journal.told _ history k t) h s
