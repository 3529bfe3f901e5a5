use Rattle.std.proofs.Common.{subst}
use Rattle.mux_facts.specs.Ranges.{InRange}
use Rattle.mux_hub.specs.Hubs.{HubView}
use Rattle.mux_hub.proofs.Sessions.{sessions_hold}
use Rattle.mux_hub.proofs.hub.Hub.sessions_law.Goals as goal

pub returns : goal.returns
returns g c = λ history h.
    let range : InRange c.args.self.now.settings = subst (λ (v : HubView g.row.J.Denot). InRange v.settings) c.self.view_is c.self.invariant.range in
    sessions_hold c.args.self.now.settings range history h.legal h.own
