use Rattle.std.proofs.Common.{◌≡◌, arith, subst, true, false}
use Rattle.mux_history.specs.Cores.{spawns}
use Rattle.mux_hub.specs.Hubs.{HubView, HubStands}
use Rattle.mux_hub.proofs.Counts.{server_given, server_missing}
use Rattle.mux_hub.proofs.hub.Hub.server_of.Goals as goal

pub returns-then-start-len-clause-none : goal.returns-then-start-len-clause-none
returns-then-start-len-clause-none g c = λ history h s.
    subst (λ (v : HubView g.row.J.Denot). HubStands g.J.Journal.told v history → v.spent ≡ false → (true ≡ false → spawns c.args.start history ≡ 0) × (spawns c.args.start history ≡ 0 → true ≡ false)) c.self.view_is
    (λ k t. server_given g.J.Journal.told _ history c.args.start c.self.invariant.range k t (omega (arith, c.if-start-len.true, c.len.ensures, c.self.inside.starts.ok.0))) h s

pub returns-else-start-len-clause-none : goal.returns-else-start-len-clause-none
returns-else-start-len-clause-none g c = λ history h s.
    subst (λ (v : HubView g.row.J.Denot). HubStands g.J.Journal.told v history → v.spent ≡ false → (false ≡ false → spawns c.args.start history ≡ 0) × (spawns c.args.start history ≡ 0 → false ≡ false)) c.self.view_is
    (λ k t. server_missing g.J.Journal.told _ history c.args.start c.self.invariant.range k t (omega (arith, c.if-start-len.false, c.len.ensures, c.self.inside.starts.ok.0))) h s
