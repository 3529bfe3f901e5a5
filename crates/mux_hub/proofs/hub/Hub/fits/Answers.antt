use Rattle.std.proofs.Common.{◌≡◌, subst, false}
use Rattle.mux_model.specs.Fits.{fits}
use Rattle.mux_hub.specs.Hubs.{HubView, HubStands}
use Rattle.mux_hub.proofs.hub.Hub.fits.Goals as goal

pub returns : goal.returns
returns g c = λ history h s.
    subst (λ (v : HubView g.row.J.Denot). HubStands g.J.Journal.told v history → v.spent ≡ false → c.fits.result ≡ fits history c.args.cause.now) c.self.view_is
    (λ k t. c.fits.ensures _ _ (k.tables t).tables (k.tables t).backlogs) h s
