use Rattle.std.proofs.Common.{refl}
use Rattle.event_model.specs.Settings.{Settings}
use Rattle.mux_debts.proofs.Standing.{nothing_stands}
use Rattle.mux_hub.proofs.HubLaw.{begins, begins_sound}
use Rattle.mux_hub.proofs.hub.Hub.new.Goals as goal

pub invariant_of-result : goal.invariant_of-result
invariant_of-result g c =
    let settings : Settings = record { limits = c.args.limits; servers = c.args.servers.items; default = c.args.default } in
    begins_sound settings c.in-Ok.tables c.requires.requests c.requires.versions c.requires.ceilings (c.in-Ok.ensures.stands settings refl refl refl) (c.in-Ok.ensures.documents settings refl)

pub returns-clause-stands : goal.returns-clause-stands
returns-clause-stands g c =
    let settings : Settings = record { limits = c.args.limits; servers = c.args.servers.items; default = c.args.default } in
    begins g.J.Journal.told settings c.in-Ok.tables c.new-2.result c.new-3.result c.new-4.result c.new-5.result.items c.args.journal c.requires.told (c.in-Ok.ensures.stands settings refl refl refl) (c.in-Ok.ensures.documents settings refl) (c.new-2.ensures settings) (nothing_stands settings c.new-3.result c.new-3.ensures) c.new-4.ensures c.new-5.ensures.items
