-- The start is told of the configuration.
use Rattle.event_model.proofs.Turns.{does_nothing}
use Rattle.mux_starts.proofs.Resulting.{configures_does}
use Rattle.mux_starts.proofs.results.configure.Goals as goal

pub returns-in-None : goal.returns-in-None
returns-in-None c = λ settings owed base s there is idle. rw c.in-None.is does_nothing

pub returns-in_ok-notify-in-Some : goal.returns-in_ok-notify-in-Some
returns-in_ok-notify-in-Some c = λ settings owed base s there is idle.
    rw c.in-Some.is
    (configures_does settings owed c.args.tables.now c.args.g base c.args.outs.now c.notify.new.outs s c.in_ok-text-in-Some.text c.in-Some.body.now c.in_ok-text-in-Some.ensures (rw c.in-Some.is at is) idle
    (c.in_ok-notify-in-Some.ensures.does settings base s there)
    (λ method params says silent rest docs. c.in_ok-notify-in-Some.ensures.idle settings owed base method params says silent rest docs))
