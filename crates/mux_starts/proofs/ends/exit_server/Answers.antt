-- A start that answered `shutdown`.
use Rattle.mux_tables.specs.Documents.{nothing_owed}
use Rattle.mux_starts.proofs.Stopped.{exits_by}
use Rattle.mux_starts.proofs.ends.exit_server.Goals as goal

pub returns-clause-does : goal.returns-clause-does
returns-clause-does c = λ settings base s at.
    exits_by settings c.args.tables.now c.end.new.self base c.args.outs.now c.notify.new.outs c.end.new.outs s c.in_ok-text.text c.in_ok-text.ensures
    (λ still quiet silent. c.in_ok-notify.ensures.does settings base s at still quiet (λ _ _ _. silent)) (λ says aside ds. c.in_ok-notify.ensures.documents settings nothing_owed base says aside ds)
    (c.in_ok-end.ensures.does settings base s at) (λ ds. c.in_ok-end.ensures.documents settings nothing_owed base ds)
