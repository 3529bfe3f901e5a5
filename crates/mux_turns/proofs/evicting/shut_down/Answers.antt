-- The last start is sent `shutdown`.
use Rattle.mux_turns.proofs.Evictions.{shuts}
use Rattle.mux_turns.proofs.Ready.{start_from}
use Rattle.mux_turns.proofs.evicting.shut_down.Goals as goal

pub returns-clause-does : goal.returns-clause-does
returns-clause-does c = λ settings owed base s at asked.
    let x = start_from c.args.tables.now.lasts.items c.args.g s at in
    let ready = c.requires.ready x.0 x.1 in
    shuts settings c.args.tables.now c.shut.new.self base c.args.outs.now c.shut.new.outs c.args.g s x.0 x.1 at owed c.number_at-n.result c.in_ok-text.text ready (λ order limit. c.number_at-n.ensures x.0 x.1 ready order limit) c.in_ok-text.ensures asked
    (λ name ps says. c.in_ok-shut.ensures.does settings base s name ps at says) (λ name ps says ds. c.in_ok-shut.ensures.documents settings owed base name ps says ds)
