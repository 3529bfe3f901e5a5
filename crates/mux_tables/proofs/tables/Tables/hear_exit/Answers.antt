-- The program ended, or couldn't be run.
use Rattle.mux_tables.proofs.Served.{exit_heard, failure_heard}
use Rattle.mux_tables.proofs.DocumentSaid.{exit_documents, failure_documents}
use Rattle.event_model.proofs.Places.{item_at}
use Rattle.mux_tables.proofs.tables.Tables.hear_exit.Goals as goal

pub returns-clause-exit : goal.returns-clause-exit
returns-clause-exit c = λ settings events s e at st. exit_heard settings c.args.self.now c.exit.new.self events c.args.g s c.args.restarts e at c.requires.group c.in_ok-exit.ensures.exits st

pub returns-clause-failure : goal.returns-clause-failure
returns-clause-failure c = λ settings events s e at st. failure_heard settings c.args.self.now c.exit.new.self events c.args.g s c.args.restarts e at c.requires.group c.in_ok-exit.ensures.exits st

pub returns-clause-exit_documents : goal.returns-clause-exit_documents
returns-clause-exit_documents c = λ settings owed events s ds.
    let z = item_at c.args.self.now.lasts.items c.args.g c.requires.group in
    exit_documents settings owed c.args.restarts c.args.self.now c.exit.new.self events c.args.g s z.0 z.1 (c.in_ok-exit.ensures.exits z.0 z.1) c.in_ok-exit.ensures.versions c.in_ok-exit.ensures.documents ds

pub returns-clause-failure_documents : goal.returns-clause-failure_documents
returns-clause-failure_documents c = λ settings owed events s ds.
    let z = item_at c.args.self.now.lasts.items c.args.g c.requires.group in
    failure_documents settings owed c.args.restarts c.args.self.now c.exit.new.self events c.args.g s z.0 z.1 (c.in_ok-exit.ensures.exits z.0 z.1) c.in_ok-exit.ensures.versions c.in_ok-exit.ensures.documents ds

pub returns-clause-exits : goal.returns-clause-exits
returns-clause-exits c = λ z here. c.in_ok-exit.ensures.exits z here
