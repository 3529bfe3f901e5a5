-- What is open at an editor fails.
use Rattle.mux_editors.proofs.Halting.{opens_refused}
use Rattle.mux_editors.proofs.stops.refuse_open.Goals as goal

pub returns-clause-does : goal.returns-clause-does
returns-clause-does c = λ settings before base forwarded r.
    opens_refused settings c.args.tables.now c.refuse_initialize.new.tables c.lose_requests.new.tables c.lose_waiting.new.tables before base c.args.outs.now c.refuse_initialize.new.outs c.lose_requests.new.outs c.lose_waiting.new.outs c.args.e r
    (c.in_ok-refuse_initialize.ensures.does settings base r.asking r.housed) (λ k. c.in_ok-lose_requests.ensures.does settings before base k.stays forwarded) (λ k. c.in_ok-lose_waiting.ensures.does settings before base (k.stays.home c.args.e))

pub returns-clause-documents : goal.returns-clause-documents
returns-clause-documents c = λ settings owed base ds.
    c.in_ok-lose_waiting.ensures.documents settings owed base (c.in_ok-lose_requests.ensures.documents settings owed base (c.in_ok-refuse_initialize.ensures.documents settings owed base ds))
