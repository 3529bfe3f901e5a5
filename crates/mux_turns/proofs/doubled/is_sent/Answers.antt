-- What was sent on of an editor.
use Rattle.std.proofs.Common.{ap, ◌∙◌}
use Rattle.std.specs.Prelude.{is_some}
use Rattle.event_model.specs.Phases.{desk_of}
use Rattle.group_facts.proofs.Quits.{asked_while}
use Rattle.mux_tables.proofs.Starts.{read_here}
use Rattle.mux_turns.proofs.Asked.{answered_there, sent_found, sent_nowhere, sent_open}
use Rattle.mux_turns.proofs.doubled.is_sent.Goals as goal

pub returns-in-Some-clause-open : goal.returns-in-Some-clause-open
returns-in-Some-clause-open c = λ settings before i facts known st text served so.
    let here = read_here c.args.tables.now.lasts.items c.in-Some.g c.index.result.now c.in-Some.ensures.inside c.index.ensures in
    sent_open settings c.args.tables.now before c.args.e i known served c.args.id.now text c.in-Some.g c.index.result.now c.is_some.result (asked_while settings before facts.asked facts.quit c.args.e (answered_there (desk_of c.args.e before).phase served)) st
    here (c.is_some.ensures ∙ ap is_some c.find.ensures.exact) so

pub returns-in-Some-clause-sent : goal.returns-in-Some-clause-sent
returns-in-Some-clause-sent c = λ settings before i known st text served sent.
    let here = read_here c.args.tables.now.lasts.items c.in-Some.g c.index.result.now c.in-Some.ensures.inside c.index.ensures in
    sent_found settings c.args.tables.now before c.args.e i known served c.args.id.now text c.in-Some.g c.index.result.now c.is_some.result st (c.in-Some.ensures.home settings before c.index.result.now here st)
    here (c.is_some.ensures ∙ ap is_some c.find.ensures.exact) sent

pub returns-in-None-clause-sent : goal.returns-in-None-clause-sent
returns-in-None-clause-sent c = λ settings before i known st text served sent. sent_nowhere settings c.args.tables.now before c.args.e i known served (c.in-None.ensures.none settings before st) sent
