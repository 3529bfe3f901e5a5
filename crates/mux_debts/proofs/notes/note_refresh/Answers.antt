-- What a start says is looked at.
use Rattle.std.proofs.Common.{subst}
use Rattle.event_model.specs.Event.{with_cause}
use Rattle.event_model.specs.Stages.{life_of}
use Rattle.mux_history.specs.declared.cause.Cause.TheVariants.{FromServer}
use Rattle.mux_tables.proofs.Starts.{start_at_place}
use Rattle.mux_turns.proofs.Ready.{start_from}
use Rattle.mux_debts.specs.Stands.{DebtsStand}
use Rattle.mux_debts.proofs.Noting.{over_idle, unready_stands}
use Rattle.mux_debts.proofs.notes.note_refresh.Goals as goal

pub returns-in-None : goal.returns-in-None
returns-in-None c = λ settings before body read known st ds owed.
    unready_stands settings c.args.debts.now before owed c.args.s body (over_idle (life_of c.args.s before).stage (c.in-None.ensures.none settings before st))

pub returns-in_ok-note_said-in-Some : goal.returns-in_ok-note_said-in-Some
returns-in_ok-note_said-in-Some c = λ settings before body read known st ds owed.
    let xs = c.args.tables.now.lasts.items in
    let x = start_from xs c.in-Some.g c.args.s c.in-Some.ensures.found in
    subst (λ n. DebtsStand settings c.note_said.new.debts (with_cause before (FromServer n body))) (start_at_place xs c.in-Some.g c.args.s x.0 x.1 c.in-Some.ensures.found)
    (c.in_ok-note_said-in-Some.ensures settings before body x.0 read known x.1 st ds owed)
