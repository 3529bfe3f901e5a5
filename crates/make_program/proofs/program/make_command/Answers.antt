use Rattle.std.proofs.Common.{◌≡◌, arith, ap, subst, sym, ◌∙◌}
use Rattle.std.specs.Prelude.{Result, Ok, Err}
use Rattle.outside_io.specs.Faults.{Rose}
use Rattle.drive_text.specs.Made.{made}
use Rattle.mux_facts.specs.Ranges.{InRange}
use Rattle.made_histories.proofs.Fitting.{made_fits}
use Rattle.drive_program.specs.Program.{fault_line}
use Rattle.drive_program.specs.declared.stop.Stop.{Stop}
use Rattle.settled_hub.specs.Settings.{hub_settings}
use Rattle.make_program.specs.Counts.{summary_line}
use Rattle.make_program.specs.Program.{Ran}
use Rattle.make_program.specs.declared.counts.Counts.{Counts}
use Rattle.make_program.proofs.Ending.{complete_shown, complete_stop, journal_of, not_six}
use Rattle.make_program.proofs.program.make_command.Goals as goal

pub returns-in-Ok-clause-made : goal.returns-in-Ok-clause-made
returns-in-Ok-clause-made g c = record {
  result = Ok c.in-Ok.counts;
  ran = subst (λ (r : Result Counts Stop). Ran g.J.Journal.told (hub_settings c.args.config) c.run-journal.result.0 (made c.args.count c.args.seed) r) c.in-Ok.is c.run-journal.ensures.ran;
  said = c.show.ensures;
}

pub returns-in-Ok-clause-journal_only : goal.returns-in-Ok-clause-journal_only
returns-in-Ok-clause-journal_only g c = λ six.
    absurd (not_six (summary_line c.in-Ok.counts) (g.O.Sink.written c.args.output.now) (g.O.Sink.written c.show.new.output) (Rose (g.O.Sink.faults c.args.output.now) (g.O.Sink.faults c.show.new.output)) c.show.result c.show.ensures six)

pub returns-in-Ok-clause-complete : goal.returns-in-Ok-clause-complete
returns-in-Ok-clause-complete g c = λ u.
    complete_shown (summary_line c.in-Ok.counts) (g.O.Sink.written c.args.output.now) (g.O.Sink.written c.show.new.output) (Rose (g.O.Sink.faults c.args.output.now) (g.O.Sink.faults c.show.new.output)) c.show.result c.show.ensures u.output

pub returns-in-Err-clause-made : goal.returns-in-Err-clause-made
returns-in-Err-clause-made g c = record {
  result = Err c.in-Err.stop;
  ran = subst (λ (r : Result Counts Stop). Ran g.J.Journal.told (hub_settings c.args.config) c.run-journal.result.0 (made c.args.count c.args.seed) r) c.in-Err.is c.run-journal.ensures.ran;
  said = c.report.ensures.reported;
}

pub returns-in-Err-clause-journal_only : goal.returns-in-Err-clause-journal_only
returns-in-Err-clause-journal_only g c = λ six.
    let is : c.in-Err.stop ≡ _ = journal_of c.in-Err.stop c.report.result (g.O.Sink.written c.args.output.now) (g.O.Sink.written c.report.new.output) (fault_line c.in-Err.stop)
    (Rose (g.O.Sink.faults c.args.output.now) (g.O.Sink.faults c.report.new.output)) c.report.ensures.reported six in
    c.run-journal.ensures.journal (c.in-Err.is ∙ ap (λ (s : Stop). Err s) is)

pub returns-in-Err-clause-complete : goal.returns-in-Err-clause-complete
returns-in-Err-clause-complete g c = λ u.
    let limits = c.args.config.in_range.limits in
    let range : InRange (hub_settings c.args.config) = record { requests = omega (arith, limits.requests.1); versions = omega (arith, limits.versions.1) } in
    complete_stop g.J.Journal.told (hub_settings c.args.config) c.run-journal.result.0 (made c.args.count c.args.seed)
    (Rose (g.J.Journal.faults c.args.journal) (g.J.Journal.faults c.run-journal.result.0)) (Rose (g.O.Sink.faults c.args.output.now) (g.O.Sink.faults c.report.new.output)) c.in-Err.stop c.report.result
    (g.O.Sink.written c.args.output.now) (g.O.Sink.written c.report.new.output) (fault_line c.in-Err.stop) (Rose (g.O.Sink.faults c.args.output.now) (g.O.Sink.faults c.report.new.output))
    (subst (λ (r : Result Counts Stop). Ran g.J.Journal.told (hub_settings c.args.config) c.run-journal.result.0 (made c.args.count c.args.seed) r) c.in-Err.is c.run-journal.ensures.ran)
    c.report.ensures.reported (λ e. c.run-journal.ensures.journal (c.in-Err.is ∙ ap (λ (s : Stop). Err s) e)) (made_fits (hub_settings c.args.config) range c.args.count c.args.seed) u
