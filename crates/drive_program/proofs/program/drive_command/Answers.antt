use Rattle.std.proofs.Common.{subst, ap, ◌∙◌}
use Rattle.std.specs.Prelude.{Result, Err}
use Rattle.outside_io.specs.Faults.{Rose}
use Rattle.settled_hub.specs.Settings.{hub_settings}
use Rattle.drive_program.specs.Program.{Ran}
use Rattle.drive_program.specs.declared.stop.Stop.{Stop}
use Rattle.drive_program.proofs.Ends.{drove_done, drove_reported, complete, rose_until}
use Rattle.drive_program.proofs.program.drive_command.Goals as goal

pub returns-in-Err-clause-drove : goal.returns-in-Err-clause-drove
returns-in-Err-clause-drove g c = drove_reported g.J.Journal.told c.args.config.content (hub_settings c.args.config) c.run-journal.result.0 (g.I.Source.left c.args.input.now) (g.I.Source.left c.run-journal.new.input)
    (g.O.Sink.written c.args.output.now) (g.O.Sink.written c.run-journal.new.output) (g.O.Sink.written c.report.new.output)
    (g.O.Sink.faults c.args.output.now) (g.O.Sink.faults c.run-journal.new.output) (g.O.Sink.faults c.report.new.output) c.in-Err.stop c.report.result
    (subst (λ (r : Result (Unit {0}) Stop). Ran g.J.Journal.told c.args.config.content (hub_settings c.args.config) c.run-journal.result.0 (g.I.Source.left c.args.input.now) (g.I.Source.left c.run-journal.new.input) (g.O.Sink.written c.args.output.now) (g.O.Sink.written c.run-journal.new.output) r) c.in-Err.is c.run-journal.ensures.ran)
    c.run-journal.ensures.output_later c.report.ensures.reported

pub returns-in-Err-clause-complete : goal.returns-in-Err-clause-complete
returns-in-Err-clause-complete g c = λ u. complete g.J.Journal.told c.args.config.content (hub_settings c.args.config) c.run-journal.result.0 (g.I.Source.left c.args.input.now) (g.I.Source.left c.run-journal.new.input)
    (g.O.Sink.written c.args.output.now) (g.O.Sink.written c.run-journal.new.output) (g.O.Sink.written c.report.new.output)
    (Rose (g.J.Journal.faults c.args.journal) (g.J.Journal.faults c.run-journal.result.0)) (Rose (g.I.Source.faults c.args.input.now) (g.I.Source.faults c.run-journal.new.input))
    (Rose (g.O.Sink.faults c.args.output.now) (g.O.Sink.faults c.report.new.output)) (Rose (g.O.Sink.faults c.run-journal.new.output) (g.O.Sink.faults c.report.new.output)) c.in-Err.stop c.report.result
    (subst (λ (r : Result (Unit {0}) Stop). Ran g.J.Journal.told c.args.config.content (hub_settings c.args.config) c.run-journal.result.0 (g.I.Source.left c.args.input.now) (g.I.Source.left c.run-journal.new.input) (g.O.Sink.written c.args.output.now) (g.O.Sink.written c.run-journal.new.output) r) c.in-Err.is c.run-journal.ensures.ran)
    c.report.ensures.reported
    (λ e. c.run-journal.ensures.journal (c.in-Err.is ∙ ap (λ (s : Stop). Err s) e))
    (λ e. c.run-journal.ensures.input (c.in-Err.is ∙ ap (λ (s : Stop). Err s) e))
    (λ e. rose_until (g.O.Sink.faults c.args.output.now) (g.O.Sink.faults c.run-journal.new.output) (g.O.Sink.faults c.report.new.output) (c.run-journal.ensures.output (c.in-Err.is ∙ ap (λ (s : Stop). Err s) e)) c.report.ensures.later)
    u

pub returns-in-Ok-clause-drove : goal.returns-in-Ok-clause-drove
returns-in-Ok-clause-drove g c = drove_done g.J.Journal.told c.args.config.content (hub_settings c.args.config) c.run-journal.result.0 (g.I.Source.left c.args.input.now) (g.I.Source.left c.run-journal.new.input)
    (g.O.Sink.written c.args.output.now) (g.O.Sink.written c.run-journal.new.output) (Rose (g.O.Sink.faults c.args.output.now) (g.O.Sink.faults c.run-journal.new.output))
    (subst (λ (r : Result (Unit {0}) Stop). Ran g.J.Journal.told c.args.config.content (hub_settings c.args.config) c.run-journal.result.0 (g.I.Source.left c.args.input.now) (g.I.Source.left c.run-journal.new.input) (g.O.Sink.written c.args.output.now) (g.O.Sink.written c.run-journal.new.output) r) c.in-Ok.is c.run-journal.ensures.ran)
