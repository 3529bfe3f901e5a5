use Rattle.std.proofs.Common.{arith, refl, ap, ◌∙◌, ◌+◌}
use Rattle.std.proofs.lemmas.Result.{err_from_is_err_and}
use Rattle.std.specs.Prelude.{Err}
use Rattle.drive_program.specs.declared.line.LineStop.{LineStop}
use Rattle.drive_program.specs.declared.step.TakeFault.{TakeFault}
use Rattle.drive_program.proofs.Driving.{begins, goes_on, ends, ends_behind, stops, faults, never_begins}
use Rattle.drive_program.proofs.all_lines.drive.Goals as goal

pub returns-in_err-buffer-clause-driven : goal.returns-in_err-buffer-clause-driven
returns-in_err-buffer-clause-driven g c =
    let p = err_from_is_err_and c.from_residual.result c.from_residual.ensures.1 in
    rw (p.1, p.2) (never_begins g.J.Journal.told c.args.content c.args.hub.now.settings c.requires.wide c.args.hub.now (g.I.Source.left c.args.input.now) (g.O.Sink.written c.args.output.now) c.requires.stands)

pub lines-init : goal.lines-init
lines-init g c = record {
  driving = begins g.J.Journal.told c.args.content c.args.hub.now.settings c.args.hub.now c.in_ok-buffer.buffer (g.I.Source.left c.args.input.now) (g.O.Sink.written c.args.output.now) c.requires.stands c.in_ok-buffer.ensures;
  settings = refl;
  ready = c.requires.ready;
  count = omega arith;
  small = rw c.in_ok-buffer.ensures (omega arith);
  journal_later = omega arith;
  input_later = omega arith;
  output_later = omega arith;
}

pub returns-in-Ok-None-clause-driven : goal.returns-in-Ok-None-clause-driven
returns-in-Ok-None-clause-driven g c =
    let e = rw c.in-Ok-None.field-0-is at c.in-Ok-None.ensures.end in
    ends g.J.Journal.told c.args.content c.args.hub.now.settings (g.I.Source.left c.args.input.now) (g.I.Source.left c.lines.input) (g.I.Source.left c.next_line.new.input) c.lines.buffer c.lines.taken
    (g.O.Sink.written c.args.output.now) (g.O.Sink.written c.lines.output) c.lines.hub c.lines.invariant.driving e

pub returns-in-Err-clause-driven : goal.returns-in-Err-clause-driven
returns-in-Err-clause-driven g c =
    rw c.stop_at.ensures
    (stops g.J.Journal.told c.args.content c.args.hub.now.settings c.requires.wide (g.I.Source.left c.args.input.now) (g.I.Source.left c.lines.input) (g.I.Source.left c.next_line.new.input) c.lines.buffer c.lines.taken (c.lines.taken + 1)
    (g.O.Sink.written c.args.output.now) (g.O.Sink.written c.lines.output) c.lines.hub c.in-Err.stop c.lines.invariant.driving refl (λ e. c.in-Err.ensures.passed (ap (λ (s : LineStop). Err s) e))
    (λ e. c.in-Err.ensures.broke_off (ap (λ (s : LineStop). Err s) e)))

pub returns-in-Err-take_line-clause-driven : goal.returns-in-Err-take_line-clause-driven
returns-in-Err-take_line-clause-driven g c =
    let first = rw c.in-Ok-Some.field-0-is at c.in-Ok-Some.ensures.line in
    let small = rw c.in-Ok-Some.field-0-is at c.in-Ok-Some.ensures.small in
    rw c.fault_at.ensures
    (faults g.J.Journal.told c.args.content c.args.hub.now.settings (g.I.Source.left c.args.input.now) (g.I.Source.left c.lines.input) (g.I.Source.left c.next_line.new.input) c.lines.buffer c.next_line.new.buffer c.lines.taken
    (g.O.Sink.written c.args.output.now) (g.O.Sink.written c.lines.output) (g.O.Sink.written c.take_line.new.output) c.lines.hub c.take_line.new.hub c.in-Ok-Some.line.bytes.items
    c.lines.invariant.driving c.lines.invariant.settings
    first
    small (c.lines.taken + 1) c.in-Err-take_line.fault refl (c.in-Err-take_line.ensures.left c.lines.invariant.driving.history c.lines.invariant.driving.stands)
    (c.in-Err-take_line.ensures.kept c.lines.invariant.driving.history c.lines.invariant.driving.stands)
    (λ r e. c.in-Err-take_line.ensures.refused c.lines.invariant.driving.history r c.lines.invariant.driving.stands (ap (λ (s : TakeFault). Err s) e))
    (λ e. c.in-Err-take_line.ensures.entry c.lines.invariant.driving.history c.lines.invariant.driving.stands (ap (λ (s : TakeFault). Err s) e))
    (λ e. c.in-Err-take_line.ensures.numbers c.lines.invariant.driving.history c.lines.invariant.driving.stands (ap (λ (s : TakeFault). Err s) e)))

pub returns-then-is_last-clause-driven : goal.returns-then-is_last-clause-driven
returns-then-is_last-clause-driven g c =
    let first = rw c.in-Ok-Some.field-0-is at c.in-Ok-Some.ensures.line in
    let small = rw c.in-Ok-Some.field-0-is at c.in-Ok-Some.ensures.small in
    let last = rw c.in-Ok-Some.field-0-is at c.in-Ok-Some.ensures.last in
    ends_behind g.J.Journal.told c.args.content c.args.hub.now.settings (g.I.Source.left c.args.input.now) (g.I.Source.left c.lines.input) (g.I.Source.left c.next_line.new.input) c.lines.buffer c.next_line.new.buffer c.lines.taken
    (g.O.Sink.written c.args.output.now) (g.O.Sink.written c.lines.output) (g.O.Sink.written c.take_line.new.output) c.lines.hub c.take_line.new.hub c.in-Ok-Some.line.bytes.items
    c.lines.invariant.driving c.lines.invariant.settings
    first
    small (λ history stood. c.in_default.ensures.taken history stood) (last c.if-is_last.true)

pub lines-preserved : goal.lines-preserved
lines-preserved g c =
    let first = rw c.in-Ok-Some.field-0-is at c.in-Ok-Some.ensures.line in
    let small = rw c.in-Ok-Some.field-0-is at c.in-Ok-Some.ensures.small in
    let used = rw c.in-Ok-Some.field-0-is at c.in-Ok-Some.ensures.used in
    let came = rw c.in-Ok-Some.field-0-is at c.in-Ok-Some.ensures.came in
    record {
      driving = goes_on g.J.Journal.told c.args.content c.args.hub.now.settings (g.I.Source.left c.args.input.now) (g.I.Source.left c.lines.input) (g.I.Source.left c.next_line.new.input) c.lines.buffer c.next_line.new.buffer c.lines.taken
          (g.O.Sink.written c.args.output.now) (g.O.Sink.written c.lines.output) (g.O.Sink.written c.take_line.new.output) c.lines.hub c.take_line.new.hub c.in-Ok-Some.line.bytes.items
          c.lines.invariant.driving c.lines.invariant.settings
          first
          small (λ history stood. c.in_default.ensures.taken history stood) (came c.if-is_last.false);
      settings = c.take_line.ensures.settings ∙ c.lines.invariant.settings;
      ready = c.in_default.ensures.ready;
      count = omega (arith, used, c.lines.invariant.count);
      small = small;
      journal_later = omega (arith, c.take_line.ensures.journal_later, c.lines.invariant.journal_later);
      input_later = omega (arith, c.next_line.ensures.later, c.lines.invariant.input_later);
      output_later = omega (arith, c.take_line.ensures.output_later, c.lines.invariant.output_later);
    }
