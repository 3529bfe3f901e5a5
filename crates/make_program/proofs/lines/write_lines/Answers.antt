use Rattle.std.proofs.Common.{◌≡◌, [], ◌∷◌, ◌++◌, append-nil, append_assoc, length, ap, sym, ◌∙◌, arith}
use Rattle.std.specs.Io.KnownBytes.{append_known}
use Rattle.std.specs.Vec.Iter.{into_iter_items}
use Rattle.std.proofs.lemmas.Grind.{flat_map-append}
use Rattle.drive_text.specs.Made.{made}
use Rattle.make_program.specs.Shown.{cause_text, causes_text}
use Rattle.make_program.proofs.Driving.{none_left}
use Rattle.make_program.proofs.Writing.{shows_behind, written_more}
use Rattle.make_program.proofs.lines.write_lines.Goals as goal

-- behind a cause without a body, and behind one with a body, which is dropped
pub loop-cause-preserved : goal.loop-cause-preserved
loop-cause-preserved g c =
    let at = c.loop-cause in
    let x = c.in-Some.cause in
    let rest = into_iter_items c.next.new.self in
    let steps : into_iter_items at.cause-iterator ≡ x ∷ rest = c.in-Some.ensures.steps.0 in
    record {
      all = append_assoc at.yielded (x ∷ []) rest ∙ (ap (λ ws. at.yielded ++ ws) (sym steps) ∙ at.invariant.all);
      left =
          let was = at.invariant.left in
          let gone = c.in-Some.ensures.steps.1 in
          let short = ap length steps in
          omega arith;
      written = written_more (g.O.Sink.written c.args.output.now) (g.O.Sink.written at.output) (g.O.Sink.written c.write_cause.new.output) (causes_text at.yielded) (cause_text x) (causes_text (at.yielded ++ x ∷ []))
          at.invariant.written c.in_default-write_cause.ensures.shows
          (flat_map-append cause_text at.yielded (x ∷ []) ∙ ap (λ l. causes_text at.yielded ++ l) (append-nil (cause_text x)));
      later = omega (arith, at.invariant.later, c.write_cause.ensures.later);
    }

pub loop-cause-preserved-in_default-write_cause : goal.loop-cause-preserved-in_default-write_cause
loop-cause-preserved-in_default-write_cause g c =
    let at = c.loop-cause in
    let x = c.in-Some.cause in
    let rest = into_iter_items c.next.new.self in
    let steps : into_iter_items at.cause-iterator ≡ x ∷ rest = c.in-Some.ensures.steps.0 in
    record {
      all = append_assoc at.yielded (x ∷ []) rest ∙ (ap (λ ws. at.yielded ++ ws) (sym steps) ∙ at.invariant.all);
      left =
          let was = at.invariant.left in
          let gone = c.in-Some.ensures.steps.1 in
          let short = ap length steps in
          omega arith;
      written = written_more (g.O.Sink.written c.args.output.now) (g.O.Sink.written at.output) (g.O.Sink.written c.write_cause.new.output) (causes_text at.yielded) (cause_text x) (causes_text (at.yielded ++ x ∷ []))
          at.invariant.written c.in_default-write_cause.ensures.shows
          (flat_map-append cause_text at.yielded (x ∷ []) ∙ ap (λ l. causes_text at.yielded ++ l) (append-nil (cause_text x)));
      later = omega (arith, at.invariant.later, c.write_cause.ensures.later);
    }

pub loop-cause-preserved-in_default-write_cause-2 : goal.loop-cause-preserved-in_default-write_cause-2
loop-cause-preserved-in_default-write_cause-2 g c =
    let at = c.loop-cause in
    let x = c.in-Some.cause in
    let rest = into_iter_items c.next.new.self in
    let steps : into_iter_items at.cause-iterator ≡ x ∷ rest = c.in-Some.ensures.steps.0 in
    record {
      all = append_assoc at.yielded (x ∷ []) rest ∙ (ap (λ ws. at.yielded ++ ws) (sym steps) ∙ at.invariant.all);
      left =
          let was = at.invariant.left in
          let gone = c.in-Some.ensures.steps.1 in
          let short = ap length steps in
          omega arith;
      written = written_more (g.O.Sink.written c.args.output.now) (g.O.Sink.written at.output) (g.O.Sink.written c.write_cause.new.output) (causes_text at.yielded) (cause_text x) (causes_text (at.yielded ++ x ∷ []))
          at.invariant.written c.in_default-write_cause.ensures.shows
          (flat_map-append cause_text at.yielded (x ∷ []) ∙ ap (λ l. causes_text at.yielded ++ l) (append-nil (cause_text x)));
      later = omega (arith, at.invariant.later, c.write_cause.ensures.later);
    }

pub returns-in-Err-clause-shows : goal.returns-in-Err-clause-shows
returns-in-Err-clause-shows g c =
    let at = c.loop-cause in
    let x = c.in-Some.cause in
    let rest = into_iter_items c.next.new.self in
    let steps : into_iter_items at.cause-iterator ≡ x ∷ rest = c.in-Some.ensures.steps.0 in
    let whole : made c.args.count c.args.seed ≡ at.yielded ++ x ∷ rest = sym at.invariant.all ∙ ap (λ ws. at.yielded ++ ws) steps in
    shows_behind (g.O.Sink.written c.args.output.now) (g.O.Sink.written at.output) (g.O.Sink.written c.write_cause.new.output) (causes_text at.yielded) (cause_text x) (causes_text rest) (causes_text (made c.args.count c.args.seed)) c.in-Err.stop
    at.invariant.written (ap causes_text whole ∙ flat_map-append cause_text at.yielded (x ∷ rest)) c.in-Err.ensures.shows

pub returns-clause-shows : goal.returns-clause-shows
returns-clause-shows g c =
    let at = c.loop-cause in
    let none = c.in-None.ensures.steps in
    let empty : into_iter_items at.cause-iterator ≡ [] = none_left (into_iter_items at.cause-iterator) (sym at.invariant.left ∙ none.0) in
    let whole : at.yielded ≡ made c.args.count c.args.seed = sym (append-nil at.yielded) ∙ (ap (λ ws. at.yielded ++ ws) (sym empty) ∙ at.invariant.all) in
    at.invariant.written ∙ ap (λ cs. append_known (g.O.Sink.written c.args.output.now) (causes_text cs)) whole
