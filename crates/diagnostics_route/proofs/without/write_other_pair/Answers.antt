use Rattle.std.proofs.Common.{ap, ◌∙◌}
use Rattle.std.specs.Prelude.{None, bytes_eq}
use Rattle.std.specs.Str.{chars}
use Rattle.json_text.specs.declared.span.Span.{Span}
use Rattle.json_text.specs.Json.{object, span_of}
use Rattle.json_nodes.specs.Texts.{between}
use Rattle.json_nodes.proofs.Numbers.{child_at}
use Rattle.json_nodes.proofs.Spelling.{named_so}
use Rattle.capability_meet.specs.Shown.{other_pairs}
use Rattle.capability_meet.proofs.Pieces.{piece_skipped, piece_written}
use Rattle.diagnostics_route.proofs.without.write_other_pair.Goals as goal

pub returns-then-spells_text : goal.returns-then-spells_text
returns-then-spells_text c = λ k n s p ms rest cs u a g h.
    piece_skipped c.args.out.now.items (between p.from (span_of u).to c.args.values.bytes.now) (other_pairs c.args.values.bytes.now (chars c.args.name.now) None rest) c.args.started c.spells_text.result (bytes_eq (chars c.args.name.now) cs)
    (named_so c.spells_text.result cs (chars c.args.name.now) (c.spells_text.ensures cs (c.name.ensures.spelled k n (object s ms) u cs a g))) c.if-spells_text.true

pub returns : goal.returns
returns c = λ k n s p ms rest cs u a g h.
    piece_written c.args.out.now.items c.write_comma.new.out.items c.write_part.new.out.items (between p.from (span_of u).to c.args.values.bytes.now) (between c.name_place-from.result.from c.span-to.result.to c.args.values.bytes.now) (other_pairs c.args.values.bytes.now (chars c.args.name.now) None rest) c.args.started c.spells_text.result (bytes_eq (chars c.args.name.now) cs)
    (named_so c.spells_text.result cs (chars c.args.name.now) (c.spells_text.ensures cs (c.name.ensures.spelled k n (object s ms) u cs a g))) c.if-spells_text.false c.in_ok-write_comma.ensures c.in_ok-write_part.ensures
    (ap (λ (z : Span). between z.from c.span-to.result.to c.args.values.bytes.now) (c.name_place-from.ensures k n s p ms rest cs u a h) ∙ ap (λ (z : Span). between p.from z.to c.args.values.bytes.now) (c.span-to.ensures.span u (child_at a)))
