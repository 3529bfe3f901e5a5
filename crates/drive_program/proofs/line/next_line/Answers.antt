use Rattle.std.proofs.Common.{rules, [], ◌∷◌}
use Rattle.drive_program.specs.Buffers.{Came}
use Rattle.drive_program.proofs.Consumes.{came_filled, came_more, came_on}
use Rattle.drive_program.proofs.line.next_line.Goals as goal

pub returns-in-Whole-clause-came : goal.returns-in-Whole-clause-came
returns-in-Whole-clause-came g c = λ _.
    let before : Came [] c.pieces.line.items c.args.buffer.now c.filled.new.buffer (g.I.Source.left c.args.input.now) (g.I.Source.left c.filled.new.input) =
    came_filled c.pieces.line.items c.args.buffer.now c.pieces.buffer c.filled.new.buffer (g.I.Source.left c.args.input.now) (g.I.Source.left c.pieces.input) (g.I.Source.left c.filled.new.input) c.pieces.invariant.begun
    c.in_ok-filled.ensures.unused c.filled.ensures.used in
    came_more (10 ∷ []) c.pieces.line.items c.take_piece.new.line.items c.args.buffer.now c.filled.new.buffer c.take_piece.new.buffer (g.I.Source.left c.args.input.now) (g.I.Source.left c.filled.new.input) before
    (c.in_ok-take_piece.ensures.moved_whole c.in-Whole.is)

pub pieces-preserved : goal.pieces-preserved
pieces-preserved g c = record {
  same = search rules;
  begun = came_on c.pieces.line.items c.take_piece.new.line.items c.args.buffer.now c.pieces.buffer c.filled.new.buffer c.take_piece.new.buffer (g.I.Source.left c.args.input.now) (g.I.Source.left c.pieces.input) (g.I.Source.left c.filled.new.input)
      c.pieces.invariant.begun c.in_ok-filled.ensures.unused c.filled.ensures.used (c.in_ok-take_piece.ensures.moved_part c.in-Part.is);
  used = search rules;
  moved = search rules;
  small = search rules;
  later = search rules;
}
