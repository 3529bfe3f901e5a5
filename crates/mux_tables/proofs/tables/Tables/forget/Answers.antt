-- A group whose last start ended is forgotten.
use Rattle.std.proofs.Common.{ap, length, refl, ◌+◌, ◌∙◌}
use Rattle.mux_tables.proofs.DocumentMoves.{documents_forgotten}
use Rattle.mux_tables.proofs.Moves.{forgotten}
use Rattle.mux_tables.proofs.Placed.{length_left}
use Rattle.mux_tables.proofs.tables.Tables.forget.Goals as goal

pub returns-clause-stands : goal.returns-clause-stands
returns-clause-stands c = λ settings events x at over st. forgotten settings c.args.self.now _ events c.args.g x at over.0 over.1 c.remove.ensures.items refl refl refl refl refl st

pub returns-clause-documents : goal.returns-clause-documents
returns-clause-documents c = λ settings owed events ds. documents_forgotten settings owed c.args.self.now _ events c.args.g c.requires c.remove.ensures.items c.remove-2.ensures refl ds

pub returns-clause-fewer : goal.returns-clause-fewer
returns-clause-fewer c = ap (λ xs. length xs + 1) c.remove.ensures.items ∙ length_left c.args.self.now.lasts.items c.args.g c.requires
