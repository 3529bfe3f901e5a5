-- The editor joined.
use Rattle.std.proofs.Common.{refl}
use Rattle.mux_tables.proofs.Heard.{joined_moves}
use Rattle.mux_tables.proofs.DocumentHeard.{joined_documents}
use Rattle.mux_tables.proofs.tables.Tables.hear_joined.Goals as goal

pub returns-clause-stands : goal.returns-clause-stands
returns-clause-stands c = λ settings events s. joined_moves settings c.args.self.now _ events c.args.e c.requires.next c.in_ok-join.ensures.ok refl refl refl refl refl s

pub returns-clause-documents : goal.returns-clause-documents
returns-clause-documents c = λ settings owed events st ds. joined_documents settings owed c.args.self.now _ events c.args.e c.requires.next refl refl refl st ds
