-- Whether a token lives.
use Rattle.std.proofs.Common.{◌∙◌, ap}
use Rattle.std.specs.Prelude.{is_some}
use Rattle.group_laws.specs.group_rows.specs.Created.{created_of, token_called}
use Rattle.std.specs.Prelude.{Some}
use Rattle.mux_tables.proofs.Creating.{some_number}
use Rattle.mux_tables.proofs.tables.Tables.is_created.Goals as goal

pub returns : goal.returns
returns c = λ settings events x i at text st. c.is_some.ensures ∙ (ap is_some (c.created_as.ensures settings events x i at text st) ∙ some_number (token_called (Some i) (created_of settings x.life.start events)))
