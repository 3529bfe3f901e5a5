-- The versions of an editor's documents now.
use Rattle.std.proofs.Common.{map, subst}
use Rattle.std.specs.Prelude.{IfOk, slice_get}
use Rattle.focus_switch.specs.Versions.{versions_of}
use Rattle.mux_tables.specs.Notes.{StampsAt, now_version}
use Rattle.mux_tables.proofs.Answering.{left_nowhere, versions_seen}
use Rattle.mux_tables.proofs.tables.Tables.versions.Goals as goal

pub returns-clause-versions : goal.returns-clause-versions
returns-clause-versions c = λ settings events s x here ready at st ds. versions_seen settings c.args.self.now events c.args.g s c.args.e x c.current.result here ready at
    (subst (λ xs. IfOk c.current.result (λ stamps. StampsAt stamps (λ d. map (now_version c.args.e d) (versions_of c.args.e d)) (slice_get xs c.args.g))) c.as_slice.ensures.value c.current.ensures) st ds

pub returns-clause-left : goal.returns-clause-left
returns-clause-left c = λ settings events s u at st ds left. left_nowhere settings c.args.self.now events c.args.g s c.args.e u c.requires at st ds left
