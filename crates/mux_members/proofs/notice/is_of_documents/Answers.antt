use Rattle.std.proofs.Common.{◌||◌, codes, refl}
use Rattle.std.specs.Prelude.{bytes_eq}
use Rattle.mux_members.proofs.Bared.{either_first, either_second}
use Rattle.mux_members.proofs.notice.is_of_documents.Goals as goal

pub returns-then-spells : goal.returns-then-spells
returns-then-spells c = λ s cs f. either_first (bytes_eq (codes "textDocument/didOpen") cs) (bytes_eq (codes "textDocument/didChange") cs || bytes_eq (codes "textDocument/didClose") cs) c.spells.result (c.spells.ensures refl s cs f) c.if-spells.true

pub returns-else-spells : goal.returns-else-spells
returns-else-spells c = λ s cs f. either_second (bytes_eq (codes "textDocument/didOpen") cs) (bytes_eq (codes "textDocument/didChange") cs || bytes_eq (codes "textDocument/didClose") cs) c.spells.result c.spells_either.result (c.spells.ensures refl s cs f) c.if-spells.false (c.spells_either.ensures refl refl s cs f)
