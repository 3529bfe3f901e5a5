-- What is asked of the last lists of diagnostics of one start of a server, which stand in the order in which their documents got the first one (LSP 3.17, Publish Diagnostics).
use Rattle.std.specs.Prelude.{ℕ, not, List}
use Rattle.diagnostics_route.specs.declared.last_list.LastList.{LastList}
use Rattle.diagnostics_route.specs.Rows.{numbers_from}

-- L2: the documents whose last list isn't empty
abbrev pub nonempty : List LastList → List ℕ
nonempty ls = numbers_from 0 (λ l. not l.empty) ls
