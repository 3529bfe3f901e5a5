-- What ends at an editor with the program of a start that created tokens (LSP 3.17, Work Done Progress).
use Rattle.std.specs.Prelude.{ℕ, List, filter, map}
use Rattle.group_rows.specs.Created.{Created, Taking, Token}
use Rattle.group_rows.specs.ExitRows.{has_begun, unanswered_at}

-- X2: the live tokens that it accepted and that began there, in the order of creation
abbrev pub begun_tokens : ℕ → Created → List ℕ
begun_tokens e x = map (λ (t : Token). t.number) (filter (λ (t : Token). has_begun e t.number x) x.tokens)

-- and the numbers under which it was asked whether it takes one, and didn't answer, in the order of asking
abbrev pub unanswered_takes : ℕ → Created → List ℕ
unanswered_takes e x = map (λ (c : Taking). c.number) (filter (unanswered_at e) x.takings)
