-- Laws of lines: each cause and each out is written in one way alone.
use Rattle.std.specs.List.{AllByRecursion}
use Rattle.std.specs.Prelude.{◌≡◌, ℕ, ◌≤◌, List, ◌↔◌}
use Rattle.std.specs.Prelude.{Some}
use Rattle.mux_history.specs.Cores.{body_length}
use Rattle.mux_history.specs.declared.cause.Cause.{Cause}
use Rattle.mux_history.specs.declared.out.Out.{Out}
use Rattle.drive_text.specs.Forms.{cause_within}
use Rattle.drive_text.specs.OutForms.{out_of}
use Rattle.drive_text.specs.Outs.{spelled_out, out_lines, HasSmallOutNumbers}
use Rattle.drive_text.specs.Spellings.{spelled, HasSmallNumbers}

-- this is the line of the cause, and its body is no longer than the limit
abbrev pub Writes : ℕ → List ℕ → Cause → Type 0
Writes content line cause = (line ≡ spelled cause) × HasSmallNumbers cause × (body_length cause ≤ content)

-- the lines in a form are the lines of causes: each is read as its cause, and a cause has no other line
abbrev pub FormsAreLines : Type 0
FormsAreLines = (content : ℕ) (line : List ℕ) (cause : Cause) → (cause_within content line ≡ Some cause) ↔ Writes content line cause

-- two causes with one line are equal
abbrev pub OneCause : Type 0
OneCause = (a b : Cause) → HasSmallNumbers a → HasSmallNumbers b → spelled a ≡ spelled b → a ≡ b

-- two lists of outs with the same lines are equal
abbrev pub SameOuts : Type 0
SameOuts = (xs ys : List Out) → AllByRecursion HasSmallOutNumbers xs → AllByRecursion HasSmallOutNumbers ys → out_lines xs ≡ out_lines ys → xs ≡ ys

-- the lines that are read as outs are the lines of outs: each is read as its out, and an out has no other line
abbrev pub FormsAreOuts : Type 0
FormsAreOuts = (line : List ℕ) (out : Out) → (out_of line ≡ Some out) ↔ ((line ≡ spelled_out out) × HasSmallOutNumbers out)
