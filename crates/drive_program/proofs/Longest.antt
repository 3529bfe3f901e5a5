-- A line beyond a length is in no form, or its body is too long.
use Rattle.std.proofs.Common.{◌≡◌, inl, inr, ℕ, ◌<◌, ◌≤◌, Bool, true, false, nat_lt, List, [], ◌∷◌, IfSome, length, length-append, refl, arith, option_map}
use Rattle.std.specs.Prelude.{Option, Some, None, Err}
use Rattle.std.proofs.lemmas.Bool.Decides.{nat_tests}
use Rattle.mux_history.specs.Cores.{body_length}
use Rattle.mux_history.specs.declared.cause.Cause.{Cause}
use Rattle.mux_history.specs.declared.entry.Entry.{Entry}
use Rattle.drive_text.specs.Causes.{cause_of}
use Rattle.drive_text.specs.Forms.{within}
use Rattle.drive_text.specs.Options.{then_option}
use Rattle.drive_text.proofs.Longest.{cause_length}
use Rattle.drive_program.specs.declared.refusal.Refusal.TheVariants.{Form}
use Rattle.drive_program.specs.Buffers.{BufferView, known_lines, begun_lines, FirstPasses, FirstTooLong}
use Rattle.drive_program.specs.Lines.{Line, longest, onto_line}
use Rattle.drive_program.specs.Runs.{judged, reading_bytes}

pub long_bytes : (content : ℕ) (history : List Entry) (bytes : List ℕ) → 13 ≤ content → longest content < length bytes → reading_bytes content history bytes ≡ Err Form
unfolding reading_bytes
long_bytes content history bytes wide h = go (cause_of bytes) refl
  where
    choice : (c : Cause) (b : Bool) → cause_of bytes ≡ Some c → nat_lt content (body_length c) ≡ b → judged history (within content c) ≡ Err Form
    choice c true e t = rw t refl
    choice c false e t = let l = cause_length bytes c content wide e (grind (arith, nat_tests, t)) in absurd (omega (arith, l, h))

    go : (o : Option Cause) → cause_of bytes ≡ o → judged history (then_option o (within content)) ≡ Err Form
    go None e = refl
    go (Some c) e = choice c (nat_lt content (body_length c)) e refl

-- a line that has begun and is too long already
long_first : (content at : ℕ) (line : List ℕ) (lines : List Line) → longest content < length line → FirstTooLong content (onto_line at line lines)
long_first content at [] lines h = absurd (omega (arith, h))
long_first content at (b ∷ line) [] h = inr h
long_first content at (b ∷ line) (l ∷ lines) h = let e = length-append (b ∷ line) l.bytes in inr (omega (arith, e, h))

pub long_begun : (content : ℕ) (line : List ℕ) (buffer : BufferView) (left : Option (List ℕ)) → longest content < length line → IfSome (begun_lines line buffer left) (FirstTooLong content)
long_begun content line buffer left h = go (known_lines buffer left)
  where
    go : (o : Option (List Line)) → IfSome (option_map (onto_line buffer.used line) o) (FirstTooLong content)
    go None = tt
    go (Some lines) = long_first content buffer.used line lines h

first_passes : (content : ℕ) (lines : List Line) → FirstPasses lines → FirstTooLong content lines
first_passes content [] h = h
first_passes content (line ∷ lines) h = inl h

pub passes_long : (content : ℕ) (o : Option (List Line)) → IfSome o FirstPasses → IfSome o (FirstTooLong content)
passes_long content None h = tt
passes_long content (Some lines) h = first_passes content lines h
