-- What driving the lines of an input gives: a history, and the first line that is refused.
use Rattle.std.specs.Prelude.{◌≡◌, ℕ, ◌+◌, ◌^◌, true, List, [], ◌∷◌, ◌++◌, nat_lt, if◌then◌else◌, option_map}
use Rattle.std.specs.Prelude.{Option, Some, None, Result, Ok, Err}
use Rattle.std.specs.Io.KnownBytes.{prepend_known}
use Rattle.mux_history.specs.declared.cause.Cause.{Cause}
use Rattle.mux_history.specs.declared.entry.Entry.{Entry}
use Rattle.mux_model.specs.Fits.{fits}
use Rattle.event_model.specs.Settings.{Settings}
use Rattle.mux_hub.specs.Entries.{entry_of, passes}
use Rattle.drive_program.specs.declared.refusal.Refusal.{Refusal}
use Rattle.drive_program.specs.declared.refusal.Refusal.TheVariants.{Form, Absent}
use Rattle.drive_text.specs.Forms.{cause_within}
use Rattle.drive_program.specs.Lines.{Line, lines_of, ended_lines}

abbrev pub judged : List Entry → Option Cause → Result Cause Refusal
judged history None = Err Form
judged history (Some cause) = if fits history cause then Ok cause else Err Absent

-- the cause that these bytes write, with a body of at most so many bytes, or why the line is refused
unfoldable pub reading_bytes : ℕ → List Entry → List ℕ → Result Cause Refusal
reading_bytes content history bytes = judged history (cause_within content bytes)

-- the same of a line; one in which the input passes 2^40 bytes is in no form
abbrev pub reading : ℕ → List Entry → Line → Result Cause Refusal
reading content history line = if nat_lt (2 ^ 40) line.upto then Err Form else reading_bytes content history line.bytes

-- a history with the entry of this cause behind it
unfoldable pub after : Settings → List Entry → Cause → List Entry
after settings history cause = history ++ entry_of settings history cause ∷ []

-- a refused line, counted from 1
pub record Refused : Type 0 where
  pub line : ℕ
  pub refusal : Refusal

pub record Outcome : Type 0 where
  pub history : List Entry
  pub refused : Option Refused

abbrev pub on_reading : {A : Type 0} → Result Cause Refusal → (Refusal → A) → (Cause → A) → A
on_reading (Err refusal) f g = f refusal
on_reading (Ok cause) f g = g cause

-- these lines, of which the first has this number, driven behind a history
abbrev pub drive_from : ℕ → Settings → ℕ → List Entry → List Line → Outcome
drive_from content settings k history [] = record { history = history; refused = None }
drive_from content settings k history (line ∷ lines) = on_reading (reading content history line)
    (λ refusal. record { history = history; refused = Some (record { line = k; refusal = refusal }) })
    (λ cause. drive_from content settings (k + 1) (after settings history cause) lines)

abbrev pub drive_of : ℕ → Settings → List ℕ → Outcome
drive_of content settings input = drive_from content settings 1 [] (lines_of input)

-- the history is that of some first lines, of which none is refused
pub record IsRunOf (content : ℕ) (settings : Settings) (all rest : Option (List Line)) (history : List Entry) : Type 0 where
  pub front : List Line
  pub whole : all ≡ option_map (λ lines. front ++ lines) rest
  pub runs : drive_from content settings 1 [] front ≡ record { history = history; refused = None }

-- the first of these lines isn't refused behind the history
abbrev pub TakesFirst : ℕ → List Entry → List Line → Type 0
TakesFirst content history [] = ⊥
TakesFirst content history (line ∷ lines) = (cause : Cause) × (reading content history line ≡ Ok cause)

-- nor is it, but with its entry the causes and outs would be more than 2^63 - 1
abbrev pub PassesFirst : ℕ → Settings → List Entry → List Line → Type 0
PassesFirst content settings history [] = ⊥
PassesFirst content settings history (line ∷ lines) = (cause : Cause) × (reading content history line ≡ Ok cause) × (passes settings history cause ≡ true)

-- the history is that of all lines that end in the bytes which were read of the input, and none of them is refused
pub record IsRunOfRead (content : ℕ) (settings : Settings) (input left : Option (List ℕ)) (history : List Entry) : Type 0 where
  pub read : List ℕ
  pub split : input ≡ prepend_known read left
  pub runs : drive_from content settings 1 [] (ended_lines read) ≡ record { history = history; refused = None }
