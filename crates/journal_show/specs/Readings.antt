-- How a journal is read: its lines one by one, each in a form that is allowed at its place.
use Rattle.std.specs.Prelude.{ℕ, ◌+◌, Bool, true, false, List, [], ◌∷◌, ◌++◌, nat_eq, bytes_eq, option_map, if◌then◌else◌}
use Rattle.std.specs.Prelude.{Option, Some, None}
use Rattle.mux_history.specs.declared.entry.Entry.{Entry}
use Rattle.drive_text.specs.Causes.{cause_of}
use Rattle.drive_text.specs.OutForms.{out_of}

-- the entries that end with a point, and one that is begun behind them
pub record ReadingView : Type 0 where
  pub entries : List Entry
  pub begun : Option Entry

-- a cause's line begins an entry
abbrev pub at_start : List Entry → List ℕ → Option ReadingView
at_start entries line = option_map (λ cause. record { entries = entries; begun = Some (record { cause = cause; outs = [] }) }) (cause_of line)

-- in an entry a point ends it, and an out's line goes on
abbrev pub in_entry : List Entry → Entry → List ℕ → Option ReadingView
in_entry entries entry line =
    if bytes_eq line (46 ∷ []) then Some (record { entries = entries ++ entry ∷ []; begun = None })
    else option_map (λ out. record { entries = entries; begun = Some (record { cause = entry.cause; outs = entry.outs ++ out ∷ [] }) }) (out_of line)

abbrev pub after_at : Option Entry → List Entry → List ℕ → Option ReadingView
after_at None entries line = at_start entries line
after_at (Some entry) entries line = in_entry entries entry line

-- the reading behind one more line, if the line is allowed there
abbrev pub after_line : ReadingView → List ℕ → Option ReadingView
after_line reading line = after_at reading.begun reading.entries line

-- what a journal says: its entries, and whether it is torn; or its first line that isn't allowed, counted from 1
pub data Told : Type 0 where
  told : List Entry → Bool → Told
  bad_line : ℕ → Told

abbrev pub is_filled : List ℕ → Bool
is_filled [] = false
is_filled (b ∷ text) = true

-- an entry is begun, or a line of one
abbrev pub is_torn : Option Entry → List ℕ → Bool
is_torn (Some entry) front = true
is_torn None front = is_filled front

abbrev pub on_line : ℕ → Option ReadingView → (ReadingView → Told) → Told
on_line number None go = bad_line (number + 1)
on_line number (Some reading) go = go reading

-- behind so many lines, and the front of a line
abbrev pub read_from : ℕ → ReadingView → List ℕ → List ℕ → Told
read_from number reading front [] = told reading.entries (is_torn reading.begun front)
read_from number reading front (b ∷ bytes) =
    if nat_eq b 10 then on_line number (after_line reading front) (λ reading. read_from (number + 1) reading [] bytes)
    else read_from number reading (front ++ b ∷ []) bytes

abbrev pub nothing : ReadingView
nothing = record { entries = []; begun = None }

abbrev pub read_text : List ℕ → Told
read_text bytes = read_from 0 nothing [] bytes
