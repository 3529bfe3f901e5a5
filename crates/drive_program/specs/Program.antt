-- What the program answers and writes.
use Rattle.std.specs.Prelude.{◌≡◌, ℕ, ◌≤◌, List, [], ◌∷◌, ◌++◌, codes, decimal, length, IfSome, OnOk, IfErr, take, nat_eq, option_map, if◌then◌else◌}
use Rattle.std.specs.Prelude.{Option, Some, None, Result, ◌⊎◌}
use Rattle.std.specs.Io.KnownBytes.{append_known}
use Rattle.mux_history.specs.declared.entry.Entry.{Entry}
use Rattle.mux_hub.specs.Entries.{most_events}
use Rattle.mux_hub.specs.Hubs.{Tells}
use Rattle.mux_hub.specs.Sessions.{Sessions}
use Rattle.event_model.specs.Event.{events_of}
use Rattle.event_model.specs.Settings.{Settings}
use Rattle.mux_hub.specs.group_facts.specs.Legal.{Legal}
use Rattle.outside_io.specs.Faults.{Rose}
use Rattle.drive_program.specs.declared.refusal.Refusal.{Refusal}
use Rattle.drive_program.specs.declared.refusal.Refusal.TheVariants.{Form, Absent}
use Rattle.drive_program.specs.declared.stop.Stop.{Stop}
use Rattle.drive_program.specs.declared.stop.Stop.TheVariants as stop
use Rattle.drive_program.specs.Lines.{Line, lines_of}
use Rattle.drive_text.specs.Outs.{outs_text}
use Rattle.program_settings.specs.Lines.{Wrote, WroteFront}
use Rattle.drive_program.specs.Stops.{Gives, StopsAt}
use Rattle.drive_program.specs.Runs.{Refused, drive_of, IsRunOf, IsRunOfRead, PassesFirst, TakesFirst}

abbrev pub status_of : Stop → ℕ
status_of (stop.Refused k r) = 1
status_of stop.Memory = 5
status_of stop.Journal = 6
status_of stop.Input = 7
status_of stop.Output = 8
status_of stop.Numbers = 9

abbrev pub refusal_word : Refusal → List ℕ
refusal_word Form = codes "form"
refusal_word Absent = codes "absent"

-- the line about a refused line
abbrev pub refused_line : Refused → List ℕ
refused_line at = (codes "!line " ++ (decimal at.line ++ (codes " " ++ refusal_word at.refusal))) ++ 10 ∷ []

abbrev pub journal_line : List ℕ
journal_line = codes "!journal" ++ 10 ∷ []

abbrev pub input_line : List ℕ
input_line = codes "!input" ++ 10 ∷ []

abbrev pub numbers_line : List ℕ
numbers_line = codes "!numbers" ++ 10 ∷ []

-- the fault line of a stop
abbrev pub fault_line : Stop → List ℕ
fault_line (stop.Refused k r) = refused_line (record { line = k; refusal = r })
fault_line stop.Memory = []
fault_line stop.Journal = journal_line
fault_line stop.Input = input_line
fault_line stop.Output = []
fault_line stop.Numbers = numbers_line

-- the fault line of a status from 5 on
abbrev pub status_line : ℕ → List ℕ
status_line status = if nat_eq status 6 then journal_line else (if nat_eq status 7 then input_line else (if nat_eq status 9 then numbers_line else []))

-- where a run ended, without its hub
pub record Ran {J : Type 0} (told : J → Option (List Entry)) (content : ℕ) (settings : Settings) (journal : J) (input left : Option (List ℕ)) (written now : Option (List ℕ)) (result : Result (Unit {0}) Stop) : Type 0 where
  pub history : List Entry
  pub legal : Legal settings history
  pub sessions : Sessions settings history
  pub few : length (events_of history) ≤ most_events
  pub told_by : Tells (told journal) history
  pub rest : Option (List Line)
  pub run : IsRunOf content settings (option_map lines_of input) rest history
  pub wrote : WroteFront written now (outs_text history)
  pub done : OnOk result ((now ≡ append_known written (outs_text history)) × Gives content settings (option_map lines_of input) (record { history = history; refused = None }))
  pub stopped : IfErr result (StopsAt content settings input left rest written now history)

-- status 0: no line is refused, the history is that of all lines, and all outs were written
pub record Finished (content : ℕ) (settings : Settings) (input before now : Option (List ℕ)) (history : List Entry) : Type 0 where
  pub gives : IfSome input (λ bytes. drive_of content settings bytes ≡ record { history = history; refused = None })
  pub wrote : now ≡ append_known before (outs_text history)

-- status 1: this line is the first that is refused, the history is that of the lines before it, and their outs and the
-- fault line were written, or but a front of the fault line where the output failed
pub record RefusedAt (content : ℕ) (settings : Settings) (input before now : Option (List ℕ)) (failed : Type 0) (history : List Entry) : Type 0 where
  pub at : Refused
  pub gives : IfSome input (λ bytes. drive_of content settings bytes ≡ record { history = history; refused = Some at })
  pub count : ℕ
  pub front : now ≡ append_known before (outs_text history ++ take count (refused_line at))
  pub whole : (now ≡ append_known before (outs_text history ++ refused_line at)) ⊎ failed

-- status 5 to 9: the history is that of some first lines, and a front of their outs and the fault line was written
pub record CutOff (content : ℕ) (settings : Settings) (input left before now : Option (List ℕ)) (failed : Type 0) (status : ℕ) (history : List Entry) : Type 0 where
  pub rest : Option (List Line)
  pub run : IsRunOf content settings (option_map lines_of input) rest history
  pub wrote : WroteFront before now (outs_text history ++ status_line status)
  -- status 6, 7 and 9: all of it, unless the output failed
  pub whole : (status ≡ 6) ⊎ (status ≡ 7) ⊎ (status ≡ 9) → (now ≡ append_known before (outs_text history ++ status_line status)) ⊎ failed
  -- status 6: the next line isn't refused; its entry was not appended
  pub journal_failed : status ≡ 6 → IfSome rest (TakesFirst content history)
  -- status 7: the lines are all that end in what was read
  pub input_failed : status ≡ 7 → IsRunOfRead content settings input left history
  -- status 9: the next line isn't refused; with its entry the causes and outs would be more than 2^63 - 1
  pub too_many : status ≡ 9 → IfSome rest (PassesFirst content settings history)

-- a run of the program: there is a legal history of conforming sessions, of at most 2^63 - 1 causes and outs, which the journal tells
-- where it tells
pub record Drove {J : Type 0} (told : J → Option (List Entry)) (content : ℕ) (settings : Settings) (journal : J) (input left before now : Option (List ℕ)) (failed : Type 0) (status : ℕ) : Type 0 where
  pub history : List Entry
  pub legal : Legal settings history
  pub sessions : Sessions settings history
  pub few : length (events_of history) ≤ most_events
  pub told_by : Tells (told journal) history
  pub finished : status ≡ 0 → Finished content settings input before now history
  pub refused : status ≡ 1 → RefusedAt content settings input before now failed history
  pub cut_off : 5 ≤ status → CutOff content settings input left before now failed status history

-- the statuses
abbrev pub IsStatus : ℕ → Type 0
IsStatus status = (status ≡ 0) ⊎ (status ≡ 1) ⊎ (status ≡ 5) ⊎ (status ≡ 6) ⊎ (status ≡ 7) ⊎ (status ≡ 8) ⊎ (status ≡ 9)

-- the input is told, and none of its lines is refused
abbrev pub IsUnrefused : ℕ → Settings → Option (List ℕ) → Type 0
IsUnrefused content settings None = ⊥
IsUnrefused content settings (Some bytes) = (drive_of content settings bytes).refused ≡ None

-- the input is told, and the causes and outs of its lines are at most 2^63 - 1
abbrev pub IsCounted : ℕ → Settings → Option (List ℕ) → Type 0
IsCounted content settings None = ⊥
IsCounted content settings (Some bytes) = length (events_of (drive_of content settings bytes).history) ≤ most_events

-- nothing outside failed, no line is refused, and the causes and outs are not too many
pub record Undisturbed (content : ℕ) (settings : Settings) (told : Option (List ℕ)) (journal_rose input_rose output_rose : Type 0) : Type 0 where
  pub journal : journal_rose → ⊥
  pub input : input_rose → ⊥
  pub output : output_rose → ⊥
  pub lines : IsUnrefused content settings told
  pub few : IsCounted content settings told
