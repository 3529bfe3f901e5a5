-- Why a run stops, and what it has done by then.
use Rattle.std.specs.Prelude.{◌≡◌, ℕ, List, [], ◌++◌, length, option_map, IfSome, OnOk, IfErr}
use Rattle.std.specs.Prelude.{Option, Some, None, Result}
use Rattle.std.specs.Io.KnownBytes.{append_known, prepend_known}
use Rattle.mux_history.specs.declared.entry.Entry.{Entry}
use Rattle.mux_hub.specs.Hubs.{HubView, HubStands}
use Rattle.event_model.specs.Settings.{Settings}
use Rattle.drive_program.specs.declared.line.LineStop.{LineStop}
use Rattle.drive_program.specs.declared.line.LineStop.TheVariants as line_stop
use Rattle.drive_program.specs.declared.refusal.Refusal.TheVariants.{Form}
use Rattle.drive_program.specs.declared.step.TakeFault.{TakeFault}
use Rattle.drive_program.specs.declared.step.TakeFault.TheVariants as take_fault
use Rattle.drive_program.specs.declared.stop.Stop.{Stop}
use Rattle.drive_program.specs.declared.stop.Stop.TheVariants as stop
use Rattle.drive_program.specs.Buffers.{BufferView, unused, known_lines}
use Rattle.drive_program.specs.Lines.{Line, lines_of, ended_lines, ended_from}
use Rattle.drive_text.specs.Outs.{outs_text}
use Rattle.drive_program.specs.Runs.{Outcome, drive_from, IsRunOf, IsRunOfRead, PassesFirst, TakesFirst}
use Rattle.program_settings.specs.Lines.{WroteFront}

abbrev pub stop_at : ℕ → LineStop → Stop
stop_at number line_stop.Memory = stop.Memory
stop_at number line_stop.Input = stop.Input
stop_at number line_stop.Passed = stop.Refused number Form

abbrev pub fault_at : ℕ → TakeFault → Stop
fault_at number take_fault.Memory = stop.Memory
fault_at number take_fault.Journal = stop.Journal
fault_at number take_fault.Numbers = stop.Numbers
fault_at number take_fault.Output = stop.Output
fault_at number (take_fault.Refused refusal) = stop.Refused number refusal

-- what was read and used of the input are these lines, each with its line feed
pub record Consumed (input left : Option (List ℕ)) (buffer : BufferView) (front : List Line) : Type 0 where
  pub read : List ℕ
  pub bytes : input ≡ prepend_known read (unused buffer left)
  pub used : buffer.used ≡ length read
  pub lines : (more : List ℕ) → ended_lines (read ++ more) ≡ front ++ ended_from (length read) more

-- where a run goes on: the history is that of the lines before, and its outs are written
pub record Driving {J : Type 0} (told : J → Option (List Entry)) (content : ℕ) (settings : Settings) (input left : Option (List ℕ)) (buffer : BufferView) (taken : ℕ) (written now : Option (List ℕ)) (hub : HubView J) : Type 0 where
  pub history : List Entry
  pub stands : HubStands told hub history
  pub run : IsRunOf content settings (option_map lines_of input) (known_lines buffer left) history
  pub consumed : Consumed input left buffer run.front
  pub count : taken ≡ length run.front
  pub wrote : now ≡ append_known written (outs_text history)

-- driving all lines gives this
abbrev pub Gives : ℕ → Settings → Option (List Line) → Outcome → Type 0
Gives content settings all outcome = IfSome all (λ lines. drive_from content settings 1 [] lines ≡ outcome)

-- what a stop says of the history and of what was written: the journal failed at the entry of a line that isn't refused, or with
-- that entry the causes and outs would be too many;
-- the input failed behind the lines that end in what was read
abbrev pub StopsAt : ℕ → Settings → Option (List ℕ) → Option (List ℕ) → Option (List Line) → Option (List ℕ) → Option (List ℕ) → List Entry → Stop → Type 0
StopsAt content settings input left rest written now history stop.Memory = Unit {0}
StopsAt content settings input left rest written now history stop.Output = Unit {0}
StopsAt content settings input left rest written now history stop.Journal = (now ≡ append_known written (outs_text history)) × IfSome rest (TakesFirst content history)
StopsAt content settings input left rest written now history stop.Numbers = (now ≡ append_known written (outs_text history)) × IfSome rest (PassesFirst content settings history)
StopsAt content settings input left rest written now history stop.Input = (now ≡ append_known written (outs_text history)) × IsRunOfRead content settings input left history
StopsAt content settings input left rest written now history (stop.Refused k r) =
    (now ≡ append_known written (outs_text history)) × Gives content settings (option_map lines_of input) (record { history = history; refused = Some (record { line = k; refusal = r }) })

-- where a run ended
pub record Driven {J : Type 0} (told : J → Option (List Entry)) (content : ℕ) (settings : Settings) (input left : Option (List ℕ)) (written now : Option (List ℕ)) (hub : HubView J) (result : Result (Unit {0}) Stop) : Type 0 where
  pub history : List Entry
  pub stands : HubStands told hub history
  pub rest : Option (List Line)
  pub run : IsRunOf content settings (option_map lines_of input) rest history
  pub wrote : WroteFront written now (outs_text history)
  pub done : OnOk result ((now ≡ append_known written (outs_text history)) × Gives content settings (option_map lines_of input) (record { history = history; refused = None }))
  pub stopped : IfErr result (StopsAt content settings input left rest written now history)
