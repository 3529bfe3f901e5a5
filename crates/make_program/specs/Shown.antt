-- What is written to the output, and the status of it.
use Rattle.std.specs.Prelude.{◌≡◌, ℕ, List, [], ◌∷◌, ◌++◌, flat_map, Option, Result, Ok, Err}
use Rattle.std.specs.Io.KnownBytes.{append_known}
use Rattle.mux_history.specs.declared.cause.Cause.{Cause}
use Rattle.drive_text.specs.Spellings.{spelled}
use Rattle.drive_program.specs.Program.{fault_line, status_of}
use Rattle.drive_program.specs.declared.stop.Stop.{Stop}
use Rattle.drive_program.specs.declared.stop.Stop.TheVariants as stop
use Rattle.program_settings.specs.Lines.{Reported, WroteFront}

-- the line of a cause, with its line feed
abbrev pub cause_text : Cause → List ℕ
cause_text cause = spelled cause ++ 10 ∷ []

abbrev pub causes_text : List Cause → List ℕ
causes_text causes = flat_map cause_text causes

-- the text was written, or a front of it where memory was wanted or the output failed
abbrev pub Shows : List ℕ → Option (List ℕ) → Option (List ℕ) → Result (Unit {0}) Stop → Type 0
Shows text before now (Ok done) = now ≡ append_known before text
Shows text before now (Err stop.Memory) = WroteFront before now text
Shows text before now (Err stop.Output) = WroteFront before now text
Shows text before now (Err stop.Journal) = ⊥
Shows text before now (Err stop.Numbers) = ⊥
Shows text before now (Err stop.Input) = ⊥
Shows text before now (Err (stop.Refused k r)) = ⊥

abbrev pub ended_status : Result (Unit {0}) Stop → ℕ
ended_status (Ok done) = 0
ended_status (Err why) = status_of why

-- the fault line; none where all was done
abbrev pub ended_line : Result (Unit {0}) Stop → List ℕ
ended_line (Ok done) = []
ended_line (Err why) = fault_line why

-- a text was written, with the status and the fault line of that; 8 comes only where the output failed
pub record Shown (text : List ℕ) (before now : Option (List ℕ)) (failed : Type 0) (status : ℕ) : Type 0 where
  pub shown : Option (List ℕ)
  pub ended : Result (Unit {0}) Stop
  pub shows : Shows text before shown ended
  pub output : ended ≡ Err stop.Output → failed
  pub says : Reported status (ended_status ended) shown now (ended_line ended) failed
