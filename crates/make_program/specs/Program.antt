-- What a run of `make` did.
use Rattle.std.specs.Prelude.{◌≡◌, ℕ, ◌≤◌, List, [], ◌++◌, length, IfOk, IfErr}
use Rattle.std.specs.Prelude.{Option, Result, Ok, Err}
use Rattle.event_model.specs.Event.{events_of}
use Rattle.event_model.specs.Settings.{Settings}
use Rattle.mux_history.specs.declared.cause.Cause.{Cause}
use Rattle.mux_history.specs.declared.entry.Entry.{Entry}
use Rattle.mux_hub.specs.Entries.{most_events}
use Rattle.mux_hub.specs.Hubs.{Tells}
use Rattle.mux_hub.specs.Sessions.{Sessions}
use Rattle.mux_hub.specs.group_facts.specs.Legal.{Legal}
use Rattle.made_histories.specs.Coming.{AllAwaited}
use Rattle.drive_program.specs.Program.{fault_line, status_of}
use Rattle.drive_program.specs.declared.stop.Stop.{Stop}
use Rattle.program_settings.specs.Lines.{Reported}
use Rattle.make_program.specs.Counts.{counts_of, summary_line}
use Rattle.make_program.specs.Runs.{StopsAt, history_of}
use Rattle.make_program.specs.Shown.{Shown}
use Rattle.make_program.specs.declared.counts.Counts.{Counts}

-- what came of these causes: the history of some first ones is legal, of conforming sessions, of at most 2^63 - 1 causes and outs, and
-- the journal tells it where it tells; these are all causes, and the counts those of the history, unless a stop says why not
pub record Ran {J : Type 0} (told : J → Option (List Entry)) (settings : Settings) (journal : J) (causes : List Cause) (result : Result Counts Stop) : Type 0 where
  pub taken : List Cause
  pub rest : List Cause
  pub all : causes ≡ taken ++ rest
  pub legal : Legal settings (history_of settings taken)
  pub sessions : Sessions settings (history_of settings taken)
  pub few : length (events_of (history_of settings taken)) ≤ most_events
  pub told_by : Tells (told journal) (history_of settings taken)
  pub done : IfOk result (λ counts. (rest ≡ []) × (counts ≡ counts_of (history_of settings taken)))
  pub stopped : IfErr result (StopsAt settings (history_of settings taken) rest)

-- the line of the counts, or that of a stop
abbrev pub Said : Result Counts Stop → Option (List ℕ) → Option (List ℕ) → Type 0 → ℕ → Type 0
Said (Ok counts) before now failed status = Shown (summary_line counts) before now failed status
Said (Err why) before now failed status = Reported status (status_of why) before now (fault_line why) failed

-- a run of `make`
pub record Made {J : Type 0} (told : J → Option (List Entry)) (settings : Settings) (journal : J) (causes : List Cause) (before now : Option (List ℕ)) (failed : Type 0) (status : ℕ) : Type 0 where
  pub result : Result Counts Stop
  pub ran : Ran told settings journal causes result
  pub said : Said result before now failed status

-- nothing outside failed, each program that begins is one that the core asked for, and the causes and outs are not too many
pub record Undisturbed (settings : Settings) (causes : List Cause) (journal_rose output_rose : Type 0) : Type 0 where
  pub journal : journal_rose → ⊥
  pub output : output_rose → ⊥
  pub awaited : AllAwaited settings [] causes
  pub few : length (events_of (history_of settings causes)) ≤ most_events
