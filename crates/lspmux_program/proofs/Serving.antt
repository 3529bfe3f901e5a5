-- The status of a daemon whose door and journal were calm, and whose history has numbers left.
use Rattle.std.proofs.Common.{◌≡◌, ◌⊎◌, inl, inr, ⊎_elim, ℕ, Bool, true, false, List, ◌∙◌}
use Rattle.std.specs.Prelude.{MatchBool, Option, Result}
use Rattle.outside_io.specs.Doors.{Call, PortTold}
use Rattle.outside_io.specs.Sessions.{Session}
use Rattle.mux_history.specs.declared.entry.Entry.{Entry}
use Rattle.mux_config.specs.declared.config.Config.{Config}
use Rattle.mux_daemon.specs.declared.open.Lanes.{Lanes}
use Rattle.program_settings.specs.Lines.{Reported, said, unsaid}
use Rattle.serve_program.proofs.Serving.{complete_end}
use Rattle.serve_program.specs.Daemons.{CameOfSettings, Undisturbed}
use Rattle.serve_program.specs.Faults.{ended_status}
use Rattle.serve_program.specs.declared.fault.ServeFault.{ServeFault}

-- a status that is 0 or 5, reported or not
reported_end : (status told : ℕ) (before now : Option (List ℕ)) (line : List ℕ) (failed : Type 0) → Reported status told before now line failed → (told ≡ 0) ⊎ (told ≡ 5) → (status ≡ 0) ⊎ (status ≡ 5)
reported_end status told before now line failed (said is wrote) c = ⊎_elim (λ (e : told ≡ 0). inl (is ∙ e)) (λ (e : told ≡ 5). inr (is ∙ e)) c
reported_end status told before now line failed (unsaid is same) c = inr is

streams_end : {O : Type 0} (streams : Bool) (status told : ℕ) (output now : O) (written : O → Option (List ℕ)) (line : List ℕ) (failed : Type 0)
    → MatchBool streams ((status ≡ told) × (now ≡ output)) (Reported status told (written output) (written now) line failed) → (told ≡ 0) ⊎ (told ≡ 5) → (status ≡ 0) ⊎ (status ≡ 5)
streams_end true status told output now written line failed says c = ⊎_elim (λ (e : told ≡ 0). inl (says.0 ∙ e)) (λ (e : told ≡ 5). inr (says.0 ∙ e)) c
streams_end false status told output now written line failed says c = reported_end status told (written output) (written now) line failed says c

module _ {D J P B C O : Type 0} (calls : D → Option (List Call)) (ports_left : D → Option (List PortTold)) (refusals : D → ℕ) (told : J → Option (List Entry)) (faults_of : J → ℕ) (links_back links : P → Option (List Session)) (faults : P → ℕ) (runs left : B → Option (List Session)) (misses : B → ℕ) (given moments : C → Option (List ℕ)) where
  pub served_end : (written : O → Option (List ℕ)) (streams : Bool) (status : ℕ) (output output' : O) (line : List ℕ) (failed : Type 0)
      (config : Config) (door door' : D) (journal now : J) (berths : List B) (clock : C) (lanes : Option (Lanes P B C)) (ended : Result (Unit {0}) ServeFault)
      (came : CameOfSettings calls ports_left refusals told faults_of links_back links faults runs left misses given moments config door door' journal now berths clock lanes ended)
      → MatchBool streams ((status ≡ ended_status ended) × (output' ≡ output)) (Reported status (ended_status ended) (written output) (written output') line failed)
      → Undisturbed calls ports_left refusals told faults_of links_back links faults runs left misses given moments config door door' journal now berths clock lanes ended came → (status ≡ 0) ⊎ (status ≡ 5)
  served_end written streams status output output' line failed config door door' journal now berths clock lanes ended came says u =
      streams_end streams status (ended_status ended) output output' written line failed says
      (complete_end calls ports_left refusals told faults_of links_back links faults runs left misses given moments config door door' journal now berths clock lanes ended came u)
