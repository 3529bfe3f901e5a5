-- What lanes did, under the names that the settings have.
use Rattle.std.proofs.Common.{◌≡◌, ◌⊎◌, inl, inr, ⊎_elim, ℕ, true, false, List, refl, sym, ap, subst, subst₂, ◌∙◌, Some, None}
use Rattle.std.specs.Prelude.{Option, Result, Ok, Err}
use Rattle.outside_io.specs.Doors.{Call, PortTold}
use Rattle.outside_io.specs.Faults.{Rose}
use Rattle.outside_io.specs.Sessions.{Session}
use Rattle.mux_history.specs.declared.entry.Entry.{Entry}
use Rattle.mux_config.specs.declared.config.Config.{Config}
use Rattle.mux_daemon.specs.declared.open.Lanes.{Lanes}
use Rattle.mux_daemon.specs.declared.serve.Answer.{Answer}
use Rattle.mux_daemon.specs.declared.serve.Answer.TheVariants as answer
use Rattle.mux_daemon.specs.Served.{history}
use Rattle.mux_service.specs.Ends.{HasNumbers, PassesMost}
use Rattle.mux_service.specs.Services.{LanesServed}
use Rattle.settled_hub.specs.Settings.{hub_settings}
use Rattle.serve_program.specs.Daemons.{CameOfPorts, CameOfSettings, LanesOf, PortsHaveNumbers, PortsServed, Undisturbed, never, ran}
use Rattle.serve_program.specs.Faults.{ended_status, result_of}
use Rattle.serve_program.specs.declared.fault.ServeFault.{ServeFault}
use Rattle.serve_program.specs.declared.fault.ServeFault.TheVariants as fault

-- a daemon that ended by the journal answered so
journal_answer : (x : Answer) → result_of x ≡ Err fault.Journal → x ≡ answer.Journal
journal_answer answer.Stopped e = cc
journal_answer answer.PortsClosed e = cc
journal_answer answer.Memory e = cc
journal_answer answer.Journal e = refl
journal_answer answer.Numbers e = cc

-- a cause that is one too many, where there is none
no_cause : (settings : _) (entries : List Entry) → HasNumbers settings entries → PassesMost settings entries → ⊥
no_cause settings entries none p = let f : true ≡ false = sym p.too_many ∙ none p.cause p.can_come in cc

-- an answer that neither the journal nor the numbers gave
complete_of : (x : Answer) (result : Result (Unit {0}) ServeFault) → result ≡ result_of x → (x ≡ answer.Journal → ⊥) → (x ≡ answer.Numbers → ⊥) → (result ≡ Ok tt) ⊎ (result ≡ Err fault.Memory)
complete_of answer.Stopped result is j n = inl is
complete_of answer.PortsClosed result is j n = inl is
complete_of answer.Memory result is j n = inr is
complete_of answer.Journal result is j n = absurd (j refl)
complete_of answer.Numbers result is j n = absurd (n refl)

module _ {J P B C : Type 0} (told : J → Option (List Entry)) (faults_of : J → ℕ) (links_back links : P → Option (List Session)) (runs left : B → Option (List Session)) (misses : B → ℕ) (given moments : C → Option (List ℕ)) where
  pub ports_served : (config : Config) (journal now : J) (ports : List P) (berths : List B) (clock : C) (old new : Lanes P B C) (x : Answer) (result : Result (Unit {0}) ServeFault) (content before : ℕ) (settings : _)
      → LanesOf ports berths clock old → content ≡ config.content → settings ≡ hub_settings config
      → LanesServed told links_back links runs left misses given moments content settings now old new x
      → result ≡ result_of x → (x ≡ answer.Journal → Rose before (faults_of now)) → before ≡ faults_of journal
      → PortsServed told faults_of links_back links runs left misses given moments config journal now ports berths clock new result
  ports_served config journal now ports berths clock old new x result content before settings of c s served is rose same =
      let did : LanesServed told links_back links runs left misses given moments config.content (hub_settings config) now old new x = subst₂ (λ n q. LanesServed told links_back links runs left misses given moments n q now old new x) c s served in
      let risen : x ≡ answer.Journal → Rose (faults_of journal) (faults_of now) = λ e. subst (λ n. Rose n (faults_of now)) same (rose e) in record {
        old = old;
        of = of;
        answer = x;
        served = did;
        is = is;
        journal_rose = λ e. risen (journal_answer x (sym is ∙ e));
        complete = λ calm few. complete_of x result is (λ e. calm (risen e)) (λ e. no_cause (hub_settings config) (history did.story) few (did.numbers e));
      }

-- served to its end, or without memory
ended_at : (result : Result (Unit {0}) ServeFault) → (result ≡ Ok tt) ⊎ (result ≡ Err fault.Memory) → (ended_status result ≡ 0) ⊎ (ended_status result ≡ 5)
ended_at result c = ⊎_elim (λ (e : result ≡ Ok tt). inl (ap ended_status e)) (λ (e : result ≡ Err fault.Memory). inr (ap ended_status e)) c

module _ {D J P B C : Type 0} (calls : D → Option (List Call)) (ports_left : D → Option (List PortTold)) (refusals : D → ℕ) (told : J → Option (List Entry)) (faults_of : J → ℕ) (links_back links : P → Option (List Session)) (faults : P → ℕ) (runs left : B → Option (List Session)) (misses : B → ℕ) (given moments : C → Option (List ℕ)) where
  ports_end : (config : Config) (journal now : J) (ports : List P) (berths : List B) (clock : C) (lanes : Option (Lanes P B C)) (result : Result (Unit {0}) ServeFault) (came : CameOfPorts told faults_of links_back links runs left misses given moments config journal now ports berths clock lanes result)
      → (Rose (faults_of journal) (faults_of now) → ⊥) → PortsHaveNumbers told faults_of links_back links runs left misses given moments config journal now ports berths clock lanes result came → (result ≡ Ok tt) ⊎ (result ≡ Err fault.Memory)
  ports_end config journal now ports berths clock (Some new) result came calm few = came.complete calm few
  ports_end config journal now ports berths clock None result came calm few = inr came.0

  settings_end : (config : Config) (door door' : D) (journal now : J) (berths : List B) (clock : C) (lanes : Option (Lanes P B C)) (result : Result (Unit {0}) ServeFault) (came : CameOfSettings calls ports_left refusals told faults_of links_back links faults runs left misses given moments config door door' journal now berths clock lanes result)
      → Undisturbed calls ports_left refusals told faults_of links_back links faults runs left misses given moments config door door' journal now berths clock lanes result came → (result ≡ Ok tt) ⊎ (result ≡ Err fault.Memory)
  settings_end config door door' journal now berths clock lanes result (ran o) u = ports_end config journal now o.ports berths clock lanes result o.came u.journal_calm u.few
  settings_end config door door' journal now berths clock lanes result (never why is unopened) u =
      ⊎_elim (λ (e : why ≡ fault.Memory). inr (is ∙ ap (λ w. Err w) e)) (λ (e : (why ≡ fault.Door) × Rose (refusals door) (refusals door')). absurd (u.door_calm e.1)) unopened.cause

  -- the status of a daemon whose door and journal were calm, and whose history has numbers left
  pub complete_end : (config : Config) (door door' : D) (journal now : J) (berths : List B) (clock : C) (lanes : Option (Lanes P B C)) (result : Result (Unit {0}) ServeFault) (came : CameOfSettings calls ports_left refusals told faults_of links_back links faults runs left misses given moments config door door' journal now berths clock lanes result)
      → Undisturbed calls ports_left refusals told faults_of links_back links faults runs left misses given moments config door door' journal now berths clock lanes result came → (ended_status result ≡ 0) ⊎ (ended_status result ≡ 5)
  complete_end config door door' journal now berths clock lanes result came u = ended_at result (settings_end config door door' journal now berths clock lanes result came u)
