-- The facts as the proofs hold them: what the events before tell, what holds at every place, and what only between entries.
use Rattle.std.proofs.Common.{◌≡◌, ℕ, ◌+◌, false, List, Bool, subst, nat_eq}
use Rattle.mux_history.specs.declared.cause.Cause.{Cause}
use Rattle.mux_history.specs.declared.cause.Cause.TheVariants.{Started}
use Rattle.event_model.specs.declared.stage.Stage.{Stage}
use Rattle.event_model.specs.declared.stage.Stage.TheVariants.{Initializing, Ready, Stopping}
use Rattle.event_model.specs.Event.{Event}
use Rattle.event_model.specs.Phases.{desk_of}
use Rattle.event_model.specs.Requests.{next_number, open_of}
use Rattle.event_model.specs.Settings.{Settings}
use Rattle.event_model.specs.Stages.{life_of}
use Rattle.mux_facts.proofs.Editors.{Editors}
use Rattle.mux_facts.proofs.Starts.{Starts}
use Rattle.mux_facts.proofs.Waits.{AllWaiting, Waits, WaitsAt, waits_at}
use Rattle.group_rows.specs.Forwarded.{forwarding_of}
use Rattle.group_rows.specs.StopRows.{stopped}
use Rattle.group_rows.proofs.Versions.{AllMeant}
use Rattle.group_facts.specs.Facts.{AllForwarded, AllHeld, Apart, Asks, Bounded, Housed, Known, Numbered, Opened, Quit, Results, Stopped, Takes, Unbegun, Untold, Written, turned_away}

pub record Base (settings : Settings) (events : List Event) : Type 0 where
  pub opened : Opened settings events
  pub results : Results events
  pub written : Written settings events
  pub meant : AllMeant events

pub record Steady (settings : Settings) (events : List Event) : Type 0 where
  pub starts : Starts events
  pub unbegun : Unbegun settings events
  pub untold : Untold events
  pub bounded : Bounded settings events
  pub editors : Editors events
  pub asked : stopped events ≡ false → AllForwarded settings events
  pub apart : Apart settings events
  pub held : AllHeld settings events
  pub asks : Asks settings events
  pub takes : Takes settings events
  pub housed : Housed settings events

-- the next number of all requests to a start, and of those of editors
abbrev pub TiedAt : Stage → ℕ → ℕ → Type 0
TiedAt Initializing a f = (a ≡ 2) × (f ≡ 2)
TiedAt Ready a f = a ≡ f
TiedAt Stopping a f = a ≡ f + 1
TiedAt other a f = Unit {0}

abbrev pub Tied : Settings → List Event → ℕ → Type 0
Tied settings events s = TiedAt (life_of s events).stage (next_number s events) (forwarding_of settings s events).next

abbrev pub AllTied : Settings → List Event → Type 0
AllTied settings events = (s : ℕ) → Tied settings events s

-- so while a start is ready, and while it is to stop
pub numbered_of : (settings : Settings) (events : List Event) → AllTied settings events → Numbered settings events
numbered_of settings events h s at = subst (λ z. TiedAt z (next_number s events) (forwarding_of settings s events).next) at (h s)

pub stopped_of : (settings : Settings) (events : List Event) → AllTied settings events → Stopped settings events
stopped_of settings events h s at = subst (λ z. TiedAt z (next_number s events) (forwarding_of settings s events).next) at (h s)

-- between entries also the two numbers are tied, each editor that waits has its `initialize` open, and behind a stop none is there
pub record Facts (settings : Settings) (events : List Event) : Type 0 where
  pub base : Base settings events
  pub steady : Steady settings events
  pub tied : AllTied settings events
  pub waiting : AllWaiting events
  pub quit : Quit events

-- inside of an entry that a program begins with, its start is left out
abbrev pub begins_now : Cause → ℕ → Bool
begins_now (Started n) s = nat_eq n s
begins_now other s = false

abbrev pub OthersTied : Settings → Cause → List Event → Type 0
OthersTied settings cause events = (s : ℕ) → begins_now cause s ≡ false → Tied settings events s

-- and an editor that is turned away
abbrev pub OthersWait : Settings → List Event → Cause → List Event → Type 0
OthersWait settings before cause events = (e : ℕ) → turned_away settings before cause e ≡ false → WaitsAt (desk_of e events) (open_of e events)

-- at a place inside of an entry
pub record Mid (settings : Settings) (before : List Event) (cause : Cause) (events : List Event) : Type 0 where
  pub steady : Steady settings events
  pub tied : OthersTied settings cause events
  pub waiting : OthersWait settings before cause events

pub known_of : (settings : Settings) (events : List Event) → Facts settings events → Known settings events
known_of settings events h = record {
  starts = (h.steady).starts;
  editors = (h.steady).editors;
  unbegun = (h.steady).unbegun;
  untold = (h.steady).untold;
  bounded = (h.steady).bounded;
  asked = (h.steady).asked;
  quit = h.quit;
  apart = (h.steady).apart;
  held = (h.steady).held;
  asks = (h.steady).asks;
  takes = (h.steady).takes;
  housed = (h.steady).housed;
  numbered = numbered_of settings events h.tied;
  stopped = stopped_of settings events h.tied;
  waiting = λ e at. let w : Waits (desk_of e events).initialize (open_of e events) = waits_at events e at h.waiting in (w.id, record { params = w.params; phase = at; asks = w.asks; waits = w.waits });
  opened = (h.base).opened;
  results = (h.base).results;
  written = (h.base).written;
  meant = (h.base).meant;
}
