-- What is registered at a start, one event further (S6, S7).
use Rattle.std.proofs.Common.{◌≡◌, ℕ, Bool, true, false, not, ◌&&◌, List, [], ◌∷◌, ◌++◌, refl, ap, sym, subst, ◌∙◌, nat_eq, if◌then◌else◌}
use Rattle.std.specs.Prelude.{Option, Some, None}
use Rattle.json_text.specs.Json.{Json}
use Rattle.lsp_method.specs.Class.{class_of}
use Rattle.lsp_method.specs.declared.variants.Class.{Class}
use Rattle.lsp_method.specs.declared.variants.Class.TheVariants.{Lowest, Register, Unregister}
use Rattle.lsp_method.specs.declared.variants.Origin.TheVariants.{Server}
use Rattle.mux_history.specs.declared.cause.Cause.TheVariants.{FromServer}
use Rattle.rpc_message.specs.Message.{Id, Message, request}
use Rattle.event_model.specs.declared.stage.Stage.{Stage}
use Rattle.event_model.specs.declared.stage.Stage.TheVariants.{Unspawned, Spawning, Initializing, Ready, Stopping, Ending, Ended}
use Rattle.event_model.specs.Event.{Event, took}
use Rattle.event_model.specs.Settings.{Settings}
use Rattle.event_model.specs.Stages.{is_ready, life_of}
use Rattle.event_model.proofs.Frames.{never}
use Rattle.group_words.proofs.Frames.{itself, past_more}
use Rattle.group_laws.specs.group_rows.specs.Asks.{asking_of, is_patient, is_taken, may_wait}
use Rattle.group_laws.specs.group_rows.specs.Live.{changes_live, is_heard, is_registering, live_by, live_next, live_of, taken_back, with_registered, without_these}
use Rattle.group_laws.specs.registrations.specs.declared.registration.Registration.{Registration}
use Rattle.group_laws.specs.registrations.specs.Items.{registered}
use Rattle.restart_replay.specs.Standings.{Standing, moved}
use Rattle.mux_tables.specs.declared.tables.Start.{Start}
use Rattle.mux_tables.specs.Stands.{LiveAt, LiveStay, PartStands, begun_at, is_request, of_live}

pub live_more : (settings : Settings) (s : ℕ) (events : List Event) (ev : Event) → live_of settings s (events ++ ev ∷ []) ≡ live_next settings s events (live_of settings s events) ev
live_more settings s events ev = past_more (live_next settings s) [] [] events ev

pub ready_live : (stage : Stage) (live kept : List Registration) → stage ≡ Ready → LiveAt stage live kept → kept ≡ live
ready_live stage live kept is s = subst (λ k. LiveAt k live kept) is s

-- the event leaves it
pub live_by_stay : (settings : Settings) (limit : ℕ) (x : Start) (events : List Event) (ev : Event) → LiveStay settings x.life.start events ev → PartStands of_live settings limit x events → PartStands of_live settings limit x (events ++ ev ∷ [])
live_by_stay settings limit x events ev same h = subst (λ rs. LiveAt x.life.stage rs x.live) (sym (live_more settings x.life.start events ev ∙ same)) h

-- where a start goes on
pub begun_live : (g : Stage) (l : Standing) (rs : ℕ → List Registration) (kept : List Registration) → l.stage ≡ g → LiveAt l.stage (rs l.start) kept → LiveAt (begun_at g l).stage (rs (begun_at g l).start) kept
begun_live Spawning l rs kept h s = subst (λ k. LiveAt k (rs l.start) kept) h s
begun_live Unspawned l rs kept h s = s
begun_live Initializing l rs kept h s = s
begun_live Ready l rs kept h s = s
begun_live Stopping l rs kept h s = s
begun_live Ending l rs kept h s = s
begun_live Ended l rs kept h s = s

pub first_live : (g : Stage) (life l : Standing) (rs kept : List Registration) → life ≡ moved Ready l → g ≡ Initializing → LiveAt g rs kept → LiveAt life.stage rs kept
first_live g life l rs kept is stage s =
    let none : (rs ≡ []) × (kept ≡ []) = subst (λ k. LiveAt k rs kept) stage s in
    subst (λ (w : Standing). LiveAt w.stage rs kept) (sym is) (none.1 ∙ sym none.0)

-- a body of the start, by whether it counts
abbrev pub live_if : Bool → Class → List ℕ → List Registration → List Registration
live_if b c body live = if b then live_by c body live else live

same_live : (b : Bool) (live now : List Registration) → now ≡ live → (if b then now else live) ≡ live
same_live true live now e = e
same_live false live now e = refl

-- a class by which nothing is registered or taken back
by_none : (c : Class) (body : List ℕ) (live : List Registration) → changes_live c ≡ false → live_by c body live ≡ live
by_none Register body live h = never h
by_none Unregister body live h = never h
by_none _ body live h = refl

-- what may wait registers nothing
patient_none : (c : Class) → may_wait c ≡ true → changes_live c ≡ false
patient_none Lowest h = refl
patient_none _ h = never (sym h)

pub patient_quiet : (method : List ℕ) → is_patient method ≡ true → is_registering method ≡ false
patient_quiet method h = patient_none (class_of method Server false) h

-- a body that is no request
pub silent_live : (settings : Settings) (s n : ℕ) (events : List Event) (live : List Registration) (body : List ℕ) (m : Message) → is_request m ≡ false → live_next settings s events live (took (FromServer n body) m) ≡ live
silent_live settings s n events live body (request id method ps) h = never h
silent_live settings s n events live body other h = refl

pub silent_stay : (settings : Settings) (s n : ℕ) (events : List Event) (body : List ℕ) (m : Message) → is_request m ≡ false → LiveStay settings s events (took (FromServer n body) m)
silent_stay settings s n events body m h = silent_live settings s n events (live_of settings s events) body m h

-- by what a request changes nothing of what is registered
module _ (settings : Settings) (s n : ℕ) (events : List Event) (body method : List ℕ) (m : Message) (id : Id) (params : Option Json) (says : m ≡ request id method params) where
  abbrev live : List Registration
  live = live_of settings s events

  abbrev class : Class
  class = class_of method Server false

  by_class : live_by class body live ≡ live → LiveStay settings s events (took (FromServer n body) m)
  by_class same = ap (λ k. live_next settings s events live (took (FromServer n body) k)) says ∙ same_live (nat_eq n s && is_heard settings s events id) live (live_by class body live) same

  by_hearing : is_heard settings s events id ≡ false → LiveStay settings s events (took (FromServer n body) m)
  by_hearing off = ap (λ k. live_next settings s events live (took (FromServer n body) k)) says ∙ (ap (λ b. if nat_eq n s && b then live_by class body live else live) off ∙ go (nat_eq n s))
    where
      go : (b : Bool) → (if b && false then live_by class body live else live) ≡ live
      go true = refl
      go false = refl

  -- its class is another
  pub other_live : is_registering method ≡ false → LiveStay settings s events (took (FromServer n body) m)
  other_live h = by_class (by_none class body live h)

  -- its start isn't ready
  pub unready_live : is_ready (life_of s events).stage ≡ false → LiveStay settings s events (took (FromServer n body) m)
  unready_live h = by_hearing (ap (λ b. b && not (is_taken (Some id) (asking_of settings s events))) h)

  -- its id is taken
  pub taken_live : is_taken (Some id) (asking_of settings s events) ≡ true → LiveStay settings s events (took (FromServer n body) m)
  taken_live h = by_hearing (ap (λ b. is_ready (life_of s events).stage && not b) h ∙ off (is_ready (life_of s events).stage))
    where
      off : (a : Bool) → (a && false) ≡ false
      off true = refl
      off false = refl

  -- it registers nothing
  pub unregistered_live : class ≡ Register → registered body ≡ None → LiveStay settings s events (took (FromServer n body) m)
  unregistered_live c none = by_class (ap (λ k. live_by k body live) c ∙ ap (λ o. with_registered o live) none)

  -- it takes nothing back
  pub kept_live : class ≡ Unregister → taken_back body live ≡ None → LiveStay settings s events (took (FromServer n body) m)
  kept_live c none = by_class (ap (λ k. live_by k body live) c ∙ ap (λ o. without_these o live) none)

  -- it is heard
  module _ (mine : n ≡ s) (ready : (life_of s events).stage ≡ Ready) (untaken : is_taken (Some id) (asking_of settings s events) ≡ false) where
    pub heard_live : live_of settings s (events ++ took (FromServer n body) m ∷ []) ≡ live_by class body live
    heard_live = live_more settings s events (took (FromServer n body) m) ∙ (ap (λ k. live_next settings s events live (took (FromServer n body) k)) says
        ∙ (ap (λ k. if nat_eq k s && is_heard settings s events id then live_by class body live else live) mine
        ∙ (ap (λ b. if b && is_heard settings s events id then live_by class body live else live) (itself s)
        ∙ (ap (λ k. if is_ready k && not (is_taken (Some id) (asking_of settings s events)) then live_by class body live else live) ready
        ∙ ap (λ b. if not b then live_by class body live else live) untaken))))
