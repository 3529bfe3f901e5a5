-- A stop, one event further, and what holds while an editor is there.
use Rattle.std.proofs.Common.{◌≡◌, ℕ, Bool, true, false, not, ◌&&◌, ◌||◌, bytes_eq, codes, List, [], ◌∷◌, ◌++◌, if◌then◌else◌, ◌⊎◌, inl, inr, refl, sym, ◌∙◌, ap}
use Rattle.mux_history.specs.declared.cause.Cause.TheVariants.{FromEditor}
use Rattle.mux_history.specs.declared.out.Out.{Out}
use Rattle.mux_history.specs.declared.out.Out.TheVariants.{ToEditor, ToServer, Spawn, CloseEditor, EndServer}
use Rattle.event_model.specs.Event.{Event, heard, requests, said, took, with_cause}
use Rattle.event_model.specs.Phases.{desk_of, is_begun, is_there, makes_running}
use Rattle.event_model.proofs.Frames.{never}
use Rattle.event_model.specs.Settings.{Settings}
use Rattle.rpc_message.specs.Message.{Message, request, notification, result, error, not_json, not_message, message_of}
use Rattle.group_words.specs.Houses.{is_doubled, stops}
use Rattle.group_words.proofs.Frames.{past_more}
use Rattle.group_rows.specs.StopRows.{stopped, stopped_next}
use Rattle.group_facts.specs.Facts.{AllForwarded, Quit}

pub stopped_more : (events : List Event) (event : Event) → stopped (events ++ event ∷ []) ≡ stopped_next events (stopped events) event
stopped_more events event = past_more stopped_next [] false events event

was_on : (b c : Bool) → (if b then true else c) ≡ false → c ≡ false
was_on true c h = never h
was_on false c h = h

still_off : (b c : Bool) → c ≡ true → (if b then true else c) ≡ true
still_off true c h = refl
still_off false c h = h

next_back : (events : List Event) (event : Event) → stopped_next events (stopped events) event ≡ false → stopped events ≡ false
next_back events (took (FromEditor e body) m) h = was_on (stops events e m) (stopped events) h
next_back events other h = h

next_on : (events : List Event) (event : Event) → stopped events ≡ true → stopped_next events (stopped events) event ≡ true
next_on events (took (FromEditor e body) m) h = still_off (stops events e m) (stopped events) h
next_on events other h = h

-- what isn't stopped wasn't before
pub stopped_back : (events : List Event) (event : Event) → stopped (events ++ event ∷ []) ≡ false → stopped events ≡ false
stopped_back events event h = next_back events event (sym (stopped_more events event) ∙ h)

-- and what is stopped stays so
pub stopped_on : (events : List Event) (event : Event) → stopped events ≡ true → stopped (events ++ event ∷ []) ≡ true
stopped_on events event h = stopped_more events event ∙ next_on events event h

-- an out leaves it
pub stopped_did : (events : List Event) (out : Out) → stopped (events ++ said out ∷ []) ≡ stopped events
stopped_did events (ToEditor e body) = stopped_more events (said (ToEditor e body))
stopped_did events (ToServer s body) = stopped_more events (said (ToServer s body))
stopped_did events (Spawn s g) = stopped_more events (said (Spawn s g))
stopped_did events (CloseEditor e) = stopped_more events (said (CloseEditor e))
stopped_did events (EndServer s) = stopped_more events (said (EndServer s))

-- behind the message that stops all
pub stopped_now : (events : List Event) (e : ℕ) (body : List ℕ) → stops events e (message_of body) ≡ true → stopped (with_cause events (FromEditor e body)) ≡ true
stopped_now events e body stop = stopped_more events (heard (FromEditor e body)) ∙ ap (λ b. if b then true else stopped events) stop

pub one_of : (a b : Bool) → (a || b) ≡ true → (a ≡ true) ⊎ (b ≡ true)
one_of true b h = inl refl
one_of false b h = inr h

-- while an editor is there nothing is stopped
pub not_stopped : (events : List Event) → Quit events → (e : ℕ) → is_there (desk_of e events).phase ≡ true → stopped events ≡ false
not_stopped events quit e there = go (stopped events) refl
  where
    go : (b : Bool) → stopped events ≡ b → b ≡ false
    go true over = never (sym there ∙ quit over e)
    go false on = refl

pub asked_while : (settings : Settings) (events : List Event) → (stopped events ≡ false → AllForwarded settings events) → Quit events → (e : ℕ) → is_there (desk_of e events).phase ≡ true → AllForwarded settings events
asked_while settings events asked quit e there = asked (not_stopped events quit e there)

-- what stops all makes none run
pub running_stops : (m : Message) → makes_running m ≡ true → requests (codes "lspmux/stop") m ≡ false
running_stops (request id method params) h = go (bytes_eq (codes "shutdown") method) (bytes_eq (codes "lspmux/open") method) (bytes_eq (codes "lspmux/status") method) (bytes_eq (codes "lspmux/stop") method) h
  where
    go : (a b c d : Bool) → not (a || (b || (c || d))) ≡ true → d ≡ false
    go false false false false h = refl
    go false false false true h = never (sym h)
    go false false true d h = never (sym h)
    go false true c d h = never (sym h)
    go true b c d h = never (sym h)
running_stops (notification method params) h = refl
running_stops (result id r) h = refl
running_stops (error id r) h = refl
running_stops not_json h = refl
running_stops not_message h = refl

pub running_goes_on : (before : List Event) (e : ℕ) (m : Message) → makes_running m ≡ true → stops before e m ≡ false
running_goes_on before e m runs = ap (λ b. b && (is_there (desk_of e before).phase && not (is_begun (desk_of e before).phase && is_doubled before e m))) (running_stops m runs)
