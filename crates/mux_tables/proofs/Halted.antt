-- Whether an editor stopped all, one event further.
use Rattle.std.proofs.Common.{◌≡◌, ℕ, Bool, true, false, List, [], ◌∷◌, ◌++◌, refl, ap, sym, codes, not, ◌&&◌, ◌∙◌}
use Rattle.std.specs.Prelude.{bytes_eq}
use Rattle.std.proofs.lemmas.Slice.Eq.{bytes_eq-Decides}
use Rattle.mux_history.specs.declared.cause.Cause.TheVariants.{FromEditor}
use Rattle.rpc_message.specs.Message.{Message, request}
use Rattle.event_model.specs.Event.{Event, requests, took}
use Rattle.event_model.specs.Phases.{desk_of, is_begun, is_there}
use Rattle.event_model.proofs.Frames.{never}
use Rattle.group_words.specs.Houses.{is_doubled, stops}
use Rattle.group_words.proofs.Frames.{past_more}
use Rattle.group_laws.specs.group_rows.specs.StopRows.{stopped, stopped_next}
use Rattle.mux_tables.proofs.Frames.{names_editor}

pub stopped_more : (events : List Event) (ev : Event) → stopped (events ++ ev ∷ []) ≡ stopped_next events (stopped events) ev
stopped_more events ev = past_more stopped_next [] false events ev

-- an event that names no editor
stopped_alone : (before : List Event) (b : Bool) (ev : Event) → names_editor ev ≡ false → stopped_next before b ev ≡ b
stopped_alone before b (took (FromEditor e body) m) h = never h
stopped_alone before b other h = refl

pub stopped_past : (events : List Event) (ev : Event) → names_editor ev ≡ false → stopped (events ++ ev ∷ []) ≡ stopped events
stopped_past events ev h = stopped_more events ev ∙ stopped_alone events (stopped events) ev h

-- a message
pub stopped_quiet : (events : List Event) (e : ℕ) (body : List ℕ) (m : Message) → stops events e m ≡ false → stopped (events ++ took (FromEditor e body) m ∷ []) ≡ stopped events
stopped_quiet events e body m goes = stopped_more events (took (FromEditor e body) m) ∙ rw goes refl

pub stopped_now : (events : List Event) (e : ℕ) (body : List ℕ) (m : Message) → stops events e m ≡ true → stopped (events ++ took (FromEditor e body) m ∷ []) ≡ true
stopped_now events e body m stop = stopped_more events (took (FromEditor e body) m) ∙ rw stop refl

-- an `initialize` stops nothing
no_stop : (m : Message) → requests (codes "initialize") m ≡ true → requests (codes "lspmux/stop") m ≡ false
no_stop (request id method ps) h = ap (bytes_eq (codes "lspmux/stop")) (sym ((bytes_eq-Decides (codes "initialize") method).0 h))
no_stop rest h = never (sym h)

pub initialize_goes : (events : List Event) (e : ℕ) (m : Message) → requests (codes "initialize") m ≡ true → stops events e m ≡ false
initialize_goes events e m h = ap (λ b. b && (is_there (desk_of e events).phase && not (is_begun (desk_of e events).phase && is_doubled events e m))) (no_stop m h)
