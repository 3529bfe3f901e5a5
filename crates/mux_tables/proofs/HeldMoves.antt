-- What waits, behind a message of an editor, and where the editors' table says of which group one is.
use Rattle.std.proofs.Common.{◌≡◌, ℕ, zero, suc, ◌<◌, ◌≤◌, List, [], ◌∷◌, arith, length, true, refl, sym, ap, ◌∙◌}
use Rattle.std.specs.Prelude.{Option, None, slice_get}
use Rattle.std.proofs.lemmas.Option.{slice_get-get_or}
use Rattle.mux_history.specs.declared.cause.Cause.TheVariants.{FromEditor}
use Rattle.rpc_message.specs.Message.{message_of}
use Rattle.event_model.specs.declared.phase.Phase.{Phase}
use Rattle.event_model.specs.declared.phase.Phase.TheVariants.{New}
use Rattle.event_model.specs.Event.{Event, heard}
use Rattle.event_model.specs.Phases.{desk_of, is_new}
use Rattle.event_model.specs.Settings.{Settings}
use Rattle.event_model.proofs.Frames.{never}
use Rattle.editor_session.specs.declared.session.Session.{Session}
use Rattle.editor_session.specs.Sessions.{absent, session_of}
use Rattle.group_words.specs.Houses.{home_of}
use Rattle.mux_waits.specs.Stands.{Unheld}
use Rattle.mux_waits.proofs.Moves.{heard_waits}
use Rattle.mux_tables.specs.Stands.{EditorsStand, group_in}
use Rattle.mux_tables.proofs.TokenMoves.{WaitsStay}

pub home_kept : (settings : Settings) (t : List Session) (events : List Event) (e : ℕ) (home : Option ℕ) → e < length t → home ≡ (session_of t e).group → EditorsStand settings t events → home_of settings e events ≡ home
home_kept settings t events e home l is s = s.home e ∙ (ap group_in (slice_get-get_or t e absent l) ∙ sym is)

pub home_past : (settings : Settings) (t : List Session) (events : List Event) (e : ℕ) → length t ≤ e → EditorsStand settings t events → home_of settings e events ≡ None
home_past settings t events e l s = s.home e ∙ ap group_in (past t e l)
  where
    past : (xs : List Session) (n : ℕ) → length xs ≤ n → slice_get xs n ≡ None
    past [] n l = refl
    past (x ∷ xs) zero l = absurd (omega arith)
    past (x ∷ xs) (suc n) l = past xs n (omega arith)

-- an editor that is new is in no group
pub unplaced : (settings : Settings) (t : List Session) (events : List Event) (e : ℕ) → EditorsStand settings t events → is_new (desk_of e events).phase ≡ true → home_of settings e events ≡ None
unplaced settings t events e s h = (s.names e).unplaced (only_new (desk_of e events).phase h)
  where
    only_new : (p : Phase) → is_new p ≡ true → p ≡ New
    only_new New k = refl
    only_new rest k = never (sym k)

pub heard_stay : (settings : Settings) (t : List Session) (events : List Event) (e : ℕ) (body : List ℕ) → EditorsStand settings t events → Unheld settings e body (message_of body) events → WaitsStay settings events (heard (FromEditor e body))
heard_stay settings t events e body s off rows = heard_waits settings events e body (message_of body) (unplaced settings t events e s) rows off
