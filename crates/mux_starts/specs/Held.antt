-- S2: what waits, as it goes to a start or is refused, one after the other.
use Rattle.std.specs.Prelude.{◌≡◌, ℕ, ◌<◌, Bool, true, false, List, [], ◌∷◌, ◌++◌, codes, length}
use Rattle.std.specs.Prelude.{Some, None, slice_get}
use Rattle.mux_history.specs.declared.out.Out.{Out}
use Rattle.rpc_message.specs.Texts.{error_text, request_failed}
use Rattle.event_model.specs.Does.{Does}
use Rattle.event_model.specs.Event.{Event, behind}
use Rattle.event_model.specs.Row.{each}
use Rattle.event_model.specs.Settings.{Settings}
use Rattle.group_rows.specs.Forwarded.{forwarding_of, token_in}
use Rattle.group_rows.specs.Rows.{send_waiting}
use Rattle.group_rows.specs.Tokens.{forwarded_text}
use Rattle.group_rows.specs.Waiting.{waiting_of, worker_of}
use Rattle.mux_tables.specs.declared.tables.Tables.{Tables}
use Rattle.mux_tables.specs.Documents.{AllStand, nothing_owed}
use Rattle.mux_tables.specs.Stands.{Stands}
use Rattle.mux_tables.specs.mux_waits.specs.Rows.{Rows, held_of}
use Rattle.mux_tables.specs.mux_waits.specs.held_requests.specs.declared.request.Request.{Request}
use Rattle.mux_starts.specs.declared.held.Refusal.{Refusal}
use Rattle.mux_starts.specs.declared.held.Sending.{Sending}

-- a request goes on so, under this number
pub record IsSending (n : ℕ) (r : Request) (w : Sending) : Type 0 where
  pub editor : w.editor ≡ r.editor
  pub id : w.id ≡ r.id
  pub work : w.work ≡ token_in (codes "workDoneToken") r.body
  pub partial : w.partial ≡ token_in (codes "partialResultToken") r.body
  pub text : w.text ≡ forwarded_text n r.body

-- it is what waits longest in group g
pub record IsFirst (settings : Settings) (g n : ℕ) (before : List Event) (w : Sending) : Type 0 where
  pub request : Request
  pub first : slice_get (waiting_of settings g before) 0 ≡ Some request
  pub sends : IsSending n request w

-- so is that which is refused
pub record IsRefused (settings : Settings) (g : ℕ) (before : List Event) (w : Refusal) : Type 0 where
  pub request : Request
  pub first : slice_get (waiting_of settings g before) 0 ≡ Some request
  pub editor : w.editor ≡ request.editor
  pub body : w.body ≡ error_text request.id request_failed

-- no message of an editor is at work
pub record IsIdle (settings : Settings) (s : ℕ) (events : List Event) : Type 0 where
  pub worker : worker_of events ≡ None
  pub sender : (forwarding_of settings s events).sender ≡ None

-- one that waits in group g goes, where there is one
abbrev pub Shrinks : ℕ → Bool → Rows → Rows → Type 0
Shrinks g true old new = length (held_of g new) < length (held_of g old)
Shrinks g false old new = new ≡ old

pub record PassesOne (settings : Settings) (base : List Event) (g s : ℕ) (t : Tables) (xs : List Out) (u : Tables) (ys : List Out) : Type 0 where
  pub request : Request
  pub was : waiting_of settings g (behind base xs) ≡ request ∷ waiting_of settings g (behind base ys)
  pub does : Does (λ k events. AllStand settings k events) (send_waiting settings g s request) base (t, nothing_owed) xs (u, nothing_owed) ys

abbrev pub Passes : Settings → List Event → ℕ → ℕ → Bool → Tables → List Out → Tables → List Out → Type 0
Passes settings base g s true t xs u ys = AllStand settings (t, nothing_owed) (behind base xs) → PassesOne settings base g s t xs u ys
Passes settings base g s false t xs u ys = Stands settings t (behind base xs) → (waiting_of settings g (behind base xs) ≡ []) × ((u ≡ t) × (ys ≡ xs))

-- the first ones went, and these wait still
pub record PassesSome (settings : Settings) (base : List Event) (g s : ℕ) (t : Tables) (xs : List Out) (u : Tables) (ys : List Out) : Type 0 where
  pub sent : List Request
  pub was : waiting_of settings g (behind base xs) ≡ sent ++ waiting_of settings g (behind base ys)
  pub does : Does (λ k events. AllStand settings k events) (each (send_waiting settings g s) sent) base (t, nothing_owed) xs (u, nothing_owed) ys

-- none waits any more, where there are no more
abbrev pub AreSent : Settings → List Event → ℕ → ℕ → Bool → Tables → List Out → Tables → List Out → Type 0
AreSent settings base g s more t xs u ys = AllStand settings (t, nothing_owed) (behind base xs) → PassesSome settings base g s t xs u ys × (more ≡ false → waiting_of settings g (behind base ys) ≡ [])
