-- S15: by which messages of a start nothing changes of its last lists.
use Rattle.std.proofs.Common.{◌≡◌, ℕ, true, false, List, refl, ap, sym}
use Rattle.std.specs.Prelude.{Option, Some, None}
use Rattle.json_text.specs.Json.{Json}
use Rattle.mux_history.specs.declared.cause.Cause.TheVariants.{FromServer}
use Rattle.rpc_message.specs.Message.{Id, Message, message_of, notification, request}
use Rattle.rpc_message.specs.declared.sort.Sort.TheVariants as sort
use Rattle.rpc_message.specs.Sorts.{sort_of}
use Rattle.event_model.specs.Event.{Event, heard}
use Rattle.event_model.specs.Phases.{is_malformed}
use Rattle.event_model.specs.Stages.{is_ready, life_of}
use Rattle.event_model.proofs.Frames.{never}
use Rattle.group_rows.specs.diagnostics_route.specs.Published.{published}
use Rattle.group_rows.specs.Created.{is_progress}
use Rattle.group_rows.specs.Lists.{is_publishing, sayings_of}
use Rattle.mux_tables.specs.Stands.{ListsStay}
use Rattle.mux_tables.proofs.Publishing.{other_lists, progress_apart, quiet_lists, shapeless_lists, unready_lists}
use Rattle.mux_tables.specs.mux_tokens.proofs.Stays.{is_notification}

module _ (before : List Event) (s : ℕ) (body : List ℕ) where
  pub asks_unlisted : (id : Id) (method : List ℕ) (params : Option Json) → message_of body ≡ request id method params → ListsStay s before (heard (FromServer s body))
  asks_unlisted id method params says = quiet_lists s s before body (message_of body) (ap is_notification says)

  module _ (method : List ℕ) (params : Option Json) (says : message_of body ≡ notification method params) where
    pub tells_unlisted : is_publishing method ≡ false → ListsStay s before (heard (FromServer s body))
    tells_unlisted off = other_lists s s before body method (message_of body) params says off

    pub progress_unlisted : is_progress method ≡ true → ListsStay s before (heard (FromServer s body))
    progress_unlisted on = tells_unlisted (progress_apart method on)

    pub shapeless_unlisted : published (sayings_of s before) body ≡ None → ListsStay s before (heard (FromServer s body))
    shapeless_unlisted none = shapeless_lists s s before body method (message_of body) params says none

  -- an answer, and a body that is no message
  pub answers_unlisted : (sort_of (message_of body) ≡ Some sort.Notification → ⊥) → ListsStay s before (heard (FromServer s body))
  answers_unlisted unnoted = go (message_of body) refl unnoted
    where
      go : (m : Message) → message_of body ≡ m → (sort_of m ≡ Some sort.Notification → ⊥) → ListsStay s before (heard (FromServer s body))
      go (notification method params) says k = absurd (k refl)
      go other says k = quiet_lists s s before body (message_of body) (ap is_notification says)

  pub malformed_unlisted : is_malformed (message_of body) ≡ true → ListsStay s before (heard (FromServer s body))
  malformed_unlisted bad = go (message_of body) refl bad
    where
      go : (m : Message) → message_of body ≡ m → is_malformed m ≡ true → ListsStay s before (heard (FromServer s body))
      go (notification method params) says h = never (sym h)
      go other says h = quiet_lists s s before body (message_of body) (ap is_notification says)

  -- a start that isn't ready
  pub unready_unlisted : is_ready (life_of s before).stage ≡ false → ListsStay s before (heard (FromServer s body))
  unready_unlisted off = go (message_of body) refl
    where
      go : (m : Message) → message_of body ≡ m → ListsStay s before (heard (FromServer s body))
      go (notification method params) says = unready_lists s s before body method (message_of body) params says off
      go other says = quiet_lists s s before body (message_of body) (ap is_notification says)
