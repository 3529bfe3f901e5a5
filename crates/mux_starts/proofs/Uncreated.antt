-- S8 and S13: by which messages of a start nothing changes of the tokens that it created.
use Rattle.std.proofs.Common.{◌≡◌, ℕ, Bool, true, false, not, ◌&&◌, List, refl, ap, sym, ◌∙◌}
use Rattle.std.specs.Prelude.{Option, None, Some}
use Rattle.json_text.specs.Json.{Json}
use Rattle.lsp_method.specs.Class.{class_of}
use Rattle.lsp_method.specs.declared.variants.Class.{Class}
use Rattle.lsp_method.specs.declared.variants.Class.TheVariants.{Focused, Lowest}
use Rattle.lsp_method.specs.declared.variants.Origin.TheVariants.{Server}
use Rattle.mux_history.specs.declared.cause.Cause.TheVariants.{FromServer}
use Rattle.rpc_message.specs.Message.{Id, Message, message_of, notification, request}
use Rattle.rpc_message.specs.declared.sort.Sort.TheVariants as sort
use Rattle.rpc_message.specs.Sorts.{sort_of}
use Rattle.event_model.specs.Event.{Event, heard, took}
use Rattle.event_model.specs.Phases.{is_malformed}
use Rattle.event_model.specs.Settings.{Settings}
use Rattle.event_model.specs.Stages.{is_ready, life_of}
use Rattle.event_model.proofs.Frames.{never}
use Rattle.group_rows.specs.Asks.{asking_of, goes_to_one, is_single, is_taken}
use Rattle.group_rows.specs.Created.{created_next, created_of, created_token, is_creating, is_progress, named_token, names_create, token_called}
use Rattle.mux_tables.specs.mux_tokens.specs.Stands.{CreatedStay}
use Rattle.mux_tables.specs.Stands.{is_request}
use Rattle.mux_tables.specs.mux_tokens.proofs.Stays.{other_notification, other_request, refused_request, unheard_request, unready_notification, untold_notification}

-- what one editor answers creates no token
single_class : (k : Class) → goes_to_one k ≡ true → names_create k ≡ false
single_class Lowest h = refl
single_class Focused h = refl
single_class _ h = never (sym h)

pub single_creates : (method : List ℕ) → is_single method ≡ true → is_creating method ≡ false
single_creates method h = single_class (class_of method Server false) h

module _ (settings : Settings) (before : List Event) (s : ℕ) (body : List ℕ) where
  by : (m : Message) → message_of body ≡ m → created_next settings s before (created_of settings s before) (took (FromServer s body) m) ≡ created_of settings s before → CreatedStay settings s before (heard (FromServer s body))
  by m says h = ap (λ n. created_next settings s before (created_of settings s before) (took (FromServer s body) n)) says ∙ h

  module _ (id : Id) (method : List ℕ) (params : Option Json) (says : message_of body ≡ request id method params) where
    pub other_creates : is_creating method ≡ false → CreatedStay settings s before (heard (FromServer s body))
    other_creates off = by (request id method params) says (other_request settings s s before (created_of settings s before) body id method params off)

    pub refused_creates : created_token body (created_of settings s before) ≡ None → CreatedStay settings s before (heard (FromServer s body))
    refused_creates none = by (request id method params) says (refused_request settings s s before (created_of settings s before) body id method params none)

    pub repeated_creates : is_taken (Some id) (asking_of settings s before) ≡ true → CreatedStay settings s before (heard (FromServer s body))
    repeated_creates taken = by (request id method params) says (unheard_request settings s s before (created_of settings s before) body id method params (ap (λ b. is_ready (life_of s before).stage && not b) taken ∙ off (is_ready (life_of s before).stage)))
      where
        off : (b : Bool) → (b && false) ≡ false
        off true = refl
        off false = refl

  pub other_tells : (method : List ℕ) (params : Option Json) → message_of body ≡ notification method params → is_progress method ≡ false → CreatedStay settings s before (heard (FromServer s body))
  other_tells method params says off = by (notification method params) says (other_notification settings s s before (created_of settings s before) body method params off)

  pub untold_creates : (method : List ℕ) (params : Option Json) → message_of body ≡ notification method params → token_called (named_token params) (created_of settings s before) ≡ None → CreatedStay settings s before (heard (FromServer s body))
  untold_creates method params says none = by (notification method params) says (untold_notification settings s s before (created_of settings s before) body method params none)

  -- a start that isn't ready
  pub unready_creates : is_ready (life_of s before).stage ≡ false → CreatedStay settings s before (heard (FromServer s body))
  unready_creates off = go (message_of body) refl
    where
      go : (m : Message) → message_of body ≡ m → CreatedStay settings s before (heard (FromServer s body))
      go (request id method params) says = by (request id method params) says (unheard_request settings s s before (created_of settings s before) body id method params (ap (λ b. b && not (is_taken (Some id) (asking_of settings s before))) off))
      go (notification method params) says = by (notification method params) says (unready_notification settings s s before (created_of settings s before) body method params off)
      go other says = by other says refl

  -- an answer, and a body that is no message
  pub answers_create : is_request (message_of body) ≡ false → (sort_of (message_of body) ≡ Some sort.Notification → ⊥) → CreatedStay settings s before (heard (FromServer s body))
  answers_create unasked unnoted = go (message_of body) refl unasked unnoted
    where
      go : (m : Message) → message_of body ≡ m → is_request m ≡ false → (sort_of m ≡ Some sort.Notification → ⊥) → CreatedStay settings s before (heard (FromServer s body))
      go (request id method params) says h k = never h
      go (notification method params) says h k = absurd (k refl)
      go other says h k = by other says refl

  pub malformed_creates : is_malformed (message_of body) ≡ true → CreatedStay settings s before (heard (FromServer s body))
  malformed_creates bad = go (message_of body) refl bad
    where
      go : (m : Message) → message_of body ≡ m → is_malformed m ≡ true → CreatedStay settings s before (heard (FromServer s body))
      go (request id method params) says h = never (sym h)
      go (notification method params) says h = never (sym h)
      go other says h = by other says refl
