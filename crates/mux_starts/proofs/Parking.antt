-- S12, and S6 and S7: by which messages of a start nothing comes to wait, and nothing changes of what is registered.
use Rattle.std.proofs.Common.{◌≡◌, ℕ, Bool, true, false, List, [], refl, ap, sym, ◌∙◌}
use Rattle.std.specs.Prelude.{Option, Some, is_some}
use Rattle.std.specs.Option.{option_map_or}
use Rattle.json_text.specs.Json.{Json}
use Rattle.lsp_method.specs.Class.{class_of}
use Rattle.lsp_method.specs.declared.variants.Class.{Class}
use Rattle.lsp_method.specs.declared.variants.Class.TheVariants.{Focused, Lowest}
use Rattle.lsp_method.specs.declared.variants.Origin.TheVariants.{Server}
use Rattle.mux_history.specs.declared.cause.Cause.TheVariants.{FromServer}
use Rattle.rpc_message.specs.Message.{Id, Message, error, message_of, not_json, not_message, notification, request, result}
use Rattle.event_model.specs.Event.{Event, heard}
use Rattle.event_model.specs.Settings.{Settings}
use Rattle.event_model.specs.Spawns.{group_of}
use Rattle.event_model.specs.Stages.{is_ready, life_of}
use Rattle.event_model.proofs.Frames.{never}
use Rattle.group_rows.specs.Asks.{Parked, asking_of, first_in, goes_to_one, has_running, is_patient, is_single, is_taken, may_wait, parks, running_in}
use Rattle.group_rows.specs.Live.{changes_live, is_registering}
use Rattle.mux_tables.specs.Stands.{LiveStay, ParkedStay, is_request}
use Rattle.mux_tables.proofs.Parking.{impatient_stay, parks_stay, running_stay, taken_stay, unready_stay}
use Rattle.mux_tables.proofs.Registering.{other_live, silent_stay, taken_live, unready_live}

-- what may wait one editor is to answer
waits_single : (k : Class) → may_wait k ≡ true → goes_to_one k ≡ true
waits_single Lowest h = refl
waits_single Focused h = refl
waits_single _ h = never (sym h)

pub patient_single : (method : List ℕ) → is_patient method ≡ true → is_single method ≡ true
patient_single method h = waits_single (class_of method Server false) h

pub many_hasty : (method : List ℕ) → is_single method ≡ false → is_patient method ≡ false
many_hasty method many = go (is_patient method) refl
  where
    go : (b : Bool) → is_patient method ≡ b → b ≡ false
    go false is = refl
    go true is = never (sym (patient_single method is) ∙ many)

-- and registers nothing
single_none : (k : Class) → goes_to_one k ≡ true → changes_live k ≡ false
single_none Lowest h = refl
single_none Focused h = refl
single_none _ h = never (sym h)

pub single_other : (method : List ℕ) → is_single method ≡ true → is_registering method ≡ false
single_other method h = single_none (class_of method Server false) h

-- an editor runs, where one was found
pub runs_there : (settings : Settings) (before : List Event) (s g : ℕ) (o : Option ℕ) → group_of s before ≡ Some g → first_in (running_in settings g before) ≡ o → has_running settings before s ≡ is_some o
runs_there settings before s g o home is = ap (λ h. option_map_or (λ k. is_some (first_in (running_in settings k before))) h false) home ∙ ap is_some is

module _ (settings : Settings) (before : List Event) (s : ℕ) (body : List ℕ) where
  module _ (id : Id) (method : List ℕ) (params : Option Json) (says : message_of body ≡ request id method params) where
    -- its class isn't Lowest
    pub hasty : is_patient method ≡ false → ParkedStay settings s before (heard (FromServer s body))
    hasty off = impatient_stay settings s before body method (message_of body) id params says off

    -- or an editor runs
    pub attended : (is_patient method ≡ true → has_running settings before s ≡ true) → ParkedStay settings s before (heard (FromServer s body))
    attended runs = go (is_patient method) refl
      where
        go : (b : Bool) → is_patient method ≡ b → ParkedStay settings s before (heard (FromServer s body))
        go false off = hasty off
        go true on = running_stay settings s before body method (message_of body) id params says (runs on)

    -- another that is open has its id
    pub repeated : is_taken (Some id) (asking_of settings s before) ≡ true → ParkedStay settings s before (heard (FromServer s body))
    repeated taken = taken_stay settings s before body method (message_of body) id params says taken

  abbrev parks_by : Message → List Parked
  parks_by m = parks settings s before (asking_of settings s before) body m

  -- a message that asks nothing
  asks_none : (m : Message) → is_request m ≡ false → parks_by m ≡ []
  asks_none (request id method params) h = never h
  asks_none (notification method params) h = refl
  asks_none (result id r) h = refl
  asks_none (error id x) h = refl
  asks_none not_json h = refl
  asks_none not_message h = refl

  pub unasked : is_request (message_of body) ≡ false → ParkedStay settings s before (heard (FromServer s body))
  unasked none = parks_stay settings s before body (message_of body) (asks_none (message_of body) none)

  pub noticed : (method : List ℕ) (params : Option Json) → message_of body ≡ notification method params → ParkedStay settings s before (heard (FromServer s body))
  noticed method params says = unasked (ap is_request says)

  -- a start that isn't ready
  pub unready : is_ready (life_of s before).stage ≡ false → ParkedStay settings s before (heard (FromServer s body))
  unready off = go (message_of body) refl
    where
      go : (m : Message) → message_of body ≡ m → ParkedStay settings s before (heard (FromServer s body))
      go (request id method params) says = unready_stay settings s before body method (message_of body) id params says off
      go other says = unasked (ap is_request says)

-- What is registered stays

module _ (settings : Settings) (before : List Event) (s : ℕ) (body : List ℕ) where
  module _ (id : Id) (method : List ℕ) (params : Option Json) (says : message_of body ≡ request id method params) where
    pub other_keeps : is_registering method ≡ false → LiveStay settings s before (heard (FromServer s body))
    other_keeps off = other_live settings s s before body method (message_of body) id params says off

    pub repeated_keeps : is_taken (Some id) (asking_of settings s before) ≡ true → LiveStay settings s before (heard (FromServer s body))
    repeated_keeps taken = taken_live settings s s before body method (message_of body) id params says taken

  pub unasked_keeps : is_request (message_of body) ≡ false → LiveStay settings s before (heard (FromServer s body))
  unasked_keeps none = silent_stay settings s s before body (message_of body) none

  pub noticed_keeps : (method : List ℕ) (params : Option Json) → message_of body ≡ notification method params → LiveStay settings s before (heard (FromServer s body))
  noticed_keeps method params says = unasked_keeps (ap is_request says)

  pub unready_keeps : is_ready (life_of s before).stage ≡ false → LiveStay settings s before (heard (FromServer s body))
  unready_keeps off = go (message_of body) refl
    where
      go : (m : Message) → message_of body ≡ m → LiveStay settings s before (heard (FromServer s body))
      go (request id method params) says = unready_live settings s s before body method (message_of body) id params says off
      go other says = unasked_keeps (ap is_request says)
