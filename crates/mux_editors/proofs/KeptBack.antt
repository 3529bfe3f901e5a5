-- A request that no start takes waits where its group's last start isn't ready, and there is room (E10).
use Rattle.std.proofs.Common.{◌≡◌, ℕ, Bool, true, false, not, ◌&&◌, ◌||◌, List, bytes_eq, codes, length, ap, ap₂, sym, ◌∙◌, refl}
use Rattle.std.specs.Prelude.{Option, Some, None}
use Rattle.std.specs.Option.{option_and_then, option_map_or}
use Rattle.json_text.specs.Json.{Json}
use Rattle.lsp_method.specs.Class.{class_of}
use Rattle.lsp_method.specs.declared.variants.Class.{Class}
use Rattle.lsp_method.specs.declared.variants.Class.TheVariants as class
use Rattle.lsp_method.specs.declared.variants.Origin.TheVariants.{Editor}
use Rattle.mux_model.specs.Built.{is_other}
use Rattle.mux_model.specs.Methods.{is_wrong}
use Rattle.rpc_message.specs.Message.{Id, Message, request}
use Rattle.rpc_message.specs.Texts.{request_failed}
use Rattle.event_model.specs.Does.{Alike}
use Rattle.event_model.specs.Members.{params_of}
use Rattle.event_model.specs.Row.{nothing, on}
use Rattle.event_model.proofs.Turns.{alike, alike_then}
use Rattle.event_model.specs.declared.phase.Phase.{Phase}
use Rattle.event_model.specs.declared.phase.Phase.TheVariants.{Absent, New, Waiting, Answered, Running, Down, Closed, Gone}
use Rattle.event_model.specs.Event.{Event}
use Rattle.event_model.specs.Phases.{desk_of, is_begun, is_multiplexer_request, is_served, needs_server}
use Rattle.event_model.specs.Settings.{Settings}
use Rattle.event_model.specs.Spawns.{start_of}
use Rattle.event_model.specs.Stages.{is_ready, life_of}
use Rattle.event_model.proofs.Frames.{never}
use Rattle.group_rows.specs.Reserved.{reserves}
use Rattle.group_rows.specs.Rows.{answer_error, may_wait}
use Rattle.group_rows.specs.Waiting.{is_for_start, is_misplaced, is_restarting, waiting_of}
use Rattle.group_words.specs.Houses.{groups_of, home_of, is_doubled}
use Rattle.mux_tables.specs.mux_waits.specs.held_requests.specs.Tables.{takes}
use Rattle.mux_tables.specs.mux_waits.proofs.Unheld.{and_off}
use Rattle.mux_tables.specs.Stands.{HasEnded, start_for}
use Rattle.mux_turns.specs.Waits.{waiting_at, waiting_row}
use Rattle.mux_turns.proofs.Rows.{is_first, is_second}
use Rattle.mux_editors.proofs.Classes.{NotOwn, serves, swapped}
use Rattle.mux_turns.specs.group_facts.specs.Facts.{is_up}
use Rattle.mux_turns.specs.group_facts.specs.Settled.{Settled}
use Rattle.mux_turns.specs.group_facts.proofs.LiveGroups.{lives_busy}

pub restarting_by : (before : List Event) (g s : ℕ) (b : Bool) → start_of g before ≡ Some s → is_ready (life_of s before).stage ≡ b → is_restarting g before ≡ not b
restarting_by before g s b at r = ap (λ o. option_map_or (λ s. not (is_ready (life_of s before).stage)) o false) at ∙ ap not r

module _ (settings : Settings) (before : List Event) (e : ℕ) (body : List ℕ) (g : ℕ) where
  pub full_ready : (s : ℕ) → start_of g before ≡ Some s → is_ready (life_of s before).stage ≡ true → may_wait settings before e body g ≡ false
  full_ready s at r = ap (λ b. b && takes e (length body) (waiting_of settings g before)) (restarting_by before g s true at r)

  pub full_room : takes e (length body) (waiting_of settings g before) ≡ false → may_wait settings before e body g ≡ false
  full_room h = ap (λ b. is_restarting g before && b) h ∙ and_off (is_restarting g before)

serves_needs : (p : Phase) → is_served p ≡ true → (needs_server p ≡ true) × (is_begun p ≡ true)
serves_needs Answered h = (refl, refl)
serves_needs Running h = (refl, refl)
serves_needs Absent h = absurd (cc)
serves_needs New h = absurd (cc)
serves_needs Waiting h = absurd (cc)
serves_needs Down h = absurd (cc)
serves_needs Closed h = absurd (cc)
serves_needs Gone h = absurd (cc)

-- the last start of the group of an editor that is served didn't end
pub unended : {A : Type 0} (settings : Settings) (before : List Event) (e : ℕ) → Settled settings before → is_served (desk_of e before).phase ≡ true → HasEnded (start_for settings e before) before → A
unended settings before e known served ended =
    let needs = serves_needs (desk_of e before).phase served in
    let seat = known.seated e needs.0 in
    let live = lives_busy seat.group (groups_of settings before) (known.lively.busy e seat.group needs.1 seat.home) in
    never (sym (known.lively.up seat.group seat.start live seat.last) ∙ ap is_up (ended seat.start (ap (option_and_then (λ g. start_of g before)) seat.home ∙ seat.last)))

pub both_hold : {a b : Bool} → a ≡ true → b ≡ true → (a && b) ≡ true
both_hold {a} {b} h k = ap (λ c. c && b) h ∙ k

-- the row is nothing, or a refusal
module _ (settings : Settings) (before : List Event) (e : ℕ) (body : List ℕ) where
  pub waits_here : (g : ℕ) → home_of settings e before ≡ Some g → may_wait settings before e body g ≡ true → Alike (waiting_row settings before e body) nothing
  waits_here g home h = alike_then (alike (ap (λ o. on o (answer_error e body request_failed) (waiting_at settings before e body)) home)) (is_first refl h)

  pub refused_here : ((g : ℕ) → home_of settings e before ≡ Some g → may_wait settings before e body g ≡ false) → Alike (waiting_row settings before e body) (answer_error e body request_failed)
  refused_here off = go (home_of settings e before) refl
    where
      go : (o : Option ℕ) → home_of settings e before ≡ o → Alike (on o (answer_error e body request_failed) (waiting_at settings before e body)) (answer_error e body request_failed)
      go None at = alike refl
      go (Some g) at = is_second refl (off g at)

other_wrong : (k : Class) → is_other k ≡ true → is_wrong k ≡ false
other_wrong class.Other h = refl
other_wrong k h = absurd (cc)

-- a request of class Other under no id that is open, without a token that might be the daemon's, is for the start
pub asks_start : (before : List Event) (e : ℕ) (body : List ℕ) (m : Message) (id : Id) (method : List ℕ) (params : Option Json) → m ≡ request id method params → is_other (class_of method Editor false) ≡ true → NotOwn method
    → is_doubled before e m ≡ false → reserves (params_of body) ≡ false → is_for_start before e body m ≡ true
asks_start before e body m id method params says other own single free =
    let serve = serves method own in
    let request_is : Message = request id method params in
    let lspmux : is_multiplexer_request request_is ≡ false = rw (serve.opens, serve.status, serve.stops) refl in
    let placed : is_misplaced method ≡ false = ap₂ (λ a b. a || b) (swapped method (codes "initialize") own.initialize) (other_wrong (class_of method Editor false) other) in
    ap (is_for_start before e body) says
    ∙ (ap (λ b. not b && (not (is_multiplexer_request request_is) && (not (is_misplaced method) && (not (bytes_eq (codes "shutdown") method) && not (reserves (params_of body)))))) (sym (ap (is_doubled before e) says) ∙ single)
    ∙ (ap (λ b. not b && (not (is_misplaced method) && (not (bytes_eq (codes "shutdown") method) && not (reserves (params_of body))))) lspmux
    ∙ (ap (λ b. not b && (not (bytes_eq (codes "shutdown") method) && not (reserves (params_of body)))) placed
    ∙ (ap (λ b. not b && not (reserves (params_of body))) serve.stays ∙ ap not free))))
