-- E10, E16 and E17: where an editor's message goes on, nothing but bodies to the start come of it, before the editor is asked what it is owed.
use Rattle.std.proofs.Common.{◌≡◌, ℕ, Bool, true, false, not, ◌&&◌, List, [], ◌∷◌, ◌++◌, codes, bytes_eq, nat_eq, Option, None, Some, refl, sym, subst, ◌∙◌, ap, ap₂, arith}
use Rattle.std.specs.List.{AllByRecursion}
use Rattle.std.specs.Option.{option_and_then, option_map_or}
use Rattle.std.proofs.lemmas.Bool.{and_parts}
use Rattle.std.proofs.lemmas.Bool.Decides.{nat_tests}
use Rattle.json_text.specs.Json.{Json}
use Rattle.lsp_method.specs.Class.{class_of}
use Rattle.lsp_method.specs.declared.variants.Origin.TheVariants.{Editor}
use Rattle.mux_history.specs.declared.out.Out.{Out}
use Rattle.mux_history.specs.declared.out.Out.TheVariants.{ToServer}
use Rattle.rpc_message.specs.Message.{Id, Message, request, notification, result, error, not_json, not_message}
use Rattle.rpc_message.specs.Texts.{invalid_params, invalid_request, request_failed}
use Rattle.response_route.specs.document_model.specs.Sayings.{saying_by}
use Rattle.event_model.specs.declared.phase.Phase.{Phase}
use Rattle.event_model.specs.declared.phase.Phase.TheVariants.{Absent, New, Waiting, Answered, Running, Down, Closed, Gone}
use Rattle.event_model.specs.Event.{Event, behind}
use Rattle.event_model.specs.Members.{params_of}
use Rattle.event_model.specs.Phases.{desk_of, is_multiplexer_request, is_running}
use Rattle.event_model.specs.Row.{Row, choose, nothing, on, outs, send, ◌⨾◌}
use Rattle.event_model.specs.Settings.{Settings}
use Rattle.event_model.specs.Spawns.{start_of}
use Rattle.event_model.specs.Stages.{is_ready, life_of}
use Rattle.event_model.proofs.Frames.{never}
use Rattle.registrations.specs.mux_model.specs.Methods.{goes_on}
use Rattle.registrations.specs.mux_model.specs.Rows.{to_start}
use Rattle.group_words.specs.Houses.{home_of, is_doubled}
use Rattle.group_rows.specs.Asks.{serves}
use Rattle.group_rows.specs.CreatedRows.{work_row}
use Rattle.group_rows.specs.Debts.{goes_forth, goes_to}
use Rattle.group_rows.specs.Forwarded.{has_room}
use Rattle.group_rows.specs.Reserved.{reserves}
use Rattle.group_rows.specs.Rows.{answer_error, cancel_row, closing_row, document_row, forward, from_editor, lspmux_row, may_wait, notice_at, notice_row, request_at, request_row, served_request, shutdown_row, sync_row, told_row, wrong_code}
use Rattle.group_rows.specs.Waiting.{is_for_start, is_misplaced}
use Rattle.group_rows.proofs.Going.{no_exit}

-- a body to a start
abbrev pub IsOnward : Out → Type 0
IsOnward (ToServer s body) = Unit {0}
IsOnward other = ⊥

off_is : (a : Bool) → not a ≡ true → a ≡ false
off_is true h = never (sym h)
off_is false h = refl

all_onward : (xs ys : List Out) → AllByRecursion IsOnward xs → AllByRecursion IsOnward ys → AllByRecursion IsOnward (xs ++ ys)
all_onward [] ys h k = k
all_onward (x ∷ xs) ys h k = (h.0, all_onward xs ys h.1 k)

started_onward : (s : ℕ) (bodies : List (List ℕ)) (events : List Event) → AllByRecursion IsOnward (outs (to_start s bodies) events)
started_onward s [] events = tt
started_onward s (b ∷ bodies) events = (tt, started_onward s bodies (behind events (ToServer s b ∷ [])))

-- the editor is in a group, whose last start this is
pub record Seat (settings : Settings) (before : List Event) (s e : ℕ) : Type 0 where
  pub group : ℕ
  pub home : home_of settings e before ≡ Some group
  pub last : start_of group before ≡ Some s

pub seated : (settings : Settings) (before : List Event) (s e : ℕ) → serves settings before s e ≡ true → Seat settings before s e
seated settings before s e h = at_home (home_of settings e before) refl h
  where
    at_start : (g : ℕ) → home_of settings e before ≡ Some g → (o : Option ℕ) → start_of g before ≡ o → option_map_or (nat_eq s) o false ≡ true → Seat settings before s e
    at_start g home None last k = never (sym k)
    at_start g home (Some n) last k = let same : s ≡ n = grind (arith, nat_tests) in record { group = g; home = home; last = last ∙ ap (λ m. Some m) (sym same) }

    at_home : (o : Option ℕ) → home_of settings e before ≡ o → option_map_or (nat_eq s) (option_and_then (λ g. start_of g before) o) false ≡ true → Seat settings before s e
    at_home None home k = never (sym k)
    at_home (Some g) home k = at_start g home (start_of g before) refl k

running_is : (p : Phase) → is_running p ≡ true → p ≡ Running
running_is Running h = refl
running_is Absent h = never (sym h)
running_is New h = never (sym h)
running_is Waiting h = never (sym h)
running_is Answered h = never (sym h)
running_is Down h = never (sym h)
running_is Closed h = never (sym h)
running_is Gone h = never (sym h)

module _ (settings : Settings) (s : ℕ) (before : List Event) (e : ℕ) (body : List ℕ) (seat : Seat settings before s e) (ready : is_ready (life_of s before).stage ≡ true) (events : List Event) where
  abbrev g : ℕ
  g = seat.group

  pub request_onward : (id : Id) (method : List ℕ) (params : Option Json) → goes_forth settings s before e body (request id method params) ≡ true
      → outs (from_editor settings before e body (request id method params) Running) events ≡ outs (sync_row settings before g s e ⨾ forward settings s body) events
  request_onward id method params forth =
      ap (λ b. outs (choose b (closing_row settings before e) (told_row settings before e body m Running)) events) (off_is (is_doubled before e m) one.0)
      ∙ (ap (λ b. outs (choose b (lspmux_row settings before e body m) (served_request settings before e body method)) events) (off_is (is_multiplexer_request m) two.0)
      ∙ (ap (λ b. outs (choose b (answer_error e body (wrong_code method invalid_request)) (choose (bytes_eq (codes "shutdown") method) (shutdown_row settings before e body) (request_row settings before e body))) events) (off_is (is_misplaced method) three.0)
      ∙ (ap (λ b. outs (choose b (shutdown_row settings before e body) (request_row settings before e body)) events) (off_is (bytes_eq (codes "shutdown") method) four.0)
      ∙ (ap (λ b. outs (choose b (answer_error e body invalid_params) (on (home_of settings e before) (answer_error e body request_failed) (λ g. on (start_of g before) (answer_error e body request_failed) (request_at settings before e body g)))) events) (off_is (reserves (params_of body)) four.1)
      ∙ (ap (λ o. outs (on o (answer_error e body request_failed) (λ g. on (start_of g before) (answer_error e body request_failed) (request_at settings before e body g))) events) seat.home
      ∙ (ap (λ o. outs (on o (answer_error e body request_failed) (request_at settings before e body g)) events) seat.last
      ∙ ap (λ b. outs (choose b (sync_row settings before g s e ⨾ forward settings s body) (choose (may_wait settings before e body g) nothing (answer_error e body request_failed))) events) (ap₂ (λ a b. a && b) ready both.1)))))))
    where
      m : Message
      m = request id method params

      both : (is_for_start before e body m ≡ true) × (has_room settings s before ≡ true)
      both = and_parts (is_for_start before e body m) (has_room settings s before) forth

      one : (not (is_doubled before e m) ≡ true) × ((not (is_multiplexer_request m) && (not (is_misplaced method) && (not (bytes_eq (codes "shutdown") method) && not (reserves (params_of body))))) ≡ true)
      one = and_parts (not (is_doubled before e m)) (not (is_multiplexer_request m) && (not (is_misplaced method) && (not (bytes_eq (codes "shutdown") method) && not (reserves (params_of body))))) both.0

      two : (not (is_multiplexer_request m) ≡ true) × ((not (is_misplaced method) && (not (bytes_eq (codes "shutdown") method) && not (reserves (params_of body)))) ≡ true)
      two = and_parts (not (is_multiplexer_request m)) (not (is_misplaced method) && (not (bytes_eq (codes "shutdown") method) && not (reserves (params_of body)))) one.1

      three : (not (is_misplaced method) ≡ true) × ((not (bytes_eq (codes "shutdown") method) && not (reserves (params_of body))) ≡ true)
      three = and_parts (not (is_misplaced method)) (not (bytes_eq (codes "shutdown") method) && not (reserves (params_of body))) two.1

      four : (not (bytes_eq (codes "shutdown") method) ≡ true) × (not (reserves (params_of body)) ≡ true)
      four = and_parts (not (bytes_eq (codes "shutdown") method)) (not (reserves (params_of body))) three.1

  pub notice_onward : (method : List ℕ) (params : Option Json) → goes_on (class_of method Editor true) ≡ true
      → outs (from_editor settings before e body (notification method params) Running) events ≡ outs (sync_row settings before g s e ⨾ send (ToServer s body)) events
  notice_onward method params going =
      ap (λ b. outs (choose b (closing_row settings before e) (choose (goes_on (class_of method Editor true)) (notice_row settings before e body) (later_row))) events) (no_exit method going)
      ∙ (ap (λ b. outs (choose b (notice_row settings before e body) (later_row)) events) going
      ∙ (ap (λ o. outs (on o nothing (λ g. on (start_of g before) nothing (notice_at settings before e body g))) events) seat.home
      ∙ (ap (λ o. outs (on o nothing (notice_at settings before e body g)) events) seat.last
      ∙ ap (λ b. outs (choose b (sync_row settings before g s e ⨾ send (ToServer s body)) nothing) events) ready)))
    where
      later_row : Row
      later_row = choose (bytes_eq (codes "$/cancelRequest") method) (cancel_row settings before e body params)
          (choose (bytes_eq (codes "window/workDoneProgress/cancel") method) (work_row settings before e body params) (document_row settings before e body (saying_by method params)))

  -- the row of a message that goes on
  forth_onward : (m : Message) → goes_forth settings s before e body m ≡ true → AllByRecursion IsOnward (outs (from_editor settings before e body m Running) events)
  forth_onward (request id method params) forth = subst (AllByRecursion IsOnward) (sym (request_onward id method params forth))
      (all_onward xs (outs (forward settings s body) (behind events xs)) (started_onward s _ events) (tt, tt))
    where
      xs : List Out
      xs = outs (sync_row settings before g s e) events
  forth_onward (notification method params) going = subst (AllByRecursion IsOnward) (sym (notice_onward method params going))
      (all_onward xs (ToServer s body ∷ []) (started_onward s _ events) (tt, tt))
    where
      xs : List Out
      xs = outs (sync_row settings before g s e) events
  forth_onward (result id r) forth = never (sym forth)
  forth_onward (error id x) forth = never (sym forth)
  forth_onward not_json forth = never (sym forth)
  forth_onward not_message forth = never (sym forth)

pub goes_onward : (settings : Settings) (s : ℕ) (before : List Event) (e : ℕ) (body : List ℕ) (m : Message) → goes_to settings s before e body m ≡ true → (events : List Event)
    → AllByRecursion IsOnward (outs (from_editor settings before e body m (desk_of e before).phase) events)
goes_onward settings s before e body m goes events =
    let halves = and_parts (is_running (desk_of e before).phase && (serves settings before s e && is_ready (life_of s before).stage)) (goes_forth settings s before e body m) goes in
    let runs = and_parts (is_running (desk_of e before).phase) (serves settings before s e && is_ready (life_of s before).stage) halves.0 in
    let serving = and_parts (serves settings before s e) (is_ready (life_of s before).stage) runs.1 in
    subst (λ p. AllByRecursion IsOnward (outs (from_editor settings before e body m p) events)) (sym (running_is (desk_of e before).phase runs.0))
    (forth_onward settings s before e body (seated settings before s e serving.0) serving.1 events m halves.1)
