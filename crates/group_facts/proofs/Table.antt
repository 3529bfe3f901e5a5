-- The routing table over several editors and groups, walked once: each out of every row has its reason.
use Rattle.std.proofs.Common.{◌≡◌, ℕ, true, false, ◌&&◌, ◌||◌, List, codes, bytes_eq, Option, refl, sym, ◌∙◌, ap, ap₂, append-nil, not, subst, Bool}
use Rattle.std.proofs.lemmas.Bool.{and_parts}
use Rattle.std.specs.List.{AllByRecursion}
use Rattle.std.proofs.lemmas.Slice.Eq.{bytes_eq-Decides}
use Rattle.json_text.specs.Json.{Json}
use Rattle.mux_history.specs.declared.cause.Cause.{Cause}
use Rattle.mux_history.specs.declared.cause.Cause.TheVariants.{Joined, FromEditor, EditorGone, Started, StartFailed, FromServer, ServerGone, Tick}
use Rattle.rpc_message.specs.Message.{Message, request, notification, result, error, not_json, not_message, Id, message_of}
use Rattle.rpc_message.specs.ValueTexts.{IsIdText}
use Rattle.rpc_message.specs.Texts.{error_tree, invalid_request}
use Rattle.event_model.specs.declared.phase.Phase.{Phase}
use Rattle.event_model.specs.declared.phase.Phase.TheVariants.{Absent, New, Waiting, Answered, Running, Down, Closed, Gone}
use Rattle.event_model.specs.Event.{Event, behind, notifies, requests, with_cause}
use Rattle.event_model.specs.Phases.{is_running, desk_of, is_begun, is_malformed, is_served, is_there, makes_running}
use Rattle.event_model.specs.Requests.{is_open, open_of}
use Rattle.event_model.specs.Row.{Row, choose, nothing, outs, ◌⨾◌}
use Rattle.event_model.specs.Settings.{Settings}
use Rattle.event_model.specs.Stages.{life_of}
use Rattle.lsp_method.specs.Class.{class_of}
use Rattle.lsp_method.specs.declared.variants.Origin.TheVariants.{Editor}
use Rattle.mux_model.specs.Methods.{is_wrong}
use Rattle.mux_model.specs.Rows.{malformed_code, malformed_row}
use Rattle.mux_facts.specs.Ranges.{InRange}
use Rattle.mux_facts.proofs.Bodies.{malformed_says}
use Rattle.event_model.proofs.Frames.{never}
use Rattle.mux_facts.proofs.Reasons.{Because, by_nothing, by_send, by_choose, by_then}
use Rattle.mux_facts.proofs.Why.{is_early}
use Rattle.group_words.specs.Houses.{is_doubled, stops}
use Rattle.group_rows.specs.AskRows.{run_row}
use Rattle.group_rows.specs.Rows.{asks_lspmux, closing_row, down_row, early_code, early_row, exit_row, from_editor, lspmux_row, message_row, row_of, served_notice, served_request, served_row, taken_row, wrong_code}
use Rattle.group_facts.specs.Facts.{AllForwarded, IsAlone, is_parting, leaves, AllHeld}
use Rattle.group_facts.proofs.AskingRows.{response_why}
use Rattle.group_facts.proofs.AnswerRows.{server_why, start_why}
use Rattle.group_facts.proofs.Apart.{alone_by, alone_early}
use Rattle.group_facts.proofs.CancelRow.{cancel_why}
use Rattle.group_facts.proofs.DocumentRow.{document_why}
use Rattle.group_facts.proofs.ExitEntry.{failed_exit, gone_exit}
use Rattle.group_facts.proofs.ExitRow.{lost_why}
use Rattle.group_facts.proofs.Facts.{Facts}
use Rattle.group_facts.proofs.Multiplexer.{lspmux_apart}
use Rattle.group_rows.specs.held_requests.specs.declared.request.Request.{Request}
use Rattle.group_rows.proofs.CreatedKept.{held_told}
use Rattle.group_facts.proofs.Moved.{row_moved}
use Rattle.group_facts.proofs.NoticeRow.{notice_why}
use Rattle.group_facts.proofs.Paying.{debts_why}
use Rattle.group_facts.proofs.PartingRows.{closing_why, gone_why, or_second, shutdown_why}
use Rattle.group_facts.proofs.PlacingRow.{initialize_why}
use Rattle.group_facts.proofs.Quits.{asked_while}
use Rattle.group_facts.proofs.RequestRow.{R, asked, early_new, early_waiting, late_refused, not_own, open_why, request_why, status_why}
use Rattle.group_facts.proofs.Resuming.{run_questions, run_why, stays_there}
use Rattle.group_facts.proofs.SharedRows.{off_first}
use Rattle.group_facts.proofs.Still.{still_served}
use Rattle.group_facts.proofs.StopRow.{joined_why}
use Rattle.group_facts.proofs.StopWhy.{stop_why}
use Rattle.group_facts.proofs.TickRow.{tick_why}
use Rattle.group_facts.proofs.WorkRow.{work_why}
use Rattle.group_facts.proofs.Held.{unheld_by}
use Rattle.group_facts.proofs.HeldOn.{held_heard, unheld_heard, shutdown_not}
use Rattle.group_facts.specs.Why.{Why, rejects, IsUnheld}

module _ (settings : Settings) (range : InRange settings) (before : List Event) (facts : Facts settings before) (e : ℕ) (body : List ℕ) where
  abbrev Mine : Row → Type 0
  Mine row = Because (R settings before e body) (asked settings before e body) row

  asked_here : is_there (desk_of e before).phase ≡ true → AllForwarded settings before
  asked_here there = asked_while settings before (facts.steady).asked facts.quit e there

  held_here : AllHeld settings (asked settings before e body)
  held_here = held_heard settings before e body facts.quit (facts.steady).asked (facts.steady).held

  parting : is_there (desk_of e before).phase ≡ true → is_parting before e (message_of body) ≡ true → Mine (closing_row settings before e)
  parting there ends = closing_why settings range before (facts.base).opened (facts.steady).bounded (facts.steady).asks e body there ends

  exit_parts : (method : List ℕ) (params : Option Json) → message_of body ≡ notification method params → bytes_eq (codes "exit") method ≡ true → is_parting before e (message_of body) ≡ true
  exit_parts method params says is = ap (is_parting before e) says ∙ ap (λ b. b || false) is

  -- E9: `exit`
  exits : (m : Message) → message_of body ≡ m → is_there (desk_of e before).phase ≡ true → Mine (exit_row settings before e m)
  exits (notification method params) says there = by_choose (λ yes. parting there (exit_parts method params says yes)) (λ no. by_nothing)
  exits (request id method params) says there = by_nothing
  exits (result id r) says there = by_nothing
  exits (error id x) says there = by_nothing
  exits not_json says there = by_nothing
  exits not_message says there = by_nothing

  -- E8 to E10: of an editor that is served
  asked_why : (id : Id) (method : List ℕ) (params : Option Json) → message_of body ≡ request id method params → is_early (desk_of e before).phase ≡ false → is_there (desk_of e before).phase ≡ true → IsAlone settings before e id → IsUnheld settings before e id → Mine (served_request settings before e body method)
  asked_why id method params says late there lonely unheld = by_choose
      (λ misplaced. late_refused settings before e body id method params says there lonely (wrong_code method invalid_request) late)
      (λ placed. by_choose
      (λ down. shutdown_why settings range before (facts.base).opened (facts.steady).bounded (facts.steady).asks e body id method params says there late lonely held_here (λ g. subst (AllByRecursion (λ (r : Request). r.editor ≡ e → IsIdText id r.id → ⊥)) (sym (unheld_heard settings before e body (shutdown_not before e body id method params says down) g)) (unheld g)))
      (λ on. request_why settings before e body id method params says there lonely range (facts.base).opened late (not_own method (off_first (bytes_eq (codes "initialize") method) (is_wrong (class_of method Editor false)) placed) on) unheld))

  -- E9, E11 to E17
  noticed_why : (method : List ℕ) (params : Option Json) → message_of body ≡ notification method params → is_served (desk_of e before).phase ≡ true → is_there (desk_of e before).phase ≡ true → Mine (served_notice settings before e body method params)
  noticed_why method params says served there = by_choose
      (λ yes. parting there (exit_parts method params says yes))
      (λ no. by_choose
      (λ going. notice_why settings range before (facts.base).opened e body served method params says going)
      (λ off. by_choose
      (λ cancels. cancel_why settings range before (facts.steady).bounded e body served params (says ∙ ap (λ m. notification m params) (sym ((bytes_eq-Decides (codes "$/cancelRequest") method).0 cancels))) (facts.steady).held)
      (λ off. by_choose
      (λ works. work_why settings range before (facts.steady).bounded e body served params (says ∙ ap (λ m. notification m params) (sym ((bytes_eq-Decides (codes "window/workDoneProgress/cancel") method).0 works))))
      (λ other. document_why settings range before e body (facts.base).opened method params says (facts.base).meant served no))))

  served_why : (m : Message) → message_of body ≡ m → is_served (desk_of e before).phase ≡ true → is_early (desk_of e before).phase ≡ false → is_there (desk_of e before).phase ≡ true → is_doubled before e m ≡ false → Mine (served_row settings before e body m)
  served_why (request id method params) says served late there single = asked_why id method params says late there (alone_by settings before (asked_here there) e id single) (unheld_by settings before (facts.steady).held e id single)
  served_why (notification method params) says served late there single = noticed_why method params says served there
  served_why (result id r) says served late there single = response_why settings before (facts.steady).asks (λ s. held_told settings s before (facts.base).meant) e body (result id r) says
  served_why (error id x) says served late there single = response_why settings before (facts.steady).asks (λ s. held_told settings s before (facts.base).meant) e body (error id x) says
  served_why not_json says served late there single = response_why settings before (facts.steady).asks (λ s. held_told settings s before (facts.base).meant) e body not_json says
  served_why not_message says served late there single = response_why settings before (facts.steady).asks (λ s. held_told settings s before (facts.base).meant) e body not_message says

  -- behind `shutdown`
  down_why : (m : Message) → message_of body ≡ m → (desk_of e before).phase ≡ Down → is_doubled before e m ≡ false → Mine (down_row settings before e body m)
  down_why (request id method params) says at single = late_refused settings before e body id method params says (ap is_there at) (alone_by settings before (asked_here (ap is_there at)) e id single) (wrong_code method invalid_request) (ap is_early at)
  down_why (notification method params) says at single = exits (notification method params) says (ap is_there at)
  down_why (result id r) says at single = by_nothing
  down_why (error id x) says at single = by_nothing
  down_why not_json says at single = by_nothing
  down_why not_message says at single = by_nothing

  new_why : (m : Message) → message_of body ≡ m → (desk_of e before).phase ≡ New → Mine (taken_row settings before e body m New)
  new_why (request id method params) says at = by_choose
      (λ yes. initialize_why settings range before e body id params (says ∙ ap (λ z. request id z params) (sym ((bytes_eq-Decides (codes "initialize") method).0 yes))) at (facts.base).results (facts.steady).bounded)
      (λ no. early_new settings before e body id method params says (ap is_there at) (alone_early settings before (asked_here (ap is_there at)) e id (ap is_early at)) (early_code method) at no)
  new_why (notification method params) says at = by_choose (λ yes. absurd (cc)) (λ no. exits (notification method params) says (ap is_there at))
  new_why (result id r) says at = by_choose (λ yes. absurd (cc)) (λ no. by_nothing)
  new_why (error id x) says at = by_choose (λ yes. absurd (cc)) (λ no. by_nothing)
  new_why not_json says at = by_choose (λ yes. absurd (cc)) (λ no. by_nothing)
  new_why not_message says at = by_choose (λ yes. absurd (cc)) (λ no. by_nothing)

  waiting_why : (m : Message) → message_of body ≡ m → (desk_of e before).phase ≡ Waiting → is_doubled before e m ≡ false → Mine (early_row settings before e body m)
  waiting_why (request id method params) says at single = early_waiting settings before e body id method params says (ap is_there at) (alone_by settings before (asked_here (ap is_there at)) e id single) (early_code method) at single facts.waiting
  waiting_why (notification method params) says at single = exits (notification method params) says (ap is_there at)
  waiting_why (result id r) says at single = by_nothing
  waiting_why (error id x) says at single = by_nothing
  waiting_why not_json says at single = by_nothing
  waiting_why not_message says at single = by_nothing

  begun_there : (phase : Phase) → is_begun phase ≡ true → is_there phase ≡ true
  begun_there Waiting h = refl
  begun_there Answered h = refl
  begun_there Running h = refl
  begun_there Down h = refl
  begun_there Absent h = absurd (cc)
  begun_there New h = absurd (cc)
  begun_there Closed h = absurd (cc)
  begun_there Gone h = absurd (cc)

  unbegun_early : (phase : Phase) → is_there phase ≡ true → is_begun phase ≡ false → is_early phase ≡ true
  unbegun_early New there h = refl
  unbegun_early Absent there h = refl
  unbegun_early Waiting there h = refl
  unbegun_early Answered there h = absurd (cc)
  unbegun_early Running there h = absurd (cc)
  unbegun_early Down there h = absurd (cc)
  unbegun_early Closed there h = absurd (cc)
  unbegun_early Gone there h = absurd (cc)

  -- E4 to E6: a request of the multiplexer's own, of an editor that is there
  lspmux_why : (m : Message) → message_of body ≡ m → is_there (desk_of e before).phase ≡ true → asks_lspmux m ≡ true → (is_begun (desk_of e before).phase && is_doubled before e m) ≡ false → Mine (lspmux_row settings before e body m)
  lspmux_why (request id method params) says there asks single = by_choose
      (λ names. open_why settings before e body id method params says there alone_here other fresh facts.waiting (request id method params))
      (λ others. by_choose
      (λ stop. stop_why settings range before (facts.steady).bounded (facts.steady).apart facts.waiting (asked_here there) e body held_here id method params says there alone_here other fresh (stops_all stop))
      (λ tells. status_why settings before e body id method params says there alone_here other fresh facts.waiting))
    where
      stops_all : requests (codes "lspmux/stop") (request id method params) ≡ true → stops before e (message_of body) ≡ true
      stops_all stop = ap (stops before e) says ∙ ap₂ (λ a b. a && b) stop (ap₂ (λ a b. a && b) there (ap not single))

      lonely : (b : Bool) → is_begun (desk_of e before).phase ≡ b → IsAlone settings before e id
      lonely true begun = alone_by settings before (asked_here there) e id (ap (λ b. b && is_open id (open_of e before)) (sym begun) ∙ single)
      lonely false unbegun = alone_early settings before (asked_here there) e id (unbegun_early (desk_of e before).phase there unbegun)

      alone_here : IsAlone settings before e id
      alone_here = lonely (is_begun (desk_of e before).phase) refl

      other : requests (codes "initialize") (message_of body) ≡ false
      other = ap (requests (codes "initialize")) says ∙ lspmux_apart (codes "initialize") method refl refl refl asks

      fresh : (desk_of e before).phase ≡ Waiting → is_open id (open_of e before) ≡ false
      fresh at = ap (λ p. is_begun p && is_open id (open_of e before)) (sym at) ∙ single
  lspmux_why (notification method params) says there asks single = absurd (cc)
  lspmux_why (result id r) says there asks single = absurd (cc)
  lspmux_why (error id x) says there asks single = absurd (cc)
  lspmux_why not_json says there asks single = absurd (cc)
  lspmux_why not_message says there asks single = absurd (cc)

  taken_why : (phase : Phase) → (desk_of e before).phase ≡ phase → (is_begun phase && is_doubled before e (message_of body)) ≡ false → Mine (taken_row settings before e body (message_of body) phase)
  taken_why New at single = new_why (message_of body) refl at
  taken_why Waiting at single = waiting_why (message_of body) refl at single
  taken_why Answered at single = begun_why (makes_running (message_of body)) refl
    where
      here : Mine (served_row settings before e body (message_of body))
      here = served_why (message_of body) refl (ap is_served at) (ap is_early at) (ap is_there at) single

      stays : makes_running (message_of body) ≡ true → leaves settings before (FromEditor e body) e ≡ false
      stays runs = stays_there settings before e body at runs single

      begun_why : (b : Bool) → makes_running (message_of body) ≡ b → Mine (choose (makes_running (message_of body)) (run_row settings before e) nothing ⨾ served_row settings before e body (message_of body))
      begun_why true runs = by_then (subst (λ c. Mine (choose c (run_row settings before e) nothing)) (sym runs) (by_choose (λ yes. run_why settings before e body at runs (stays runs) (facts.steady).asks (facts.base).meant) (λ no. by_nothing)))
          (subst (λ c. Because (R settings before e body) (behind (asked settings before e body) (outs (choose c (run_row settings before e) nothing) (asked settings before e body))) (served_row settings before e body (message_of body))) (sym runs)
          (row_moved settings before e body runs (ap is_running at) (outs (run_row settings before e) (asked settings before e body)) (run_questions settings before e body at runs (stays runs) (facts.steady).asks (facts.base).meant) (facts.base).meant (served_row settings before e body (message_of body)) (still_served settings before e body (facts.steady).held (ap is_running at) (message_of body) refl runs) here))
      begun_why false stops = by_then (by_choose (λ yes. never (sym yes ∙ stops)) (λ no. by_nothing))
          (subst (λ c. Because (R settings before e body) (behind (asked settings before e body) (outs (choose c (run_row settings before e) nothing) (asked settings before e body))) (served_row settings before e body (message_of body))) (sym stops)
          (subst (λ z. Because (R settings before e body) z (served_row settings before e body (message_of body))) (sym (append-nil (asked settings before e body))) here))
  taken_why Running at single = served_why (message_of body) refl (ap is_served at) (ap is_early at) (ap is_there at) single
  taken_why Down at single = down_why (message_of body) refl at single
  taken_why Absent at single = by_nothing
  taken_why Closed at single = by_nothing
  taken_why Gone at single = by_nothing

  message_why : (phase : Phase) → (desk_of e before).phase ≡ phase → Mine (message_row settings before e body (message_of body) phase)
  message_why phase at = by_choose
      (λ twice. let p = and_parts (is_begun phase) (is_doubled before e (message_of body)) twice in parting (ap is_there at ∙ begun_there phase p.0) (or_second (notifies (codes "exit") (message_of body)) (is_doubled before e (message_of body)) p.1))
      (λ single. by_choose
      (λ asks. let p = and_parts (is_there phase) (asks_lspmux (message_of body)) asks in lspmux_why (message_of body) refl (ap is_there at ∙ p.0) p.1 (ap (λ p. is_begun p && is_doubled before e (message_of body)) at ∙ single))
      (λ other. taken_why phase at single))

  editor_why : Mine (from_editor settings before e body (message_of body) (desk_of e before).phase)
  editor_why = by_choose (λ malformed. rejected malformed) (λ fine. message_why (desk_of e before).phase refl)
    where
      rejected : is_malformed (message_of body) ≡ true → Mine (malformed_row e (message_of body) (desk_of e before).phase)
      rejected malformed = by_choose
          (λ there. by_send (rejects (record { asked = body; x = error_tree (malformed_code (message_of body)); there = there; from = refl; place = refl; malformed = malformed; says = malformed_says (message_of body) })))
          (λ gone. by_nothing)

module _ (settings : Settings) (range : InRange settings) (before : List Event) (facts : Facts settings before) where
  -- every out of every entry has its reason
  pub reasons : (cause : Cause) → Because (Why settings before cause) (with_cause before cause) (row_of settings before cause)
  reasons (FromEditor e body) = let said_so = editor_why settings range before facts e body in by_then said_so (debts_why settings before e body (facts.base).meant (outs (from_editor settings before e body (message_of body) (desk_of e before).phase) (with_cause before (FromEditor e body))) said_so.why)
  reasons (EditorGone e why) = gone_why settings range before (facts.base).opened (facts.steady).bounded (facts.steady).asks e why (desk_of e before).phase
  reasons (FromServer s body) = server_why settings range before s body (facts.base).opened (facts.steady).untold (facts.steady).held facts.waiting (asked_while settings before (facts.steady).asked facts.quit) (facts.steady).apart (facts.base).meant (facts.steady).asks (facts.base).written (life_of s before).stage refl
  reasons (Joined e) = joined_why settings before e
  reasons (Started s) = start_why settings before s (facts.base).written (life_of s before).stage refl
  reasons (Tick t) = tick_why settings range.requests before (facts.steady).bounded t
  reasons (StartFailed s) = lost_why settings before facts (StartFailed s) s (failed_exit settings before s)
  reasons (ServerGone s) = lost_why settings before facts (ServerGone s) s (gone_exit settings before s)
  reasons cause = by_nothing
