-- What is open at an editor, behind the entry of a message of its own.
use Rattle.std.proofs.Common.{◌≡◌, ℕ, Bool, true, false, not, ◌&&◌, ◌||◌, List, [], ◌∷◌, ◌++◌, map, nat_eq, codes, decimal, if◌then◌else◌, Option, Some, None, ◌⊎◌, inl, inr, refl, sym, ◌∙◌, ap, ap₂, subst, subst₂, append-nil, append_assoc, bytes_eq}
use Rattle.std.specs.List.{AllByRecursion}
use Rattle.std.proofs.lemmas.Bool.{and_parts}
use Rattle.std.proofs.lemmas.Slice.Eq.{bytes_eq-Decides}
use Rattle.json_text.specs.declared.kind.Word.TheVariants.{Null}
use Rattle.json_text.specs.Json.{Json, word}
use Rattle.document_model.specs.Sayings.{Saying, changes, closes, misshapen, opens, saying_by}
use Rattle.document_model.specs.Sayings as saying
use Rattle.lsp_method.specs.Class.{class_of}
use Rattle.lsp_method.specs.declared.variants.Origin.TheVariants.{Editor}
use Rattle.mux_history.specs.declared.cause.Cause.TheVariants.{FromEditor}
use Rattle.mux_history.specs.declared.out.Out.{Out}
use Rattle.mux_history.specs.declared.out.Out.TheVariants.{ToEditor, ToServer, Spawn, CloseEditor, EndServer}
use Rattle.rpc_message.specs.Message.{Message, request, notification, result, error, not_json, not_message, Id, id_bytes, integer, message_of}
use Rattle.rpc_message.specs.Texts.{with_id_text, Code, error_text, error_tree, invalid_params, invalid_request, ok_text, request_failed}
use Rattle.rpc_message.proofs.Ids.{request_id_bytes}
use Rattle.event_model.specs.declared.phase.Phase.{Phase}
use Rattle.event_model.specs.declared.phase.Phase.TheVariants.{Absent, New, Waiting, Answered, Running, Down, Closed, Gone}
use Rattle.event_model.specs.Event.{Event, behind, heard, requests, said, with_cause}
use Rattle.event_model.specs.Members.{params_of}
use Rattle.event_model.specs.Phases.{is_running, is_served, Desk, desk_hears, desk_of, has_id, is_begun, is_linked, is_new, is_there, makes_running, phase_told, desk_behind}
use Rattle.event_model.specs.Requests.{answered_id, with_request, is_open, is_own, open_of, without, open_behind}
use Rattle.event_model.specs.Row.{each, Row, choose, nothing, on, outs, send, ◌⨾◌}
use Rattle.event_model.specs.Settings.{Settings}
use Rattle.event_model.specs.Spawns.{start_of}
use Rattle.event_model.proofs.Frames.{never}
use Rattle.mux_model.specs.Documents.{held_at}
use Rattle.mux_model.specs.Methods.{goes_on, is_wrong}
use Rattle.mux_model.specs.Rows.{malformed_code, malformed_row, malformed_text, to_start}
use Rattle.mux_facts.specs.Ranges.{InRange}
use Rattle.mux_facts.proofs.Bodies.{malformed_says, refusal_says}
use Rattle.mux_facts.proofs.Folds.{desk_more, opens_more}
use Rattle.mux_facts.proofs.Keeps.{behind_both}
use Rattle.mux_facts.proofs.Lists.{all_of}
use Rattle.mux_facts.proofs.Late.{error_told}
use Rattle.mux_facts.proofs.Reasons.{Because, by_nothing, by_send, by_then, by_choose, by_on}
use Rattle.mux_facts.proofs.Table.{late_taken}
use Rattle.mux_facts.proofs.Why.{is_early}
use Rattle.mux_facts.proofs.Words.{same_id_itself, same_number}
use Rattle.group_words.specs.Houses.{home_of, house_of, is_doubled, is_first_open, placed_for, places, server_asked, stops, is_home}
use Rattle.group_words.specs.Placing.{home_by}
use Rattle.group_words.specs.Rows.{initialize_row}
use Rattle.group_words.proofs.Frames.{home_more}
use Rattle.group_rows.specs.AskRows.{hand_back, response_at, response_row, run_row, debts_row}
use Rattle.group_rows.specs.Cancelling.{cancelling_at, cancelling_row}
use Rattle.group_rows.specs.Forwarded.{Forwarding, first_sender, forwarding_of, numbered, token_in, sender_or}
use Rattle.group_rows.specs.diagnostics_route.specs.declared.last_list.LastList.{LastList}
use Rattle.group_rows.specs.diagnostics_route.specs.Rows.{is_of}
use Rattle.group_rows.specs.diagnostics_route.specs.Shown.{shown_text}
use Rattle.group_rows.specs.ListRows.{show_full, show_opened}
use Rattle.group_rows.specs.Lists.{lists_of, version_at}
use Rattle.group_rows.proofs.Versions.{AllMeant, meant_heard, meant_more}
use Rattle.group_rows.specs.Leaves.{leave_row}
use Rattle.group_rows.specs.Created.{Taking, accepts, created_of, created_text, is_answered as is_settled}
use Rattle.group_rows.specs.CreatedRows.{created_work, hand_out, taking_row, tell, work_at, work_row}
use Rattle.group_rows.specs.Tokens.{forwarded_text, marked_text}
use Rattle.group_rows.specs.Reserved.{reserves}
use Rattle.group_rows.specs.Rows.{answer_error, asks_lspmux, begun_row, can_ask, closing_row, document_at, document_bodies, document_row, early_code, early_row, exit_row, forward, from_editor, lspmux_row, message_row, named_row, names_lspmux, notice_at, notice_row, open_row, outs_of, request_at, request_row, served_request, served_row, shutdown_row, status_row, sync_bodies, sync_row, taken_row, told_row, wrong_code, may_wait, cancel_row}
use Rattle.group_rows.specs.Waiting.{is_misplaced, worker_of, waits, waiting_of, waiting_named, is_for_start, refuse_held, cancel_waiting, cancelled_text}
use Rattle.group_rows.specs.Status.{items_of, status_text}
use Rattle.group_rows.proofs.Statuses.{told_tree}
use Rattle.group_rows.specs.Texts.{encoding_of, texts_of}
use Rattle.group_rows.specs.Asks.{Ask, is_seated, asks_of}
use Rattle.event_model.specs.Stages.{is_ready, life_of}
use Rattle.std.specs.Prelude.{find}
use Rattle.group_facts.proofs.AskingRows.{running_is, still_runs}
use Rattle.group_facts.specs.Facts.{is_crowded}
use Rattle.group_facts.specs.Why.{IsForward, IsQuestion, IsUnheld}
use Rattle.group_facts.specs.Settled.{is_answered}
use Rattle.group_facts.proofs.Apart.{alone_by}
use Rattle.group_facts.proofs.Begun.{NoSpawn, all_outs, bodies_by, leave_by, quiet_bodies, start_did, start_took, starts_stay}
use Rattle.group_facts.proofs.Facts.{Facts}
use Rattle.group_facts.proofs.Forwards.{more_requests}
use Rattle.group_facts.proofs.Numbers.{forwarding_sent}
use Rattle.group_facts.proofs.Multiplexer.{lspmux_apart}
use Rattle.group_facts.proofs.Nulls.{null_said}
use Rattle.group_facts.proofs.RequestRow.{beside, beside_other, desk_taken, is_forward, not_own, status_said, synced_sender}
use Rattle.group_facts.proofs.Resuming.{run_questions, stays_there}
use Rattle.group_facts.proofs.Shown.{behind_full}
use Rattle.group_facts.proofs.Same.{IsBody, same_behind, same_questions, sym_same}
use Rattle.group_facts.proofs.Still.{Goes, Still, goes_body, still_served}
use Rattle.group_facts.proofs.Sent.{IsOf, OneOf, SentAt, one_last}
use Rattle.group_facts.proofs.PutOut.{home_did, homes_stay}
use Rattle.group_facts.proofs.OpenByPhase.{if_passed, OpenDesk, OpenIf, if_asked, if_hears, if_null, if_other, reply_told, without_last, answered_closed}
use Rattle.group_facts.proofs.SharedRows.{off_first}
use Rattle.group_facts.proofs.Waiting.{new_is, turned_outs}
use Rattle.group_facts.proofs.OpenByOut.{OpenAt, S, open_at, open_closed, open_moved, open_sent, open_still, or_later, told, away}
use Rattle.group_rows.specs.StopRows.{stop_row, lose_waiting}
use Rattle.group_facts.proofs.Quits.{asked_while}
use Rattle.group_facts.proofs.Taken.{IsBy, TakenAt, WaitsAt, taken_heard, taken_told}
use Rattle.group_facts.proofs.SentOn.{worker_more, worker_still}
use Rattle.group_facts.proofs.SendRow.{worker_said}
use Rattle.group_facts.proofs.Held.{unheld_by}
use Rattle.group_facts.proofs.HeldOn.{served_late}
use Rattle.group_facts.proofs.HeldOuts.{kept_refused}
use Rattle.group_rows.proofs.Frames.{waiting_more}
use Rattle.group_rows.specs.held_requests.specs.declared.request.Request.{Request}
use Rattle.group_rows.specs.held_requests.specs.Tables.{asked}
use Rattle.group_facts.proofs.Askers.{late_said}
use Rattle.std.specs.Option.{option_map_or, option_and_then}
use Rattle.group_facts.proofs.Paying.{debts_questions}

-- no request is excused
abbrev pub Nobody : Id → Type 0
Nobody id = ⊥

-- Outs that are bodies to starts

abbrev ToStart : Out → Type 0
ToStart (ToServer s body) = Unit {0}
ToStart other = ⊥

starts_bodies : (s : ℕ) (bodies : List (List ℕ)) (events : List Event) → Because (λ places out. ToStart out) events (to_start s bodies)
starts_bodies s bodies events = bodies_by (λ places out. ToStart out) (λ places s b. tt) s bodies events

open_bodies : (settings : Settings) (e : ℕ) (E : Id → Type 0) (w : ℕ) (events : List Event) (xs : List Out) → AllByRecursion ToStart xs → worker_of events ≡ Some w → OpenAt settings e E events → OpenAt settings e E (behind events xs)
open_bodies settings e E w events [] all works h = subst (OpenAt settings e E) (sym (append-nil events)) h
open_bodies settings e E w events (ToServer s body ∷ xs) all works h = subst (OpenAt settings e E) (append_assoc events (said (ToServer s body) ∷ []) (map said xs))
    (open_bodies settings e E w (events ++ said (ToServer s body) ∷ []) xs all.1 (worker_said events (ToServer s body) ∙ works) (open_sent settings e E events s body w works h))
open_bodies settings e E w events (ToEditor n body ∷ xs) all works h = absurd (all.0)
open_bodies settings e E w events (Spawn s g ∷ xs) all works h = absurd (all.0)
open_bodies settings e E w events (CloseEditor n ∷ xs) all works h = absurd (all.0)
open_bodies settings e E w events (EndServer s ∷ xs) all works h = absurd (all.0)

-- where all of these don't hold, none does
none_of : (a b c d f : Bool) → a ≡ false → b ≡ false → c ≡ false → d ≡ false → f ≡ false → (not a && (not b && (not c && (not d && not f)))) ≡ true
none_of false false false false false h i j k l = refl
none_of true b c d f h i j k l = never h
none_of false true c d f h i j k l = never i
none_of false false true d f h i j k l = never j
none_of false false false true f h i j k l = never k
none_of false false false false true h i j k l = never l

answered_old : (phase : Phase) → is_answered phase ≡ true → is_new phase ≡ false
answered_old New h = absurd (cc)
answered_old Absent h = refl
answered_old Waiting h = refl
answered_old Answered h = refl
answered_old Running h = refl
answered_old Down h = refl
answered_old Closed h = refl
answered_old Gone h = refl

and_no : (a b c : Bool) → b ≡ false → (a && (b && c)) ≡ false
and_no true b c h = ap (λ z. z && c) h
and_no false b c h = refl

module _ (settings : Settings) (before : List Event) (n : ℕ) (body : List ℕ) where
  abbrev now : List Event
  now = with_cause before (FromEditor n body)

  abbrev ids : List Id
  ids = open_of n before

  abbrev here : Desk
  here = desk_of n now

  abbrev Rests : List Out → Type 0
  Rests xs = OpenAt settings n Nobody (behind now xs)

  abbrev told_now : List ℕ → List Event
  told_now text = now ++ said (ToEditor n text) ∷ []

  open_now : open_of n now ≡ with_request (message_of body) ids
  open_now = opens_more n before (heard (FromEditor n body)) ∙ ap (λ b. if b then with_request (message_of body) ids else ids) (same_number n)

  -- its message is at work
  works_now : worker_of now ≡ Some n
  works_now = worker_more before (heard (FromEditor n body))

  -- a request of the multiplexer's own, or what this row gives
  abbrev or_lspmux : Id → List ℕ → Option Json → Row → Row
  or_lspmux id method params row = choose (names_lspmux method) (lspmux_row settings before n body (request id method params)) row

  -- a body to it
  open_told : (E : Id → Type 0) (events : List Event) (text : List ℕ) (m : Message) → message_of text ≡ m
      → OpenIf (S settings n E (events ++ said (ToEditor n text) ∷ [])) (phase_told (desk_of n events).phase (desk_of n events).initialize m) (desk_of n events).initialize (without (answered_id m) (open_of n events)) → OpenAt settings n E (events ++ said (ToEditor n text) ∷ [])
  open_told E events text m says h = open_at settings n E events (said (ToEditor n text)) (go (nat_eq n n) (same_number n))
    where
      go : (b : Bool) → b ≡ true → OpenDesk (S settings n E (events ++ said (ToEditor n text) ∷ [])) (if b then told settings n E events text else desk_of n events) (if b then without (answered_id (message_of text)) (open_of n events) else open_of n events)
      go true same = subst (λ k. OpenIf (S settings n E (events ++ said (ToEditor n text) ∷ [])) (phase_told (desk_of n events).phase (desk_of n events).initialize k) (desk_of n events).initialize (without (answered_id k) (open_of n events))) (sym says) h
      go false same = never (sym same)

  -- any body to an editor, where it got its result
  told_any : (E : Id → Type 0) (events : List Event) (k : ℕ) (text : List ℕ) → is_early (desk_of n events).phase ≡ false → OpenAt settings n E events → OpenAt settings n E (events ++ said (ToEditor k text) ∷ [])
  told_any E events k text late h = open_at settings n E events (said (ToEditor k text)) (if_other (S settings n E events) (S settings n E (events ++ said (ToEditor k text) ∷ []))
      (desk_behind n (desk_of n events) (said (ToEditor k text))).phase (desk_behind n (desk_of n events) (said (ToEditor k text))).initialize (open_behind n (open_of n events) (said (ToEditor k text)))
      (λ served i is. or_later settings n E events (events ++ said (ToEditor k text) ∷ []) i (taken_told settings n i events k text (away settings n E events k text i is))) (pick (nat_eq k n)))
    where
      pick : (b : Bool) → OpenDesk (S settings n E events) (if b then told settings n E events text else desk_of n events) (if b then without (answered_id (message_of text)) (open_of n events) else open_of n events)
      pick true = if_passed (S settings n E events) (desk_of n events).phase (desk_of n events).initialize (open_of n events) (message_of text) late h
      pick false = h

  module _ (h : OpenAt settings n Nobody before) where
    -- what it sent before is still sent
    still_sent : (E : Id → Type 0) → OpenIf (S settings n E now) (desk_of n before).phase (desk_of n before).initialize ids
    still_sent E = if_other (S settings n Nobody before) (S settings n E now) (desk_of n before).phase (desk_of n before).initialize ids (λ served id is k. go id served k) h
      where
        go : (id : Id) → is_answered (desk_of n before).phase ≡ true → TakenAt settings before n id ⊎ ⊥ → TakenAt settings now n id ⊎ E id
        go id served (inl k) = inl (taken_heard settings n id before n body (and_no (nat_eq n n) (is_new (desk_of n before).phase) (requests (codes "initialize") (message_of body)) (answered_old (desk_of n before).phase served)) k)
        go id served (inr k) = absurd k

    heard_if : (E : Id → Type 0) → ((desk_of n before).phase ≡ New → requests (codes "initialize") (message_of body) ≡ false) → OpenIf (S settings n E now) here.phase here.initialize ids
    heard_if E other = subst (λ (d : Desk). OpenIf (S settings n E now) d.phase d.initialize ids) (sym (desk_taken settings before n body))
        (if_hears (S settings n E now) (desk_of n before).phase (desk_of n before).initialize body (message_of body) ids other (still_sent E))

    -- a message that is no request
    no_request : (m : Message) → message_of body ≡ m → with_request m ids ≡ ids → requests (codes "initialize") m ≡ false → OpenAt settings n Nobody now
    no_request m says same none = subst (λ z. OpenIf (S settings n Nobody now) here.phase here.initialize z) (sym (open_now ∙ ap (λ k. with_request k ids) says ∙ same)) (heard_if Nobody (λ new. ap (requests (codes "initialize")) says ∙ none))

    -- behind an out of its own it leaves (L1)
    left_there : (events : List Event) (out : Out) → worker_of events ≡ Some n → OpenAt settings n Nobody (events ++ said out ∷ []) → OpenAt settings n Nobody (behind events (out ∷ outs (leave_row settings before n) (events ++ said out ∷ [])))
    left_there events out works h = subst (OpenAt settings n Nobody) (sym (behind_both events (out ∷ []) (outs (leave_row settings before n) (events ++ said out ∷ []))))
        (open_bodies settings n Nobody n (events ++ said out ∷ []) (outs (leave_row settings before n) (events ++ said out ∷ []))
        (all_outs ToStart (events ++ said out ∷ []) (outs (leave_row settings before n) (events ++ said out ∷ [])) (leave_by (λ places out. ToStart out) (λ places s b. tt) settings before n (events ++ said out ∷ [])).why) (worker_said events out ∙ works) h)

    left_rests : (out : Out) → OpenAt settings n Nobody (now ++ said out ∷ []) → Rests (out ∷ outs (leave_row settings before n) (now ++ said out ∷ []))
    left_rests out h = left_there now out works_now h

    rests_here : OpenAt settings n Nobody now → Rests []
    rests_here k = subst (OpenAt settings n Nobody) (sym (append-nil now)) k

    -- one that is none at all
    malformed_rests : (m : Message) (phase : Phase) → message_of body ≡ m → with_request m ids ≡ ids → requests (codes "initialize") m ≡ false → Rests (outs (malformed_row n m phase) now)
    malformed_rests m phase says same none = go (is_there phase)
      where
        heard : OpenAt settings n Nobody now
        heard = no_request m says same none

        no_id : (id : Id) → ◌≡◌ {A = Option Id} None (Some id) → ⊥
        no_id id clash = absurd (cc)

        go : (b : Bool) → Rests (outs (choose b (send (ToEditor n (malformed_text m))) nothing) now)
        go true = open_told Nobody now (malformed_text m) (error None (error_tree (malformed_code m))) (malformed_says m)
            (if_null (S settings n Nobody (told_now (malformed_text m))) here.phase here.initialize (open_of n now) (error_tree (malformed_code m)) (open_still settings n Nobody now (told_now (malformed_text m)) (λ id. taken_told settings n id now n (malformed_text m) (λ same its. no_id id (sym (ap answered_id (malformed_says m)) ∙ its))) heard))
        go false = rests_here heard

    -- Requests

    module _ (id : Id) (method : List ℕ) (params : Option Json) (says : message_of body ≡ request id method params) (fresh : is_open id ids ≡ false) where
      asked_now : open_of n now ≡ ids ++ id ∷ []
      asked_now = open_now ∙ ap (λ m. with_request m ids) says

      -- an answer to it answers no other one
      apart : (m : Message) → answered_id m ≡ Some id → (i : Id) → is_open i ids ≡ true → answered_id m ≡ Some i → ⊥
      apart m mine i is its = let same : ◌≡◌ {A = Option Id} (Some i) (Some id) = sym its ∙ mine in never (sym is ∙ (ap (λ o. option_map_or (λ k. is_open k ids) o false) same ∙ fresh))

      -- refused in its own entry
      refused : ((desk_of n before).phase ≡ New → requests (codes "initialize") (message_of body) ≡ false) → (code : Code) → Rests (ToEditor n (error_text (id_bytes body) code) ∷ [])
      refused other code = open_told Nobody now (error_text (id_bytes body) code) (error (Some id) (error_tree code)) (refusal_says body id method params code says)
          (subst₂ (λ p z. OpenIf (S settings n Nobody (told_now (error_text (id_bytes body) code))) p here.initialize z) (sym (error_told here.phase here.initialize (Some id) (error_tree code))) (sym (ap (without (Some id)) asked_now ∙ without_last id ids fresh))
          (if_other (S settings n Nobody now) (S settings n Nobody (told_now (error_text (id_bytes body) code))) here.phase here.initialize ids (λ served i is. or_later settings n Nobody now (told_now (error_text (id_bytes body) code)) i (taken_told settings n i now n (error_text (id_bytes body) code) (λ same. apart (message_of (error_text (id_bytes body) code)) (ap answered_id (refusal_says body id method params code says)) i is))) (heard_if Nobody other)))

      -- or sent on
      module _ (range : InRange settings) (facts : Facts settings before) (there : is_there (desk_of n before).phase ≡ true) (late : is_early (desk_of n before).phase ≡ false) (other : is_own method ≡ false)
          (served : is_served (desk_of n before).phase ≡ true) (foreign : names_lspmux method ≡ false) (placed : is_misplaced method ≡ false) (going : bytes_eq (codes "shutdown") method ≡ false) where
        no_first : (desk_of n before).phase ≡ New → requests (codes "initialize") (message_of body) ≡ false
        no_first new = never (sym (ap is_early new) ∙ late)

        home_heard : home_of settings n now ≡ home_of settings n before
        home_heard = home_more settings n before (heard (FromEditor n body))
            ∙ ap (λ b. if b then home_by (placed_for settings before n body (house_of settings before).groups) (home_of settings n before) else home_of settings n before)
            (and_no (nat_eq n n) (is_new (desk_of n before).phase) (requests (codes "initialize") (message_of body)) (old (desk_of n before).phase late))
          where
            old : (phase : Phase) → is_early phase ≡ false → is_new phase ≡ false
            old New e = absurd (cc)
            old Absent e = refl
            old Waiting e = refl
            old Answered e = refl
            old Running e = refl
            old Down e = refl
            old Closed e = refl
            old Gone e = refl

        unheld : IsUnheld settings before n id
        unheld = unheld_by settings before (facts.steady).held n id fresh

        module _ (g s : ℕ) (home : home_of settings n before ≡ Some g) (start : start_of g before ≡ Some s) (can : can_ask settings s before ≡ true) (free : reserves (params_of body) ≡ false) where
          abbrev sync : List Out
          sync = outs (sync_row settings before g s n) now

          abbrev synced : List Event
          synced = behind now sync

          abbrev text : List ℕ
          text = forwarded_text (forwarding_of settings s synced).next body

          abbrev gone : List Event
          gone = synced ++ said (ToServer s text) ∷ []

          -- it alone isn't sent yet
          Itself : Id → Type 0
          Itself i = i ≡ id

          asked_open : OpenAt settings n Itself now
          unfolding Itself
          asked_open = subst (OpenIf (S settings n Itself now) here.phase here.initialize) (sym asked_now)
              (if_asked (S settings n Itself now) here.phase here.initialize ids id (late_taken before n body late) (inr refl) (heard_if Itself no_first))

          quiet_sync : AllByRecursion NoSpawn sync
          quiet_sync = all_outs NoSpawn now sync (quiet_bodies s _ now).why

          forward_is : IsForward settings before (FromEditor n body) synced s text
          forward_is = is_forward settings before n body id method params says there (alone_by settings before (asked_while settings before (facts.steady).asked facts.quit n there) n id fresh) range (facts.base).opened late other unheld g s home start can free

          list_now : (forwarding_of settings s gone).open_requests ≡ (forwarding_of settings s synced).open_requests ++ numbered (Some (record { editor = n; id = id_bytes body; work = token_in (codes "workDoneToken") body; partial = token_in (codes "partialResultToken") body })) (forwarding_of settings s synced).next
          list_now = ap (λ (x : Forwarding). x.open_requests) (forwarding_sent settings synced s text (request (integer (decimal (forwarding_of settings s synced).next)) forward_is.method forward_is.params) forward_is.says
              ∙ ap (λ c. if c then forwarding_of settings s synced else more_requests (first_sender settings s synced) (forwarding_of settings s synced)) forward_is.other)
              ∙ ap (λ o. (forwarding_of settings s synced).open_requests ++ numbered (sender_or o (first_sender settings s synced)) (forwarding_of settings s synced).next) (synced_sender settings before n body id method params says there (alone_by settings before (asked_while settings before (facts.steady).asked facts.quit n there) n id fresh) range (facts.base).opened late other unheld g s home start can free)

          sent_now : SentAt settings gone n id
          sent_now = record {
            group = g;
            start = s;
            home = home_did settings n synced (ToServer s text) ∙ homes_stay settings n now sync ∙ home_heard ∙ home;
            last = start_did g synced (ToServer s text) tt ∙ starts_stay g now sync quiet_sync ∙ start_took g before (FromEditor n body) ∙ start;
            among = subst (OneOf (IsOf n id)) (sym list_now) (one_last (IsOf n id) (forwarding_of settings s synced).open_requests (record { number = (forwarding_of settings s synced).next; editor = n; id = id_bytes body; work = token_in (codes "workDoneToken") body; partial = token_in (codes "partialResultToken") body; cancelled = false }) (refl, request_id_bytes body id method params says));
          }

          forwarded_rests : Rests (sync ++ ToServer s text ∷ [])
          unfolding Itself
          forwarded_rests = subst (OpenAt settings n Nobody) (sym (behind_both now sync (ToServer s text ∷ [])))
              (if_other (S settings n Itself gone) (S settings n Nobody gone) (desk_of n gone).phase (desk_of n gone).initialize (open_of n gone) (λ served i is k. go i k)
              (open_sent settings n Itself synced s text n (worker_still before n body sync) (open_bodies settings n Itself n now sync (all_outs ToStart now sync (starts_bodies s _ now).why) works_now asked_open)))
            where
              go : (i : Id) → TakenAt settings gone n i ⊎ (i ≡ id) → TakenAt settings gone n i ⊎ ⊥
              go i (inl k) = inl k
              go i (inr same) = inl (inl (subst (SentAt settings gone n) (sym same) sent_now))

        -- it waits
        module _ (g : ℕ) (home : home_of settings n before ≡ Some g) (free : reserves (params_of body) ≡ false) (may : may_wait settings before n body g ≡ true) where
          takes_it : waits settings g before n body (message_of body) (waiting_of settings g before) ≡ true
          takes_it = ap₂ (λ a b. a && b) (ap₂ (λ a b. a && b) (ap (is_home g) home ∙ same_number g) served)
              (ap₂ (λ a b. a && b) (ap (is_for_start before n body) says ∙ none_of (is_open id ids) (names_lspmux method) (is_misplaced method) (bytes_eq (codes "shutdown") method) (reserves (params_of body)) fresh foreign placed going free) may)

          kept_now : WaitsAt settings now n id
          kept_now = record {
            group = g;
            home = home_heard ∙ home;
            among = subst (OneOf (IsBy n id)) (sym (waiting_more settings g before (heard (FromEditor n body)) ∙ ap (λ b. if b then waiting_of settings g before ++ asked n (id_bytes body) body ∷ [] else waiting_of settings g before) takes_it))
                (one_last (IsBy n id) (waiting_of settings g before) (asked n (id_bytes body) body) (refl, request_id_bytes body id method params says));
          }

          waits_rests : Rests []
          waits_rests = rests_here (subst (OpenIf (S settings n Nobody now) here.phase here.initialize) (sym asked_now)
              (if_asked (S settings n Nobody now) here.phase here.initialize ids id (late_taken before n body late) (inl (inr kept_now)) (heard_if Nobody no_first)))

        -- E10
        by_can : (g s : ℕ) → reserves (params_of body) ≡ false → home_of settings n before ≡ Some g → start_of g before ≡ Some s → (b : Bool) → can_ask settings s before ≡ b
            → Rests (outs (choose b (sync_row settings before g s n ⨾ forward settings s body) (choose (may_wait settings before n body g) nothing (answer_error n body request_failed))) now)
        by_can g s free home start true can = forwarded_rests g s home start can free
        by_can g s free home start false can = go (may_wait settings before n body g) refl
          where
            go : (c : Bool) → may_wait settings before n body g ≡ c → Rests (outs (choose c nothing (answer_error n body request_failed)) now)
            go true may = waits_rests g home free may
            go false full = refused no_first request_failed

        by_start : (g : ℕ) → reserves (params_of body) ≡ false → home_of settings n before ≡ Some g → (o : Option ℕ) → start_of g before ≡ o → Rests (outs (on o (answer_error n body request_failed) (request_at settings before n body g)) now)
        by_start g free home None start = refused no_first request_failed
        by_start g free home (Some s) start = by_can g s free home start (can_ask settings s before) refl

        by_home : reserves (params_of body) ≡ false → (o : Option ℕ) → home_of settings n before ≡ o → Rests (outs (on o (answer_error n body request_failed) (λ g. on (start_of g before) (answer_error n body request_failed) (request_at settings before n body g))) now)
        by_home free None home = refused no_first request_failed
        by_home free (Some g) home = by_start g free home (start_of g before) refl

        by_token : (b : Bool) → reserves (params_of body) ≡ b → Rests (outs (choose b (answer_error n body invalid_params) (on (home_of settings n before) (answer_error n body request_failed) (λ g. on (start_of g before) (answer_error n body request_failed) (request_at settings before n body g)))) now)
        by_token true reserved = refused no_first invalid_params
        by_token false free = by_home free (home_of settings n before) refl

        request_rests : Rests (outs (request_row settings before n body) now)
        request_rests = by_token (reserves (params_of body)) refl

      -- E9: `shutdown` is answered, and the editor leaves
      abbrev done : List ℕ
      done = ok_text (id_bytes body) (codes "null")

      abbrev null_tree : Json
      null_tree = word (record { from = 0; to = 0 }) Null

      -- where it alone is excused it is answered
      answered_alone : (events : List Event) (text : List ℕ) (m : Message) → message_of text ≡ m → answered_id m ≡ Some id → is_early (desk_of n events).phase ≡ false → OpenAt settings n (λ i. i ≡ id) events → OpenAt settings n Nobody (events ++ said (ToEditor n text) ∷ [])
      answered_alone events text m says_it mine late rests = open_told Nobody events text m says_it
          (if_other (S settings n (λ i. i ≡ id) events) (S settings n Nobody (events ++ said (ToEditor n text) ∷ [])) (phase_told (desk_of n events).phase (desk_of n events).initialize m) (desk_of n events).initialize (without (answered_id m) (open_of n events)) (λ served i is k. go i is k)
          (if_passed (S settings n (λ i. i ≡ id) events) (desk_of n events).phase (desk_of n events).initialize (open_of n events) m late rests))
        where
          closed : (i : Id) → is_open i (without (answered_id m) (open_of n events)) ≡ true → answered_id m ≡ Some i → ⊥
          closed i is its = never (sym is ∙ (ap (λ o. is_open i (without o (open_of n events))) its ∙ answered_closed i (open_of n events)))

          go : (i : Id) → is_open i (without (answered_id m) (open_of n events)) ≡ true → TakenAt settings events n i ⊎ (i ≡ id) → TakenAt settings (events ++ said (ToEditor n text) ∷ []) n i ⊎ ⊥
          go i is (inl k) = inl (taken_told settings n i events n text (λ same its. closed i is (sym (ap answered_id says_it) ∙ its)) k)
          go i is (inr same) = absurd (closed i is (mine ∙ ap (λ z. Some z) (sym same)))

      -- behind the refusals of what waits
      record Shutting (events : List Event) : Type 0 where
        late : is_early (desk_of n events).phase ≡ false
        rests : OpenAt settings n (λ i. i ≡ id) events
        works : worker_of events ≡ Some n

      shutting_told : (events : List Event) (text : List ℕ) → Shutting events → Shutting (events ++ said (ToEditor n text) ∷ [])
      shutting_told events text k = record {
        late = ap (λ (d : Desk). is_early d.phase) (desk_more n events (said (ToEditor n text))) ∙ late_said events n k.late (ToEditor n text);
        rests = told_any (λ i. i ≡ id) events n text k.late k.rests;
        works = worker_said events (ToEditor n text) ∙ k.works;
      }

      shutdown_rests : is_early (desk_of n before).phase ≡ false → Rests (outs (shutdown_row settings before n body) now)
      shutdown_rests late = subst (OpenAt settings n Nobody) (sym (behind_both now refusals (ToEditor n done ∷ outs (leave_row settings before n) (behind now refusals ++ said (ToEditor n done) ∷ []))))
          (left_there (behind now refusals) (ToEditor n done) mid.works (answered_alone (behind now refusals) done (result (Some id) null_tree) (null_said body id method params says) refl mid.late mid.rests))
        where
          refusals : List Out
          refusals = outs (lose_waiting settings before n) now

          shutting_now : Shutting now
          shutting_now = record {
            late = late_taken before n body late;
            rests = subst (OpenIf (S settings n (λ i. i ≡ id) now) here.phase here.initialize) (sym asked_now)
                (if_asked (S settings n (λ i. i ≡ id) now) here.phase here.initialize ids id (late_taken before n body late) (inr refl) (heard_if (λ i. i ≡ id) (λ new. never (sym (ap is_early new) ∙ late))));
            works = works_now;
          }

          go : (o : Option ℕ) → Shutting (behind now (outs (on o nothing (λ g. refuse_held settings g n)) now))
          go None = subst Shutting (sym (append-nil now)) shutting_now
          go (Some g) = kept_refused settings n Shutting shutting_told g now shutting_now

          mid : Shutting (behind now refusals)
          mid = go (home_of settings n before)

      -- E4 and E5: a request of the multiplexer's own is answered
      module _ (other : requests (codes "initialize") (message_of body) ≡ false) (others : here.phase ≡ Waiting → has_id id (message_of here.initialize) ≡ false) where
        abbrev said_text : List ℕ → List ℕ
        said_text text = ok_text (id_bytes body) text

        replied : (text : List ℕ) (r : Json) → message_of (ok_text (id_bytes body) text) ≡ result (Some id) r → Rests (ToEditor n (ok_text (id_bytes body) text) ∷ [])
        replied text r is_it = open_told Nobody now (said_text text) (result (Some id) r) is_it
            (subst₂ (λ p z. OpenIf (S settings n Nobody (told_now (said_text text))) p here.initialize z) (sym (reply_told here.phase here.initialize id r others)) (sym (ap (without (Some id)) asked_now ∙ without_last id ids fresh))
            (if_other (S settings n Nobody now) (S settings n Nobody (told_now (said_text text))) here.phase here.initialize ids (λ sent i is. or_later settings n Nobody now (told_now (said_text text)) i (taken_told settings n i now n (said_text text) (λ same. apart (message_of (said_text text)) (ap answered_id is_it) i is))) (heard_if Nobody (λ new. other))))

        named_rests : (o : Option ℕ) → Rests (outs (named_row n body o) now)
        named_rests None = refused (λ new. other) invalid_params
        named_rests (Some server) = replied (codes "null") null_tree (null_said body id method params says)

        lspmux_rests : (m : Message) → requests (codes "lspmux/stop") m ≡ false → Rests (outs (lspmux_row settings before n body m) now)
        lspmux_rests m on = go (requests (codes "lspmux/open") m)
          where
            opens : (b : Bool) → Rests (outs (choose b (named_row n body (server_asked settings.servers body)) (answer_error n body invalid_request)) now)
            opens true = named_rests (server_asked settings.servers body)
            opens false = refused (λ new. other) invalid_request

            go : (b : Bool) → Rests (outs (choose b (open_row settings before n body m) (choose (requests (codes "lspmux/stop") m) (stop_row settings before n body) (status_row settings before n body))) now)
            go true = opens (is_first_open settings.servers before n m)
            go false = subst (λ b. Rests (outs (choose b (stop_row settings before n body) (status_row settings before n body)) now)) (sym on) (replied (status_text (items_of settings before)) (told_tree (items_of settings before)) (status_said settings before body id method params says))

    -- E3 and E9: its link is to be ended
    closing_rests : Rests (outs (closing_row settings before n) now)
    closing_rests = left_rests (CloseEditor n) (open_closed settings n Nobody now)

    -- a request of an editor that is closed or gone, or didn't join, gives nothing
    asked_closed : (phase : Phase) → (desk_of n before).phase ≡ phase → ((initialize : List ℕ) (m : Message) → OpenIf (S settings n Nobody now) (desk_hears phase initialize body m).phase (desk_hears phase initialize body m).initialize (open_of n now)) → OpenAt settings n Nobody now
    asked_closed phase at free = subst (λ (d : Desk). OpenIf (S settings n Nobody now) d.phase d.initialize (open_of n now)) (sym (desk_taken settings before n body ∙ ap (λ p. desk_hears p (desk_of n before).initialize body (message_of body)) at)) (free (desk_of n before).initialize (message_of body))

    -- Responses

    -- it isn't a request, and so under no open id
    single : (phase : Phase) (m : Message) → is_doubled before n m ≡ false → (is_begun phase && is_doubled before n m) ≡ false
    single phase m h = go (is_begun phase) h
      where
        go : (b : Bool) → is_doubled before n m ≡ false → (b && is_doubled before n m) ≡ false
        go true h = h
        go false h = refl

    -- nor is it one of the multiplexer's own
    unasked : (phase : Phase) (m : Message) → asks_lspmux m ≡ false → (is_there phase && asks_lspmux m) ≡ false
    unasked phase m h = go (is_there phase) h
      where
        go : (b : Bool) → asks_lspmux m ≡ false → (b && asks_lspmux m) ≡ false
        go true h = h
        go false h = refl

    by_single : (m : Message) (phase : Phase) → is_doubled before n m ≡ false → asks_lspmux m ≡ false → outs (message_row settings before n body m phase) now ≡ outs (taken_row settings before n body m phase) now
    by_single m phase h g = ap (λ b. outs (choose b (closing_row settings before n) (told_row settings before n body m phase)) now) (single phase m h)
        ∙ ap (λ b. outs (choose b (lspmux_row settings before n body m) (taken_row settings before n body m phase)) now) (unasked phase m g)

    -- it goes to a start, or gives the editor what was held for it
    tell_rests : (events : List Event) (text : List ℕ) → (desk_of n events).phase ≡ Running → OpenAt settings n Nobody events → OpenAt settings n Nobody (events ++ said (ToEditor n text) ∷ [])
    tell_rests events text runs rest = told_any Nobody events n text (ap is_early runs) rest

    tells_rest : (s k : ℕ) (bodies : List (List ℕ)) (events : List Event) → (desk_of n events).phase ≡ Running → OpenAt settings n Nobody events → OpenAt settings n Nobody (behind events (outs (each (tell s k n) bodies) events))
    tells_rest s k [] events runs rest = subst (OpenAt settings n Nobody) (sym (append-nil events)) rest
    tells_rest s k (b ∷ bodies) events runs rest =
        let text : List ℕ = marked_text (created_text s k) b in
        let next : List Event = events ++ said (ToEditor n text) ∷ [] in
        subst (OpenAt settings n Nobody) (sym (behind_both events (ToEditor n text ∷ []) (outs (each (tell s k n) bodies) next)))
        (tells_rest s k bodies next (still_runs events n text n runs) (tell_rests events text runs rest))

    module _ (m : Message) (rest : OpenAt settings n Nobody now) (stays : is_running (desk_of n before).phase ≡ true → here.phase ≡ Running) where
      accepted_rests : (s : ℕ) (c : Taking) → is_running (desk_of n before).phase ≡ true → (b : Bool) → Rests (outs (choose b (each (tell s c.token n) c.held) nothing) now)
      accepted_rests s c runs true = tells_rest s c.token c.held now (stays runs) rest
      accepted_rests s c runs false = rests_here rest

      taken_rests : (s : ℕ) → is_running (desk_of n before).phase ≡ true → (o : Option Taking) → Rests (outs (on o nothing (hand_out s n m)) now)
      taken_rests s runs None = rests_here rest
      taken_rests s runs (Some c) = accepted_rests s c runs (accepts m)

      taking_rests : (s : ℕ) (b : Bool) → is_running (desk_of n before).phase ≡ b → Rests (outs (choose b (on (find (is_settled n (answered_id m)) (created_of settings s before).takings) nothing (hand_out s n m)) nothing) now)
      taking_rests s true runs = taken_rests s runs (find (is_settled n (answered_id m)) (created_of settings s before).takings)
      taking_rests s false idle = rests_here rest

      answer_rests : (s : ℕ) (o : Option Ask) → Rests (outs (on o (taking_row settings before n m s) (hand_back s body)) now)
      answer_rests s None = taking_rests s (is_running (desk_of n before).phase) refl
      answer_rests s (Some a) = open_sent settings n Nobody now s (with_id_text body a.bytes) n works_now rest

      start_rests : (s : ℕ) (b : Bool) → Rests (outs (choose b (on (find (is_seated n (answered_id m)) (asks_of settings s before)) (taking_row settings before n m s) (hand_back s body)) nothing) now)
      start_rests s true = answer_rests s (find (is_seated n (answered_id m)) (asks_of settings s before))
      start_rests s false = rests_here rest

      group_rests : (o : Option ℕ) → Rests (outs (on o nothing (response_at settings before n body m)) now)
      group_rests None = rests_here rest
      group_rests (Some s) = start_rests s (is_ready (life_of s before).stage)

      home_rests : (o : Option ℕ) → Rests (outs (on o nothing (λ g. on (start_of g before) nothing (response_at settings before n body m))) now)
      home_rests None = rests_here rest
      home_rests (Some g) = group_rests (start_of g before)

    handed_rests : (m : Message) → message_of body ≡ m → with_request m ids ≡ ids → requests (codes "initialize") m ≡ false → requests (codes "shutdown") m ≡ false → Rests (outs (response_row settings before n body m) now)
    handed_rests m says same none unshut_yet = home_rests m (no_request m says same none) stays (home_of settings n before)
      where
        stays : is_running (desk_of n before).phase ≡ true → here.phase ≡ Running
        stays runs = ap (λ (d : Desk). d.phase) (desk_taken settings before n body) ∙ ap (λ p. (desk_hears p (desk_of n before).initialize body (message_of body)).phase) (running_is settings before (desk_of n before).phase runs)
            ∙ ap (λ b. if b then Down else Running) (ap (requests (codes "shutdown")) says ∙ unshut_yet)

    result_handed : (id : Option Id) (r : Json) → message_of body ≡ result id r → (phase : Phase) → (phase ≡ Answered → ⊥) → Rests (outs (taken_row settings before n body (result id r) phase) now)
    result_handed id r says Answered other = absurd (other refl)
    result_handed id r says Running other = handed_rests (result id r) says refl refl refl
    result_handed id r says New other = rests_here (no_request (result id r) says refl refl)
    result_handed id r says rest other = rests_here (no_request (result id r) says refl refl)

    error_handed : (id : Option Id) (x : Json) → message_of body ≡ error id x → (phase : Phase) → (phase ≡ Answered → ⊥) → Rests (outs (taken_row settings before n body (error id x) phase) now)
    error_handed id x says Answered other = absurd (other refl)
    error_handed id x says Running other = handed_rests (error id x) says refl refl refl
    error_handed id x says New other = rests_here (no_request (error id x) says refl refl)
    error_handed id x says rest other = rests_here (no_request (error id x) says refl refl)

    response_rests : (m : Message) (phase : Phase) → outs (message_row settings before n body m phase) now ≡ outs (taken_row settings before n body m phase) now
        → Rests (outs (taken_row settings before n body m phase) now) → Rests (outs (message_row settings before n body m phase) now)
    response_rests m phase single rest = subst (λ xs. Rests xs) (sym single) rest

    -- Notifications

    -- it runs at this place
    record Runs (events : List Event) : Type 0 where
      running : (desk_of n events).phase ≡ Running
      rests : OpenAt settings n Nobody events
      works : worker_of events ≡ Some n

    -- behind bodies to a start it may be shown a list
    document_rests : (method : List ℕ) (params : Option Json) → message_of body ≡ notification method params → is_served (desk_of n before).phase ≡ true → bytes_eq (codes "exit") method ≡ false → Rests (outs (document_row settings before n body (saying_by method params)) now)
    document_rests method params says served stays_open = home_rests (home_of settings n before)
      where
        said_now : Saying
        said_now = saying_by method params

        rest : OpenAt settings n Nobody now
        rest = no_request (notification method params) says refl refl

        hears : (phase : Phase) → is_served phase ≡ true → (desk_hears phase (desk_of n before).initialize body (notification method params)).phase ≡ Running
        hears Running k = refl
        hears Answered k = ap (λ b. if not (b || false) then Running else Answered) stays_open
        hears Absent k = never (sym k)
        hears New k = never (sym k)
        hears Waiting k = never (sym k)
        hears Down k = never (sym k)
        hears Closed k = never (sym k)
        hears Gone k = never (sym k)

        runs_now : Runs now
        runs_now = record {
          running = ap (λ (d : Desk). d.phase) (desk_taken settings before n body) ∙ ap (λ m. (desk_hears (desk_of n before).phase (desk_of n before).initialize body m).phase) says ∙ hears (desk_of n before).phase served;
          rests = rest;
          works = works_now;
        }

        shown_rests : (s : ℕ) (x : Saying) (events : List Event) → Runs events → OpenAt settings n Nobody (behind events (outs (show_opened settings s n x) events))
        shown_rests s (opens u l v t) events k = go (find (is_of u) (lists_of s events))
          where
            go : (o : Option LastList) → OpenAt settings n Nobody (behind events (outs (on o nothing (show_full settings events s n)) events))
            go None = subst (OpenAt settings n Nobody) (sym (append-nil events)) k.rests
            go (Some list) = behind_full settings events n s list (OpenAt settings n Nobody) events (tell_rests events (shown_text (version_at settings s n events list.uri) list.body) k.running k.rests) k.rests
        shown_rests s (changes u v cs) events k = subst (OpenAt settings n Nobody) (sym (append-nil events)) k.rests
        shown_rests s (closes u) events k = subst (OpenAt settings n Nobody) (sym (append-nil events)) k.rests
        shown_rests s misshapen events k = subst (OpenAt settings n Nobody) (sym (append-nil events)) k.rests
        shown_rests s saying.nothing events k = subst (OpenAt settings n Nobody) (sym (append-nil events)) k.rests

        bodies_rest : (s : ℕ) (bodies : List (List ℕ)) (events : List Event) → Runs events → Runs (behind events (outs (to_start s bodies) events))
        bodies_rest s [] events k = subst Runs (sym (append-nil events)) k
        bodies_rest s (b ∷ bodies) events k = subst Runs (append_assoc events (said (ToServer s b) ∷ []) (map said (outs (to_start s bodies) (events ++ said (ToServer s b) ∷ []))))
            (bodies_rest s bodies (events ++ said (ToServer s b) ∷ []) (record { running = ap (λ (d : Desk). d.phase) (desk_more n events (said (ToServer s b))) ∙ k.running; rests = open_sent settings n Nobody events s b n k.works k.rests; works = worker_said events (ToServer s b) ∙ k.works }))

        start_rests : (s : ℕ) (bodies : List (List ℕ)) (b : Bool) → Rests (outs (choose b (to_start s bodies ⨾ show_opened settings s n said_now) nothing) now)
        start_rests s bodies true = let xs : List Out = outs (to_start s bodies) now in
            subst (OpenAt settings n Nobody) (sym (behind_both now xs (outs (show_opened settings s n said_now) (behind now xs)))) (shown_rests s said_now (behind now xs) (bodies_rest s bodies now runs_now))
        start_rests s bodies false = rests_here rest

        group_rests : (g : ℕ) (o : Option ℕ) → Rests (outs (on o nothing (document_at settings before n body said_now g)) now)
        group_rests g None = rests_here rest
        group_rests g (Some s) = start_rests s (document_bodies settings.limits.versions (encoding_of g before) (texts_of settings g before) (λ u. held_at s u before) n body said_now) (is_ready (life_of s before).stage)

        home_rests : (o : Option ℕ) → Rests (outs (on o nothing (λ g. on (start_of g before) nothing (document_at settings before n body said_now g))) now)
        home_rests None = rests_here rest
        home_rests (Some g) = group_rests g (start_of g before)

    notice_rests : (method : List ℕ) (params : Option Json) → message_of body ≡ notification method params → Rests (outs (notice_row settings before n body) now)
    notice_rests method params says = open_bodies settings n Nobody n now (outs (notice_row settings before n body) now) (all_outs ToStart now _ bodies.why) works_now (no_request (notification method params) says refl refl)
      where
        told_at : (g s : ℕ) → Because (λ places out. ToStart out) now (notice_at settings before n body g s)
        told_at g s = by_choose (λ ready. by_then (starts_bodies s (sync_bodies settings.limits.versions (λ u. held_at s u before) n (texts_of settings g before).opens) now) (by_send tt)) (λ off. by_nothing)

        told_group : (g : ℕ) → Because (λ places out. ToStart out) now (on (start_of g before) nothing (notice_at settings before n body g))
        told_group g = by_on (λ none. by_nothing) (λ s start. told_at g s)

        bodies : Because (λ places out. ToStart out) now (notice_row settings before n body)
        bodies = by_on (λ none. by_nothing) (λ g home. told_group g)

    cancelling_rests : (method : List ℕ) (params : Option Json) → message_of body ≡ notification method params → Rests (outs (cancelling_row settings before n body params) now)
    cancelling_rests method params says = open_bodies settings n Nobody n now (outs (cancelling_row settings before n body params) now) (all_outs ToStart now _ bodies.why) works_now (no_request (notification method params) says refl refl)
      where
        told_at : (s : ℕ) → Because (λ places out. ToStart out) now (cancelling_at settings before n body params s)
        told_at s = by_choose (λ ready. by_on (λ none. by_nothing) (λ k is. by_send tt)) (λ off. by_nothing)

        told_group : (g : ℕ) → Because (λ places out. ToStart out) now (on (start_of g before) nothing (cancelling_at settings before n body params))
        told_group g = by_on (λ none. by_nothing) (λ s start. told_at s)

        bodies : Because (λ places out. ToStart out) now (cancelling_row settings before n body params)
        bodies = by_on (λ none. by_nothing) (λ g home. told_group g)

    cancel_rests : (method : List ℕ) (params : Option Json) → message_of body ≡ notification method params → is_early (desk_of n before).phase ≡ false → Rests (outs (cancel_row settings before n body params) now)
    cancel_rests method params says late = go (option_and_then (λ g. waiting_named n params (waiting_of settings g before)) (home_of settings n before))
      where
        go : (o : Option Request) → Rests (outs (on o (cancelling_row settings before n body params) cancel_waiting) now)
        go None = cancelling_rests method params says
        go (Some r) = told_any Nobody now r.editor (cancelled_text r.id) (late_taken before n body late) (no_request (notification method params) says refl refl)

    work_rests : (method : List ℕ) (params : Option Json) → message_of body ≡ notification method params → Rests (outs (work_row settings before n body params) now)
    work_rests method params says = open_bodies settings n Nobody n now (outs (work_row settings before n body params) now) (all_outs ToStart now _ bodies.why) works_now (no_request (notification method params) says refl refl)
      where
        told_token : (s : ℕ) → Because (λ places out. ToStart out) now (created_work settings before n body params s)
        told_token s = by_on (λ none. by_nothing) (λ t found. by_choose (λ accepted. by_send tt) (λ no. by_nothing))

        told_at : (s : ℕ) → Because (λ places out. ToStart out) now (work_at settings before n body params s)
        told_at s = by_choose (λ ready. by_on (λ none. told_token s) (λ k is. by_send tt)) (λ off. by_nothing)

        told_group : (g : ℕ) → Because (λ places out. ToStart out) now (on (start_of g before) nothing (work_at settings before n body params))
        told_group g = by_on (λ none. by_nothing) (λ s start. told_at s)

        bodies : Because (λ places out. ToStart out) now (work_row settings before n body params)
        bodies = by_on (λ none. by_nothing) (λ g home. told_group g)

    exit_rests : (method : List ℕ) (params : Option Json) → message_of body ≡ notification method params → Rests (outs (exit_row settings before n (notification method params)) now)
    exit_rests method params says = go (bytes_eq (codes "exit") method)
      where
        go : (b : Bool) → Rests (outs (choose b (closing_row settings before n) nothing) now)
        go true = closing_rests
        go false = rests_here (no_request (notification method params) says refl refl)

    served_rests : (method : List ℕ) (params : Option Json) → message_of body ≡ notification method params → is_served (desk_of n before).phase ≡ true → Rests (outs (served_row settings before n body (notification method params)) now)
    served_rests method params says served = go (bytes_eq (codes "exit") method) refl (goes_on (class_of method Editor true)) (bytes_eq (codes "$/cancelRequest") method) (bytes_eq (codes "window/workDoneProgress/cancel") method)
      where
        go : (a : Bool) → bytes_eq (codes "exit") method ≡ a → (b c d : Bool) → Rests (outs (choose a (closing_row settings before n) (choose b (notice_row settings before n body)
            (choose c (cancel_row settings before n body params) (choose d (work_row settings before n body params) (document_row settings before n body (saying_by method params)))))) now)
        go true is b c d = closing_rests
        go false is true c d = notice_rests method params says
        go false is false true d = cancel_rests method params says (served_late (desk_of n before).phase served)
        go false is false false true = work_rests method params says
        go false is false false false = document_rests method params says served is

    notified_rests : (method : List ℕ) (params : Option Json) → message_of body ≡ notification method params → (phase : Phase) → (desk_of n before).phase ≡ phase → (phase ≡ Answered → ⊥) → Rests (outs (message_row settings before n body (notification method params) phase) now)
    notified_rests method params says phase at other = subst (λ xs. Rests xs) (sym (by_single (notification method params) phase refl refl)) (go phase at other)
      where
        go : (phase : Phase) → (desk_of n before).phase ≡ phase → (phase ≡ Answered → ⊥) → Rests (outs (taken_row settings before n body (notification method params) phase) now)
        go Answered at other = absurd (other refl)
        go Running at other = served_rests method params says (ap is_served at)
        go New at other = exit_rests method params says
        go Waiting at other = exit_rests method params says
        go Down at other = exit_rests method params says
        go Absent at other = rests_here (no_request (notification method params) says refl refl)
        go Closed at other = rests_here (no_request (notification method params) says refl refl)
        go Gone at other = rests_here (no_request (notification method params) says refl refl)

    -- Any message that doesn't place it

    module _ (range : InRange settings) (facts : Facts settings before) (linked : is_linked (desk_of n before).phase ≡ true) (on : stops before n (message_of body) ≡ false) where
      -- it begins to run
      begun_rests : (m : Message) → message_of body ≡ m → (desk_of n before).phase ≡ Answered → is_doubled before n m ≡ false → Rests (outs (served_row settings before n body m) now) → Rests (outs (begun_row settings before n body m) now)
      begun_rests m says at single rest = go (makes_running m) refl
        where
          served : Row
          served = served_row settings before n body m

          go : (b : Bool) → makes_running m ≡ b → Rests (outs (choose (makes_running m) (run_row settings before n) nothing ⨾ served) now)
          go false stops = subst (λ c. Rests (outs (choose c (run_row settings before n) nothing ⨾ served) now)) (sym stops) (subst (λ z. Rests (outs served z)) (sym (append-nil now)) rest)
          go true runs = subst (λ c. Rests (outs (choose c (run_row settings before n) nothing ⨾ served) now)) (sym runs) (subst Rests (ap (λ zs. asked ++ zs) (still.same now (behind now asked) meant_now (sym_same settings (behind now asked) now (same_questions settings n now asked questions))))
              (subst (OpenAt settings n Nobody) (sym (behind_both now asked (outs served now)))
              (open_moved settings n Nobody (behind now (outs served now)) (behind (behind now asked) (outs served now)) (same_behind settings (behind now asked) now (outs served now) (all_of Goes IsBody goes_body (outs served now) (still.goes now meant_now)) (same_questions settings n now asked questions)) rest)))
            where
              running : makes_running (message_of body) ≡ true
              running = ap makes_running says ∙ runs

              asked : List Out
              asked = outs (run_row settings before n) now

              questions : AllByRecursion (IsQuestion n) asked
              questions = run_questions settings before n body at running (stays_there settings before n body at running (ap (is_doubled before n) says ∙ single)) (facts.steady).asks (facts.base).meant

              meant_now : AllMeant now
              meant_now = meant_more before (heard (FromEditor n body)) (facts.base).meant (meant_heard (FromEditor n body))

              still : Still settings served
              still = still_served settings before n body (facts.steady).held (ap is_running at) m says runs

      asked_rests : (id : Id) (method : List ℕ) (params : Option Json) → message_of body ≡ request id method params → (phase : Phase) → (desk_of n before).phase ≡ phase → places phase (request id method params) ≡ false
          → Rests (outs (message_row settings before n body (request id method params) phase) now)
      asked_rests id method params says phase at off = go phase at off
        where
          late_request : is_open id ids ≡ false → is_there (desk_of n before).phase ≡ true → is_early (desk_of n before).phase ≡ false → is_served (desk_of n before).phase ≡ true → names_lspmux method ≡ false → Rests (outs (served_request settings before n body method) now)
          late_request fresh there late served foreign = by_place (is_misplaced method) refl (bytes_eq (codes "shutdown") method) refl
            where
              by_place : (a : Bool) → is_misplaced method ≡ a → (b : Bool) → bytes_eq (codes "shutdown") method ≡ b
                  → Rests (outs (choose a (answer_error n body (wrong_code method invalid_request)) (choose b (shutdown_row settings before n body) (request_row settings before n body))) now)
              by_place true misplaced b down = refused id method params says fresh (λ new. never (sym (ap is_early new) ∙ late)) (wrong_code method invalid_request)
              by_place false placed true down = shutdown_rests id method params says fresh late
              by_place false placed false on = request_rests id method params says fresh range facts there late (not_own method (off_first (bytes_eq (codes "initialize") method) (is_wrong (class_of method Editor false)) placed) on) served foreign placed on

          -- under an id that is open, or not
          by_double : (b : Bool) → is_open id ids ≡ b → (row : Row) → (is_open id ids ≡ false → Rests (outs row now)) → Rests (outs (choose b (closing_row settings before n) row) now)
          by_double true twice row f = closing_rests
          by_double false fresh row f = f fresh

          -- a request of the multiplexer's own, or another one
          by_lspmux : is_open id ids ≡ false → is_there (desk_of n before).phase ≡ true → (row : Row) → (names_lspmux method ≡ false → Rests (outs row now)) → Rests (outs (or_lspmux id method params row) now)
          by_lspmux fresh there row rest = go (names_lspmux method) refl
            where
              not_stop : (b : Bool) → bytes_eq (codes "lspmux/stop") method ≡ b → b ≡ false
              not_stop true stop = never (sym (ap (stops before n) says ∙ ap₂ (λ a b. a && b) stop (ap₂ (λ a b. a && b) there (ap not (single (desk_of n before).phase (request id method params) fresh)))) ∙ on)
              not_stop false goes = refl

              other : names_lspmux method ≡ true → requests (codes "initialize") (message_of body) ≡ false
              other is = ap (requests (codes "initialize")) says ∙ lspmux_apart (codes "initialize") method refl refl refl is

              go : (b : Bool) → names_lspmux method ≡ b → Rests (outs (choose b (lspmux_row settings before n body (request id method params)) row) now)
              go true is = lspmux_rests id method params says fresh (other is) (λ at. beside_other now n id (beside settings before n body id method params says there (alone_by settings before (asked_while settings before (facts.steady).asked facts.quit n there) n id fresh) (other is) (λ waits. fresh) facts.waiting at)) (request id method params) (not_stop (bytes_eq (codes "lspmux/stop") method) refl)
              go false is = rest is

          early_old : (phase : Phase) → (desk_of n before).phase ≡ phase → is_new phase ≡ false → (desk_of n before).phase ≡ New → requests (codes "initialize") (message_of body) ≡ false
          early_old phase at old new = never (sym (ap is_new (sym at ∙ new)) ∙ old)

          go : (phase : Phase) → (desk_of n before).phase ≡ phase → places phase (request id method params) ≡ false → Rests (outs (message_row settings before n body (request id method params) phase) now)
          go New at off = subst (λ b. Rests (outs (or_lspmux id method params (choose b (initialize_row settings before n body) (early_row settings before n body (request id method params)))) now)) (sym off)
              (by_lspmux none (ap is_there at) (choose false (initialize_row settings before n body) (early_row settings before n body (request id method params))) (λ foreign. refused id method params says none (λ new. ap (requests (codes "initialize")) says ∙ off) (early_code method)))
            where
              none : is_open id ids ≡ false
              none = ap (is_open id) (subst (λ p. OpenIf (S settings n Nobody before) p (desk_of n before).initialize ids) at h)
          go Waiting at off = by_double (is_open id ids) refl (or_lspmux id method params (answer_error n body (early_code method))) (λ fresh. by_lspmux fresh (ap is_there at) (answer_error n body (early_code method)) (λ foreign. refused id method params says fresh (early_old Waiting at refl) (early_code method)))
          go Answered at off = by_double (is_open id ids) refl (or_lspmux id method params (begun_row settings before n body (request id method params)))
              (λ fresh. by_lspmux fresh (ap is_there at) (begun_row settings before n body (request id method params)) (λ foreign. begun_rests (request id method params) says at fresh (late_request fresh (ap is_there at) (ap is_early at) (ap is_served at) foreign)))
          go Running at off = by_double (is_open id ids) refl (or_lspmux id method params (served_request settings before n body method)) (λ fresh. by_lspmux fresh (ap is_there at) (served_request settings before n body method) (λ foreign. late_request fresh (ap is_there at) (ap is_early at) (ap is_served at) foreign))
          go Down at off = by_double (is_open id ids) refl (or_lspmux id method params (answer_error n body (wrong_code method invalid_request))) (λ fresh. by_lspmux fresh (ap is_there at) (answer_error n body (wrong_code method invalid_request)) (λ foreign. refused id method params says fresh (early_old Down at refl) (wrong_code method invalid_request)))
          go Absent at off = never (sym linked ∙ ap is_linked at)
          go Closed at off = rests_here (asked_closed Closed at (λ i m. tt))
          go Gone at off = rests_here (asked_closed Gone at (λ i m. tt))

      -- in phase Answered, and in another one
      answered_rests : (m : Message) → message_of body ≡ m → (desk_of n before).phase ≡ Answered → places Answered m ≡ false → Rests (outs (from_editor settings before n body m Answered) now)
      answered_rests (request id method params) says at off = asked_rests id method params says Answered at off
      answered_rests (notification method params) says at off = begun_rests (notification method params) says at refl (served_rests method params says (ap is_served at))
      answered_rests not_json says at off = malformed_rests not_json Answered says refl refl
      answered_rests not_message says at off = malformed_rests not_message Answered says refl refl
      answered_rests (result id r) says at off = begun_rests (result id r) says at refl (handed_rests (result id r) says refl refl refl)
      answered_rests (error id x) says at off = begun_rests (error id x) says at refl (handed_rests (error id x) says refl refl refl)

      other_rests : (m : Message) → message_of body ≡ m → (phase : Phase) → (desk_of n before).phase ≡ phase → (phase ≡ Answered → ⊥) → places phase m ≡ false → Rests (outs (from_editor settings before n body m phase) now)
      other_rests (request id method params) says phase at other off = asked_rests id method params says phase at off
      other_rests (notification method params) says phase at other off = notified_rests method params says phase at other
      other_rests not_json says phase at other off = malformed_rests not_json phase says refl refl
      other_rests not_message says phase at other off = malformed_rests not_message phase says refl refl
      other_rests (result id r) says phase at other off = response_rests (result id r) phase (by_single (result id r) phase refl refl) (result_handed id r says phase other)
      other_rests (error id x) says phase at other off = response_rests (error id x) phase (by_single (error id x) phase refl refl) (error_handed id x says phase other)

      own_rests : (m : Message) → message_of body ≡ m → (phase : Phase) → (desk_of n before).phase ≡ phase → places phase m ≡ false → Rests (outs (from_editor settings before n body m phase) now)
      own_rests m says Answered at off = answered_rests m says at off
      own_rests m says Absent at off = other_rests m says Absent at (λ same. absurd (cc)) off
      own_rests m says New at off = other_rests m says New at (λ same. absurd (cc)) off
      own_rests m says Waiting at off = other_rests m says Waiting at (λ same. absurd (cc)) off
      own_rests m says Running at off = other_rests m says Running at (λ same. absurd (cc)) off
      own_rests m says Down at off = other_rests m says Down at (λ same. absurd (cc)) off
      own_rests m says Closed at off = other_rests m says Closed at (λ same. absurd (cc)) off
      own_rests m says Gone at off = other_rests m says Gone at (λ same. absurd (cc)) off

      pub message_rests : places (desk_of n before).phase (message_of body) ≡ false → OpenAt settings n Nobody (behind now (outs_of settings before (FromEditor n body)))
      message_rests off = subst (OpenAt settings n Nobody) (sym (behind_both now said_first (outs (debts_row settings before n body (message_of body)) mid)))
          (open_moved settings n Nobody mid (behind mid (outs (debts_row settings before n body (message_of body)) mid)) (same_questions settings n mid (outs (debts_row settings before n body (message_of body)) mid) (debts_questions settings before n body (facts.base).meant mid))
          (own_rests (message_of body) refl (desk_of n before).phase refl off))
        where
          said_first : List Out
          said_first = outs (from_editor settings before n body (message_of body) (desk_of n before).phase) now

          mid : List Event
          mid = behind now said_first

    -- Its first `initialize`

    first_open : (m : Message) → message_of body ≡ m → (desk_of n before).phase ≡ New → requests (codes "initialize") m ≡ true → OpenAt settings n Nobody now
    first_open (request id method params) says new first = subst₂ (λ (d : Desk) z. OpenIf (S settings n Nobody now) d.phase d.initialize z) (sym desk) (sym alone)
        (record { id = id; asked = ap (has_id id) says ∙ same_id_itself id; alone = refl })
      where
        named : message_of body ≡ request id (codes "initialize") params
        named = says ∙ ap (λ z. request id z params) (sym ((bytes_eq-Decides (codes "initialize") method).0 first))

        desk : here ≡ record { phase = Waiting; initialize = body }
        desk = desk_taken settings before n body ∙ ap₂ (λ p m. desk_hears p (desk_of n before).initialize body m) new named

        none : ids ≡ []
        none = subst (λ p. OpenIf (S settings n Nobody before) p (desk_of n before).initialize ids) new h

        alone : open_of n now ≡ id ∷ []
        alone = open_now ∙ ap₂ with_request says none
    first_open (notification method params) says new first = absurd (cc)
    first_open (result id r) says new first = absurd (cc)
    first_open (error id x) says new first = absurd (cc)
    first_open not_json says new first = absurd (cc)
    first_open not_message says new first = absurd (cc)

    pub placed_open : places (desk_of n before).phase (message_of body) ≡ true → OpenAt settings n Nobody now
    placed_open place = let p = and_parts (is_new (desk_of n before).phase) (requests (codes "initialize") (message_of body)) place in first_open (message_of body) refl (new_is (desk_of n before).phase p.0) p.1

  -- one that is turned away
  pub turned_rests : is_crowded settings before n body n ≡ true → OpenAt settings n Nobody (behind now (outs_of settings before (FromEditor n body)))
  turned_rests turned = subst (λ xs. OpenAt settings n Nobody (behind now xs)) (sym (turned_outs settings before n body n turned))
      (subst (OpenAt settings n Nobody) (append_assoc now (said (ToEditor n (error_text (id_bytes body) request_failed)) ∷ []) (said (CloseEditor n) ∷ [])) (open_closed settings n Nobody (now ++ said (ToEditor n (error_text (id_bytes body) request_failed)) ∷ [])))
