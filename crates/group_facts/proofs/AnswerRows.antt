-- S2 to S5 and the start of a program: what an entry of a start sends.
use Rattle.std.proofs.Common.{◌≡◌, ℕ, true, false, cond, ◌&&◌, List, [], ◌∷◌, ◌++◌, filter, find, nat_eq, codes, if◌then◌else◌, Some, None, refl, sym, ◌∙◌, ap, ap₂, subst, append-nil, append_assoc, Bool, bytes_eq, Option}
use Rattle.std.specs.Option.{option_map_or}
use Rattle.std.proofs.lemmas.Bool.{and_parts}
use Rattle.std.specs.List.{AllByRecursion, range_with_len}
use Rattle.std.proofs.lemmas.List.Elements.{filter-append}
use Rattle.json_text.specs.Bare.{nowhere}
use Rattle.json_text.specs.Json.{Json, object, no_members, word}
use Rattle.document_model.specs.Helds.{told}
use Rattle.document_model.specs.Opens.{Open}
use Rattle.document_model.specs.Sayings.{saying_of}
use Rattle.mux_history.specs.declared.cause.Cause.TheVariants.{FromServer, Started}
use Rattle.mux_history.specs.declared.out.Out.{Out}
use Rattle.mux_history.specs.declared.out.Out.TheVariants.{ToEditor, ToServer, Spawn, CloseEditor, EndServer}
use Rattle.rpc_message.specs.Message.{Message, request, notification, result, error, not_json, not_message, Id, message_of, id_bytes, result_bytes}
use Rattle.rpc_message.specs.Texts.{ok_text, initialized_text, error_text, invalid_request}
use Rattle.rpc_message.proofs.Fixed.{initialized_law}
use Rattle.event_model.specs.declared.stage.Stage.{Stage}
use Rattle.event_model.specs.declared.stage.Stage.TheVariants.{Unspawned, Spawning, Initializing, Ready, Stopping, Ending, Ended}
use Rattle.event_model.specs.declared.phase.Phase.{Phase}
use Rattle.event_model.specs.declared.phase.Phase.TheVariants.{Absent, New, Waiting, Answered, Running, Down, Closed, Gone}
use Rattle.event_model.specs.Event.{Event, heard, said, behind, with_cause}
use Rattle.event_model.specs.Parts.{server_part, is_of_server}
use Rattle.event_model.specs.Phases.{Desk, desk_of, editors_of, is_there, is_waiting, phase_closed, phase_told}
use Rattle.event_model.specs.Requests.{answered_id, open_of, is_open, with_request, without}
use Rattle.event_model.specs.Row.{Row, each, nothing, on, outs, send}
use Rattle.event_model.specs.Settings.{Settings}
use Rattle.event_model.specs.Spawns.{group_of, start_of}
use Rattle.event_model.specs.Stages.{Life, life_of, is_first_result, stage_hears, is_initializing, stage_told}
use Rattle.mux_model.specs.Documents.{Sent, held_at, sent_of}
use Rattle.mux_model.specs.Rows.{to_start}
use Rattle.mux_model.proofs.DocumentFolds.{outs_to_start}
use Rattle.group_rows.specs.response_route.specs.Answers.{answer_text}
use Rattle.mux_facts.specs.Allowed.{is_response}
use Rattle.mux_facts.specs.Ranges.{InRange}
use Rattle.mux_facts.proofs.Bodies.{IsResponseTo, is_result, is_error, refusal_says}
use Rattle.mux_facts.proofs.Folds.{desk_more, life_more, opens_more}
use Rattle.mux_facts.proofs.Keeps.{behind_both}
use Rattle.mux_facts.proofs.Lists.{all_filtered, found_is}
use Rattle.mux_facts.proofs.Reasons.{Because, by_nothing, by_send, by_then, by_choose, by_look, by_on, reasons_keep}
use Rattle.mux_facts.proofs.Rising.{by_rising}
use Rattle.mux_facts.proofs.Table.{desk_untold, waiting_is}
use Rattle.mux_facts.proofs.Tellings.{sent_more}
use Rattle.mux_facts.proofs.Waits.{AllWaiting, Waits, waits_at}
use Rattle.mux_facts.proofs.Why.{is_early}
use Rattle.mux_facts.proofs.Words.{number_same, open_last, same_number}
use Rattle.group_words.specs.Houses.{groups_of, home_of, is_home}
use Rattle.group_words.specs.Rows.{shown_of}
use Rattle.group_rows.specs.Answers.{answer_row, own_version}
use Rattle.group_rows.specs.Earlier.{configuration_of, configure, differs, given_of, part_row, shown_in, was_shown}
use Rattle.group_rows.specs.Ends.{answers_shutdown, exit_server, exit_text}
use Rattle.group_rows.specs.Forwarded.{Forwarded, Forwarding, answered_by, forwarding_of}
use Rattle.group_rows.specs.Waiting.{part, waiting_of, worker_of}
use Rattle.group_rows.proofs.Frames.{forwarding_more}
use Rattle.group_rows.specs.Rows.{first_result, send_held, from_server, ready_row, replay_bodies, result_in, started, waiting_in, welcome, hasty_answer, hasty_row}
use Rattle.group_rows.specs.Texts.{texts_of}
use Rattle.group_facts.specs.Facts.{AllForwarded, AllHeld, Apart, Asks, asked_by, IsAsker, IsForwarded, IsWaiting, IsWritten, Opened, Untold, Written, is_parted, is_refused}
use Rattle.group_facts.proofs.Asks.{asked_by_more}
use Rattle.group_facts.proofs.AskingRows.{notified_why, question_why}
use Rattle.group_facts.proofs.Apart.{alone_answered}
use Rattle.group_rows.proofs.Versions.{AllMeant, own_flat}
use Rattle.group_facts.proofs.Answered.{answer_says}
use Rattle.group_facts.proofs.Configured.{configured, configures_by}
use Rattle.group_facts.proofs.Forwards.{Still, get_all, still_notified, still_now}
use Rattle.group_rows.proofs.Stops.{range_below}
use Rattle.group_facts.proofs.Opened.{opened_did, opened_took}
use Rattle.group_facts.proofs.PartingRows.{or_second}
use Rattle.group_facts.proofs.RefusedRow.{refused_why}
use Rattle.group_facts.proofs.SharedRows.{AllTold, replay_told}
use Rattle.group_facts.proofs.ShownResult.{shown_says}
use Rattle.group_facts.proofs.Tellings.{Calm, tells_row}
use Rattle.group_facts.proofs.SendRow.{Sending, each_why, held_calm, turn_told, worker_answered, worker_said}
use Rattle.group_facts.proofs.Begun.{bodies_by, start_more}
use Rattle.group_facts.proofs.ExitOuts.{for_all}
use Rattle.group_facts.proofs.Held.{IsParting, held_closed_all, held_told_all, part_still, part_why as parted_why}
use Rattle.group_facts.proofs.HeldOn.{held_answered}
use Rattle.group_facts.proofs.HeldOuts.{part_by}
use Rattle.group_facts.proofs.Housed.{group_more}
use Rattle.group_facts.proofs.PutOut.{homes_stay}
use Rattle.group_facts.proofs.StopWhy.{IsBody}
use Rattle.group_facts.specs.Why.{IsPassing, Turn, Why, begins, greeted, greets, conveys, passes, welcomes, responds, exits, stopped}
use Rattle.json_text.specs.declared.kind.Word.TheVariants.{Null}
use Rattle.group_facts.proofs.Nulls.{null_said}
use Rattle.group_rows.proofs.Exits.{exit_says}
use Rattle.event_model.proofs.Frames.{never}

nobody_found : (fs : List Forwarded) (f : Forwarded) → find (answered_by None) fs ≡ Some f → ⊥
nobody_found [] f h = cc
nobody_found (g ∷ fs) f h = nobody_found fs f h

-- only responses answer an id
pub answers_only : (m : Message) (f : Forwarded) (fs : List Forwarded) → find (answered_by (answered_id m)) fs ≡ Some f → is_response m ≡ true
answers_only (result id r) f fs h = refl
answers_only (error id e) f fs h = refl
answers_only (request id method params) f fs h = absurd (nobody_found fs f h)
answers_only (notification method params) f fs h = absurd (nobody_found fs f h)
answers_only not_json f fs h = absurd (nobody_found fs f h)
answers_only not_message f fs h = absurd (nobody_found fs f h)

pub response_is : (id : Id) (m : Message) → IsResponseTo id m → (is_response m ≡ true) × (answered_id m ≡ Some id)
response_is id m (is_result r e) = (ap is_response e, ap answered_id e)
response_is id m (is_error x e) = (ap is_response e, ap answered_id e)

-- S2: a link that is to be ended, and a body to an editor that was shown a result
abbrev IsClosing : List Event → Out → Type 0
IsClosing before (CloseEditor e) = Unit {0}
IsClosing before (ToEditor e text) = was_shown (desk_of e before).phase ≡ true
IsClosing before other = ⊥

abbrev IsToStart : Out → Type 0
IsToStart (ToServer n text) = Unit {0}
IsToStart other = ⊥

told_waits : (phase : Phase) (initialize : List ℕ) (m : Message) → phase_told phase initialize m ≡ Waiting → phase ≡ Waiting
told_waits Waiting initialize m h = refl
told_waits Absent initialize m h = absurd (cc)
told_waits New initialize m h = absurd (cc)
told_waits Answered initialize m h = absurd (cc)
told_waits Running initialize m h = absurd (cc)
told_waits Down initialize m h = absurd (cc)
told_waits Closed initialize m h = absurd (cc)
told_waits Gone initialize m h = absurd (cc)

closed_waits : (phase : Phase) → phase_closed phase ≡ Waiting → ⊥
closed_waits Gone h = absurd (let clash : Gone ≡ Waiting = h in cc)
closed_waits other h = absurd (let clash : Closed ≡ Waiting = h in cc)

shown_there : (phase : Phase) → was_shown phase ≡ true → is_there phase ≡ true
shown_there Answered h = refl
shown_there Running h = refl
shown_there Down h = refl
shown_there Absent h = absurd (cc)
shown_there New h = refl
shown_there Waiting h = refl
shown_there Closed h = absurd (cc)
shown_there Gone h = absurd (cc)

module _ (settings : Settings) (range : InRange settings) (before : List Event) (s : ℕ) (body : List ℕ) where
  abbrev now : List Event
  now = with_cause before (FromServer s body)

  abbrev R : List Event → Out → Type 0
  R events out = Why settings before (FromServer s body) events out

  -- S4, behind `shutdown`
  exits_why : (life_of s before).stage ≡ Stopping → answers_shutdown s before (message_of body) ≡ true → Because R now (exit_server s)
  exits_why at answers = by_then (by_send (exits (record { answer = body; stage = at; stopping = stopping; from = refl; answers = answers; place = refl; says = exit_says }))) (by_send (stopped told))
    where
      stopping : (life_of s now).stage ≡ Stopping
      stopping = ap (λ (l : Life). l.stage) (life_more s before (heard (FromServer s body)))
          ∙ ap (λ b. (if b then record { stage = stage_hears (life_of s before).stage (message_of body); started = (life_of s before).started } else life_of s before).stage) (same_number s)
          ∙ ap (λ z. stage_hears z (message_of body)) at

      told : (life_of s (now ++ said (ToServer s exit_text) ∷ [])).stage ≡ Stopping
      told = ap (λ (l : Life). l.stage) (life_more s now (said (ToServer s exit_text)))
          ∙ ap (λ b. (if b then record { stage = stage_told (life_of s now).stage (message_of exit_text); started = (life_of s now).started } else life_of s now).stage) (same_number s)
          ∙ ap (λ z. stage_told z (message_of exit_text)) stopping

  -- S5
  abbrev text_for : Forwarded → List ℕ
  text_for f = answer_text (own_version settings before s f) body f.id

  response_why : ((e : ℕ) → is_there (desk_of e before).phase ≡ true → AllForwarded settings before) → Apart settings before → AllMeant before → Because R now (answer_row settings s before body (message_of body))
  response_why all apart meant = by_on (λ none. by_nothing) (λ f found. by_choose (λ there. by_send (passes (passing f found there))) (λ gone. by_nothing))
    where
      passing : (f : Forwarded) → find (answered_by (answered_id (message_of body))) (forwarding_of settings s before).open_requests ≡ Some f → is_there (desk_of f.editor before).phase ≡ true → IsPassing settings before (FromServer s body) now f.editor (text_for f)
      passing f found there =
          let k : IsAsker before f.editor f.id = found_is (IsForwarded before) (answered_by (answered_id (message_of body))) f (forwarding_of settings s before).open_requests (all f.editor there s) found in
          let p : (is_response (message_of (text_for f)) ≡ true) × (answered_id (message_of (text_for f)) ≡ Some k.id)
          = response_is k.id (message_of (text_for f)) (answer_says (own_version settings before s f) (own_flat settings before s f meant) body f.id k.id (answers_only (message_of body) f (forwarding_of settings s before).open_requests found) k.text) in
          record {
            start = s;
            answer = body;
            request = f;
            id = k.id;
            from = refl;
            found = found;
            editor = refl;
            there = ap (λ (d : Desk). is_there d.phase) (desk_more f.editor before (heard (FromServer s body))) ∙ there;
            late = ap (λ (d : Desk). is_early d.phase) (desk_more f.editor before (heard (FromServer s body))) ∙ k.late;
            text = k.text;
            waits = ap (is_open k.id) (opens_more f.editor before (heard (FromServer s body))) ∙ k.waits;
            alone = alone_answered settings before s body f k.id apart found k.text;
            bytes = refl;
            response = p.0;
            answers = p.1;
          }

  -- S2

  module _ (first : is_first_result (message_of body) ≡ true) where
    record IsToWait (e : ℕ) (events : List Event) : Type 0 where
      id : Id
      waiting : IsWaiting events e id

    welcomed : (n : ℕ) (events : List Event) → IsToWait n events → Because R events (welcome body n)
    welcomed n events w =
        let shown : (r : Json) × (message_of (ok_text (id_bytes (desk_of n events).initialize) (shown_of (result_bytes body))) ≡ result (Some w.id) r)
        = shown_says (desk_of n events).initialize body w.id (codes "initialize") (w.waiting).params (w.waiting).asks first in
        by_look (by_send (welcomes (record { id = w.id; r = shown.0; waiting = w.waiting; says = shown.1 })))

    still_waits : (n k : ℕ) (events : List Event) → nat_eq n k ≡ false → IsToWait k events → IsToWait k (behind events (outs (welcome body n) events))
    still_waits n k events other w = record {
      id = w.id;
      waiting = record {
        params = (w.waiting).params;
        phase = ap (λ (d : Desk). d.phase) desk ∙ (w.waiting).phase;
        asks = ap (λ (d : Desk). message_of d.initialize) desk ∙ (w.waiting).asks;
        waits = ap (is_open w.id) (opens_more k events (said (ToEditor n text)) ∙ ap (λ b. cond b (without (answered_id (message_of text)) (open_of k events)) (open_of k events)) other) ∙ (w.waiting).waits;
      };
    }
      where
        text : List ℕ
        text = ok_text (id_bytes (desk_of n events).initialize) (shown_of (result_bytes body))

        desk : desk_of k (events ++ said (ToEditor n text) ∷ []) ≡ desk_of k events
        desk = desk_more k events (said (ToEditor n text)) ∙ desk_untold k n text (desk_of k events) other

    all_welcomed : (g : ℕ) (events : List Event) → ((k : ℕ) → (desk_of k events).phase ≡ Waiting → IsToWait k events) → Because R events (each (welcome body) (waiting_in settings g events))
    all_welcomed g events all = subst (λ ns. Because R events (each (welcome body) (filter (λ e. is_waiting (desk_of e events).phase && is_home g (home_of settings e events)) ns))) (sym (range_below (editors_of events)))
        (by_rising (welcome body) IsToWait welcomed still_waits events (λ e. is_waiting (desk_of e events).phase && is_home g (home_of settings e events))
        (λ k t. all k (waiting_is (desk_of k events).phase (and_parts (is_waiting (desk_of k events).phase) (is_home g (home_of settings k events)) t).0)) (editors_of events))

    module _ (stage : (life_of s before).stage ≡ Initializing) (opened : Opened settings before) (untold : Untold before) (waiting : AllWaiting before) (meant : AllMeant before) (held : AllHeld settings now) (g : ℕ) (home : group_of s before ≡ Some g) where
      -- The editors with which it parts

      abbrev is_shown : ℕ → Bool
      is_shown e = was_shown (desk_of e before).phase && is_home g (home_of settings e before)

      to_part : differs (given_of g before) body ≡ true → (k : ℕ) → is_shown k ≡ true → IsParting settings before (FromServer s body) k now
      to_part other k t =
          let p = and_parts (was_shown (desk_of k before).phase) (is_home g (home_of settings k before)) t in
          record {
            ends = or_second (is_refused settings before s body k) (is_parted settings before s body k) (ap₂ (λ a b. a && b)
                (ap₂ (λ a b. a && b) (ap is_initializing stage) (ap₂ (λ a b. a && b) first (ap (λ o. option_map_or (λ i. differs (given_of i before) body) o false) home ∙ other)))
                (ap₂ (λ a b. a && b) p.0 (ap (λ o. option_map_or (λ i. is_home i (home_of settings k before)) o false) home ∙ p.1)));
            there = ap (λ (d : Desk). is_there d.phase) (desk_more k before (heard (FromServer s body))) ∙ shown_there (desk_of k before).phase p.0;
            held = held;
          }

      parts_why : differs (given_of g before) body ≡ true → Because R now (each (part settings g) (shown_in settings g before))
      parts_why other = subst (λ ns. Because R now (each (part settings g) (filter is_shown ns))) (sym (range_below (editors_of before)))
          (by_rising (part settings g) (IsParting settings before (FromServer s body)) (λ n events w. parted_why settings before (FromServer s body) g n events w) (λ n k events other w. part_still settings before (FromServer s body) g n k events other w) now is_shown (to_part other) (editors_of before))

      part_why : Because R now (part_row settings before body g)
      part_why = by_choose (λ other. parts_why other) (λ same. by_nothing)

      abbrev mid : List Event
      mid = behind now (outs (part_row settings before body g) now)

      -- what that leaves alone
      record Stands (events : List Event) : Type 0 where
        life : life_of s events ≡ life_of s now
        part : server_part s events ≡ server_part s now
        docs : (u : List ℕ) → held_at s u events ≡ held_at s u now
        texts : Opened settings events
        waits : (k : ℕ) → (desk_of k events).phase ≡ Waiting → desk_of k events ≡ desk_of k now
        opens : (k : ℕ) → (desk_of k events).phase ≡ Waiting → open_of k events ≡ open_of k now
        forwarding : (forwarding_of settings s events).sender ≡ None
        nobody : worker_of events ≡ None
        group : group_of s events ≡ Some g
        last : start_of g before ≡ Some s → start_of g events ≡ Some s

      -- one that waits isn't told of by then, nor is its link ended
      still_waiting : (k e : ℕ) (events : List Event) (text : List ℕ) → was_shown (desk_of e before).phase ≡ true → Stands events → (desk_of k (events ++ said (ToEditor e text) ∷ [])).phase ≡ Waiting → nat_eq e k ≡ false
      still_waiting k e events text shown h at = go (nat_eq e k) refl (desk_more k events (said (ToEditor e text)))
        where
          go : (b : Bool) → nat_eq e k ≡ b → desk_of k (events ++ said (ToEditor e text) ∷ []) ≡ (if b then record { phase = phase_told (desk_of k events).phase (desk_of k events).initialize (message_of text); initialize = (desk_of k events).initialize } else desk_of k events) → b ≡ false
          go false other is = refl
          go true same is =
              let was : (desk_of k events).phase ≡ Waiting = told_waits (desk_of k events).phase (desk_of k events).initialize (message_of text) (sym (ap (λ (d : Desk). d.phase) is) ∙ at) in
              let first_at : (desk_of k before).phase ≡ Waiting = sym (ap (λ (d : Desk). d.phase) (h.waits k was ∙ desk_more k before (heard (FromServer s body)))) ∙ was in
              never (sym (sym (ap was_shown first_at) ∙ (ap (λ z. was_shown (desk_of z before).phase) (sym (number_same e k same)) ∙ shown)))

      stands_still : (events : List Event) (out : Out) → IsClosing before out → Stands events → Stands (events ++ said out ∷ [])
      stands_still events (CloseEditor e) closing h = record {
        life = life_more s events (said (CloseEditor e)) ∙ h.life;
        part = filter-append (is_of_server s) events (said (CloseEditor e) ∷ []) ∙ (append-nil (server_part s events) ∙ h.part);
        docs = λ u. ap (λ (x : Sent). x.held) (sent_more s u events (said (CloseEditor e))) ∙ h.docs u;
        texts = opened_did settings events (CloseEditor e) h.texts;
        waits = λ k at. waits_by k (nat_eq e k) (desk_more k events (said (CloseEditor e))) at;
        opens = λ k at. opens_more k events (said (CloseEditor e)) ∙ h.opens k (phase_by k (nat_eq e k) (desk_more k events (said (CloseEditor e))) at);
        forwarding = ap (λ (x : Forwarding). x.sender) (forwarding_more settings s events (said (CloseEditor e))) ∙ h.forwarding;
        nobody = worker_said events (CloseEditor e) ∙ h.nobody;
        group = group_more s events (said (CloseEditor e)) ∙ h.group;
        last = λ at. start_more g events (said (CloseEditor e)) ∙ h.last at;
      }
        where
          waits_by : (k : ℕ) (b : Bool) → desk_of k (events ++ said (CloseEditor e) ∷ []) ≡ (if b then record { phase = phase_closed (desk_of k events).phase; initialize = (desk_of k events).initialize } else desk_of k events)
              → (desk_of k (events ++ said (CloseEditor e) ∷ [])).phase ≡ Waiting → desk_of k (events ++ said (CloseEditor e) ∷ []) ≡ desk_of k now
          waits_by k true is at = absurd (closed_waits (desk_of k events).phase (sym (ap (λ (d : Desk). d.phase) is) ∙ at))
          waits_by k false is at = is ∙ h.waits k (sym (ap (λ (d : Desk). d.phase) is) ∙ at)

          phase_by : (k : ℕ) (b : Bool) → desk_of k (events ++ said (CloseEditor e) ∷ []) ≡ (if b then record { phase = phase_closed (desk_of k events).phase; initialize = (desk_of k events).initialize } else desk_of k events)
              → (desk_of k (events ++ said (CloseEditor e) ∷ [])).phase ≡ Waiting → (desk_of k events).phase ≡ Waiting
          phase_by k true is at = absurd (closed_waits (desk_of k events).phase (sym (ap (λ (d : Desk). d.phase) is) ∙ at))
          phase_by k false is at = sym (ap (λ (d : Desk). d.phase) is) ∙ at
      stands_still events (ToEditor e text) shown h = record {
        life = life_more s events (said (ToEditor e text)) ∙ h.life;
        part = filter-append (is_of_server s) events (said (ToEditor e text) ∷ []) ∙ (append-nil (server_part s events) ∙ h.part);
        docs = λ u. ap (λ (x : Sent). x.held) (sent_more s u events (said (ToEditor e text))) ∙ h.docs u;
        texts = opened_did settings events (ToEditor e text) h.texts;
        waits = λ k at. let is : desk_of k (events ++ said (ToEditor e text) ∷ []) ≡ desk_of k events = untold_desk k (still_waiting k e events text shown h at) in is ∙ h.waits k (sym (ap (λ (d : Desk). d.phase) is) ∙ at);
        opens = λ k at. let other : nat_eq e k ≡ false = still_waiting k e events text shown h at in
            opens_more k events (said (ToEditor e text)) ∙ (ap (λ b. cond b (without (answered_id (message_of text)) (open_of k events)) (open_of k events)) other ∙ h.opens k (sym (ap (λ (d : Desk). d.phase) (untold_desk k other)) ∙ at));
        forwarding = ap (λ (x : Forwarding). x.sender) (forwarding_more settings s events (said (ToEditor e text))) ∙ h.forwarding;
        nobody = worker_said events (ToEditor e text) ∙ h.nobody;
        group = group_more s events (said (ToEditor e text)) ∙ h.group;
        last = λ at. start_more g events (said (ToEditor e text)) ∙ h.last at;
      }
        where
          untold_desk : (k : ℕ) → nat_eq e k ≡ false → desk_of k (events ++ said (ToEditor e text) ∷ []) ≡ desk_of k events
          untold_desk k other = desk_more k events (said (ToEditor e text)) ∙ desk_untold k e text (desk_of k events) other
      stands_still events (ToServer n text) closing h = absurd closing
      stands_still events (Spawn n i) closing h = absurd closing
      stands_still events (EndServer n) closing h = absurd closing

      stands_now : Stands now
      stands_now = record {
        life = refl;
        part = refl;
        docs = λ u. refl;
        texts = opened_took settings before (FromServer s body) opened;
        waits = λ k at. refl;
        opens = λ k at. refl;
        forwarding = ap (λ (x : Forwarding). x.sender) (forwarding_more settings s before (heard (FromServer s body)));
        nobody = worker_answered before s body;
        group = group_more s before (heard (FromServer s body)) ∙ home;
        last = λ at. start_more g before (heard (FromServer s body)) ∙ at;
      }

      closings : (es : List ℕ) (events : List Event) → AllByRecursion (λ e. was_shown (desk_of e before).phase ≡ true) es → Because (λ places out. IsClosing before out) events (each (part settings g) es)
      closings [] events shown = by_nothing
      closings (e ∷ es) events shown = by_then (part_by settings (λ places out. IsClosing before out) g e (λ places text. shown.0) (λ places. tt) events) (closings es (behind events (outs (part settings g e) events)) shown.1)

      all_shown : AllByRecursion (λ e. was_shown (desk_of e before).phase ≡ true) (shown_in settings g before)
      all_shown = all_filtered (λ e. Unit {0}) (λ e. was_shown (desk_of e before).phase ≡ true) is_shown (λ e t u. (and_parts (was_shown (desk_of e before).phase) (is_home g (home_of settings e before)) t).0) (range_with_len 0 (editors_of before))
          (for_all (λ e. Unit {0}) (λ e. tt) (range_with_len 0 (editors_of before)))

      part_closes : Because (λ places out. IsClosing before out) now (part_row settings before body g)
      part_closes = by_choose (λ other. closings (shown_in settings g before) now all_shown) (λ same. by_nothing)

      stands : Stands mid
      stands = reasons_keep (λ places out. IsClosing before out) Stands stands_still now (outs (part_row settings before body g) now) part_closes.why stands_now

      held_mid : AllHeld settings mid
      held_mid = reasons_keep (λ places out. IsClosing before out) (AllHeld settings) step now (outs (part_row settings before body g) now) part_closes.why held
        where
          step : (places : List Event) (out : Out) → IsClosing before out → AllHeld settings places → AllHeld settings (places ++ said out ∷ [])
          step places (ToEditor e text) is h = held_told_all settings places e text h
          step places (CloseEditor e) is h = held_closed_all settings places e h
          step places (ToServer n text) is h = absurd is
          step places (Spawn n i) is h = absurd is
          step places (EndServer n) is h = absurd is

      -- The session begins

      ready_now : (life_of s now).stage ≡ Ready
      ready_now = ap (λ (l : Life). l.stage) (life_more s before (heard (FromServer s body)))
          ∙ ap (λ b. (if b then record { stage = stage_hears (life_of s before).stage (message_of body); started = (life_of s before).started } else life_of s before).stage) (same_number s)
          ∙ ap (λ z. stage_hears z (message_of body)) stage ∙ ap (λ b. if b then Ready else Initializing) first

      ready : (life_of s mid).stage ≡ Ready
      ready = ap (λ (l : Life). l.stage) stands.life ∙ ready_now

      part_now : server_part s mid ≡ server_part s before ++ heard (FromServer s body) ∷ []
      part_now = stands.part ∙ (filter-append (is_of_server s) before (heard (FromServer s body) ∷ []) ∙ ap (λ b. server_part s before ++ cond b (heard (FromServer s body) ∷ []) []) (same_number s))

      -- behind a notification more to the start
      notified_part : (events : List Event) (text : List ℕ) → server_part s (events ++ said (ToServer s text) ∷ []) ≡ server_part s events ++ said (ToServer s text) ∷ []
      notified_part events text = filter-append (is_of_server s) events (said (ToServer s text) ∷ []) ∙ ap (λ b. server_part s events ++ cond b (said (ToServer s text) ∷ []) []) (same_number s)

      abbrev greeted_now : List Event
      greeted_now = mid ++ said (ToServer s initialized_text) ∷ []

      greeted_part : server_part s greeted_now ≡ server_part s before ++ heard (FromServer s body) ∷ said (ToServer s initialized_text) ∷ []
      greeted_part = notified_part mid initialized_text ∙ (ap (λ z. z ++ said (ToServer s initialized_text) ∷ []) part_now ∙ append_assoc (server_part s before) (heard (FromServer s body) ∷ []) (said (ToServer s initialized_text) ∷ []))

      -- at a place behind that it is told of nothing but what it may be told
      record Greeted (events : List Event) : Type 0 where
        calm : Calm settings range before (FromServer s body) mid s events
        texts : Opened settings events
        none : (u : List ℕ) → held_at s u events ≡ None

      greeted_here : Greeted greeted_now
      greeted_here = record {
        calm = record { still = still_notified settings mid s mid initialized_text (codes "initialized") (Some (object nowhere no_members)) initialized_law (still_now settings mid s ready); turn = greeted [] greeted_part };
        texts = opened_did settings mid (ToServer s initialized_text) stands.texts;
        none = λ u. ap (λ (x : Sent). x.held) (sent_more s u mid (said (ToServer s initialized_text)))
            ∙ (ap₂ (λ b m. cond b (told (sent_of s u mid).encoding u (held_at s u mid) (saying_of m)) (held_at s u mid)) (same_number s) initialized_law
            ∙ (stands.docs u ∙ (ap (λ (x : Sent). x.held) (sent_more s u before (heard (FromServer s body))) ∙ untold s (rw stage refl) u)));
      }

      -- E16
      abbrev Says : List ℕ → Type 0
      Says text = (params : Option Json) × (message_of text ≡ notification (codes "workspace/didChangeConfiguration") params)

      kept_says : (text : List ℕ) → configuration_of settings g before ≡ Some text → Says text
      kept_says text kept = configures_by (message_of text) (configured settings g before meant text kept)

      configure_why : Because R greeted_now (configure settings before s g)
      configure_why = by_on (λ none. by_nothing) (λ text kept. by_send (conveys (record {
        group = g;
        answer = body;
        params = (kept_says text kept).0;
        from = refl;
        home = home;
        kept = kept;
        ready = ((greeted_here.calm).still).ready;
        turn = (greeted_here.calm).turn;
        says = (kept_says text kept).1;
      })))

      abbrev told_now : List Event
      told_now = behind greeted_now (outs (configure settings before s g) greeted_now)

      told_here : Greeted told_now
      told_here = go (configuration_of settings g before) refl
        where
          go : (o : Option (List ℕ)) → configuration_of settings g before ≡ o → Greeted (behind greeted_now (outs (on o nothing (λ text. send (ToServer s text))) greeted_now))
          go None kept = subst Greeted (sym (append-nil greeted_now)) greeted_here
          go (Some text) kept = let k : Says text = kept_says text kept in record {
            calm = record {
              still = still_notified settings mid s greeted_now text (codes "workspace/didChangeConfiguration") k.0 k.1 (greeted_here.calm).still;
              turn = greeted (said (ToServer s text) ∷ []) (notified_part greeted_now text ∙ (ap (λ z. z ++ said (ToServer s text) ∷ []) greeted_part
                  ∙ append_assoc (server_part s before) (heard (FromServer s body) ∷ said (ToServer s initialized_text) ∷ []) (said (ToServer s text) ∷ [])));
            };
            texts = opened_did settings greeted_now (ToServer s text) greeted_here.texts;
            none = λ u. ap (λ (x : Sent). x.held) (sent_more s u greeted_now (said (ToServer s text)))
                ∙ (ap₂ (λ b m. cond b (told (sent_of s u greeted_now).encoding u (held_at s u greeted_now) (saying_of m)) (held_at s u greeted_now)) (same_number s) k.1 ∙ greeted_here.none u);
          }

      -- X4
      abbrev opens : List Open
      opens = (texts_of settings g told_now).opens

      replayed : AllTold settings range before (FromServer s body) mid s told_now (replay_bodies [] opens opens)
      replayed = replay_told settings range before (FromServer s body) mid s opens (told_here.texts g).spelt [] opens told_now told_here.calm (λ w k. told_here.none w)

      waits_still : (events : List Event) → Still settings mid s events → (k : ℕ) → (desk_of k events).phase ≡ Waiting → IsToWait k events
      waits_still events still k at =
          let desk : desk_of k events ≡ desk_of k before = still.desks k ∙ (stands.waits k (sym (ap (λ (d : Desk). d.phase) (still.desks k)) ∙ at) ∙ desk_more k before (heard (FromServer s body))) in
          let w : Waits (desk_of k before).initialize (open_of k before) = waits_at before k (sym (ap (λ (d : Desk). d.phase) desk) ∙ at) waiting in
          record {
            id = w.id;
            waiting = record { params = w.params; phase = at; asks = ap (λ (d : Desk). message_of d.initialize) desk ∙ w.asks; waits = ap (is_open w.id) (still.opens k ∙ (stands.opens k (sym (ap (λ (d : Desk). d.phase) (still.desks k)) ∙ at) ∙ opens_more k before (heard (FromServer s body)))) ∙ w.waits };
          }

      -- what waits is sent

      abbrev replayed_now : List Event
      replayed_now = behind told_now (outs (to_start s (replay_bodies [] opens opens)) told_now)

      calm_replayed : Calm settings range before (FromServer s body) mid s replayed_now
      calm_replayed = subst (λ z. Calm settings range before (FromServer s body) mid s (behind told_now z)) (sym (outs_to_start s (replay_bodies [] opens opens) told_now)) replayed.calm

      -- what bodies to the start, and welcomes, leave
      record Stood (events : List Event) : Type 0 where
        life : life_of s events ≡ life_of s replayed_now
        turn : Turn before (FromServer s body) events s
        texts : Opened settings events
        kept : AllHeld settings events
        sender : (forwarding_of settings s events).sender ≡ None
        nobody : worker_of events ≡ None
        group : group_of s events ≡ Some g
        last : start_of g before ≡ Some s → start_of g events ≡ Some s

      stood_told : (events : List Event) (e : ℕ) (text : List ℕ) → Stood events → Stood (events ++ said (ToEditor e text) ∷ [])
      stood_told events e text h = record {
        life = life_more s events (said (ToEditor e text)) ∙ h.life;
        turn = turn_told before (FromServer s body) events s e text h.turn;
        texts = opened_did settings events (ToEditor e text) h.texts;
        kept = held_told_all settings events e text h.kept;
        sender = ap (λ (x : Forwarding). x.sender) (forwarding_more settings s events (said (ToEditor e text))) ∙ h.sender;
        nobody = worker_said events (ToEditor e text) ∙ h.nobody;
        group = group_more s events (said (ToEditor e text)) ∙ h.group;
        last = λ at. start_more g events (said (ToEditor e text)) ∙ h.last at;
      }

      -- a body to the start leaves these
      record Passed (events : List Event) : Type 0 where
        texts : Opened settings events
        nobody : worker_of events ≡ None
        group : group_of s events ≡ Some g
        last : start_of g before ≡ Some s → start_of g events ≡ Some s

      passed_sent : (events : List Event) (n : ℕ) (text : List ℕ) → Passed events → Passed (events ++ said (ToServer n text) ∷ [])
      passed_sent events n text h = record {
        texts = opened_did settings events (ToServer n text) h.texts;
        nobody = worker_said events (ToServer n text) ∙ h.nobody;
        group = group_more s events (said (ToServer n text)) ∙ h.group;
        last = λ at. start_more g events (said (ToServer n text)) ∙ h.last at;
      }

      passed_all : (row : Row) (events : List Event) → Because (λ places out. IsToStart out) events row → Passed events → Passed (behind events (outs row events))
      passed_all row events to h = reasons_keep (λ places out. IsToStart out) Passed step events (outs row events) to.why h
        where
          step : (places : List Event) (out : Out) → IsToStart out → Passed places → Passed (places ++ said out ∷ [])
          step places (ToServer n text) is k = passed_sent places n text k
          step places (ToEditor e text) is k = absurd is
          step places (Spawn n i) is k = absurd is
          step places (CloseEditor e) is k = absurd is
          step places (EndServer n) is k = absurd is

      configured_to : (events : List Event) → Because (λ places out. IsToStart out) events (configure settings before s g)
      configured_to events = by_on (λ none. by_nothing) (λ text kept. by_send tt)

      passed_replayed : Passed replayed_now
      passed_replayed = passed_all (to_start s (replay_bodies [] opens opens)) told_now (bodies_by (λ places out. IsToStart out) (λ places n b. tt) s (replay_bodies [] opens opens) told_now)
          (passed_all (configure settings before s g) greeted_now (configured_to greeted_now)
          (passed_sent mid s initialized_text (record { texts = stands.texts; nobody = stands.nobody; group = stands.group; last = stands.last })))

      stood_replayed : Stood replayed_now
      stood_replayed = record {
        life = refl;
        turn = calm_replayed.turn;
        texts = passed_replayed.texts;
        kept = held_calm settings mid s replayed_now (homes_replayed) calm_replayed.still held_mid;
        sender = (calm_replayed.still).sender ∙ stands.forwarding;
        nobody = passed_replayed.nobody;
        group = passed_replayed.group;
        last = passed_replayed.last;
      }
        where
          homes_replayed : (e : ℕ) → home_of settings e replayed_now ≡ home_of settings e mid
          homes_replayed e = homes_stay settings e told_now (outs (to_start s (replay_bodies [] opens opens)) told_now) ∙ (homes_stay settings e greeted_now (outs (configure settings before s g) greeted_now) ∙ homes_stay settings e mid (ToServer s initialized_text ∷ []))

      welcomes_told : (es : List ℕ) (events : List Event) → Because (λ places out. IsBody out) events (each (welcome body) es)
      welcomes_told [] events = by_nothing
      welcomes_told (e ∷ es) events = by_then (by_look (by_send tt)) (welcomes_told es (behind events (outs (welcome body e) events)))

      abbrev welcomed_now : List Event
      welcomed_now = behind replayed_now (outs (each (welcome body) (waiting_in settings g replayed_now)) replayed_now)

      stood_welcomed : Stood welcomed_now
      stood_welcomed = reasons_keep (λ places out. IsBody out) Stood step replayed_now (outs (each (welcome body) (waiting_in settings g replayed_now)) replayed_now) (welcomes_told (waiting_in settings g replayed_now) replayed_now).why stood_replayed
        where
          step : (places : List Event) (out : Out) → IsBody out → Stood places → Stood (places ++ said out ∷ [])
          step places (ToEditor e text) is k = stood_told places e text k
          step places (ToServer n text) is k = absurd is
          step places (Spawn n i) is k = absurd is
          step places (CloseEditor e) is k = absurd is
          step places (EndServer n) is k = absurd is

      abbrev sent_first : List Out
      sent_first = outs (part_row settings before body g) now ++ (ToServer s initialized_text ∷ (outs (configure settings before s g) greeted_now ++ (outs (to_start s (replay_bodies [] opens opens)) told_now ++ outs (each (welcome body) (waiting_in settings g replayed_now)) replayed_now)))

      sending : Sending settings range before s body g home stage (waiting_of settings g welcomed_now) welcomed_now
      sending = record {
        ready = ap (λ (l : Life). l.stage) stood_welcomed.life ∙ (calm_replayed.still).ready;
        turn = stood_welcomed.turn;
        opened = stood_welcomed.texts;
        held = stood_welcomed.kept;
        waiting = refl;
        idle = stood_welcomed.sender;
        nobody = stood_welcomed.nobody;
        group = stood_welcomed.group;
        last = stood_welcomed.last;
        outs = sent_first;
        entry = placed;
      }
        where
          placed : welcomed_now ≡ behind now sent_first
          placed = sym (behind_both now (outs (part_row settings before body g) now) _ ∙ (behind_both mid (ToServer s initialized_text ∷ []) _ ∙ (behind_both greeted_now (outs (configure settings before s g) greeted_now) _
              ∙ behind_both told_now (outs (to_start s (replay_bodies [] opens opens)) told_now) _)))

      sends_why : Because R welcomed_now (send_held settings s g)
      sends_why = by_look (each_why settings range before s body g home stage (waiting_of settings g welcomed_now) welcomed_now sending)

      greet_why : Because R now (result_in settings before s body g)
      greet_why = by_then part_why (by_then (by_send (greets (record { params = Some (object nowhere no_members); answer = body; stage = stage; ready = ready; from = refl; first = first; part = part_now; says = initialized_law })))
          (by_then configure_why (by_then (by_look (tells_row settings range before (FromServer s body) mid s told_now (replay_bodies [] opens opens) replayed))
          (by_then (by_look (all_welcomed g replayed_now (waits_still _ calm_replayed.still))) sends_why))))

  -- S4

  null_says : (id : Id) (method : List ℕ) (params : Option Json) → message_of body ≡ request id method params → message_of (ok_text (id_bytes body) (codes "null")) ≡ result (Some id) (word (record { from = 0; to = 0 }) Null)
  null_says id method params says = null_said body id method params says

  and_off : (a : Bool) → (a && false) ≡ false
  and_off true = refl
  and_off false = refl

  hasty_responds : (id : Id) (method : List ℕ) (params : Option Json) → message_of body ≡ request id method params → (is_response (message_of (hasty_answer method body)) ≡ true) × (answered_id (message_of (hasty_answer method body)) ≡ Some id)
  hasty_responds id method params says = go (bytes_eq (codes "window/showMessageRequest") method)
    where
      go : (b : Bool) → (is_response (message_of (if b then ok_text (id_bytes body) (codes "null") else error_text (id_bytes body) invalid_request)) ≡ true)
          × (answered_id (message_of (if b then ok_text (id_bytes body) (codes "null") else error_text (id_bytes body) invalid_request)) ≡ Some id)
      go true = (ap is_response (null_says id method params says), ap answered_id (null_says id method params says))
      go false = (ap is_response (refusal_says body id method params invalid_request says), ap answered_id (refusal_says body id method params invalid_request says))

  hasty_why : (life_of s before).stage ≡ Initializing → is_first_result (message_of body) ≡ false → (m : Message) → message_of body ≡ m → Because R now (hasty_row s body m)
  hasty_why at other (request id method params) says = by_send (responds (record {
    id = id;
    answers = (hasty_responds id method params says).1;
    waits = ap (is_open id) (asked_by_more s before (heard (FromServer s body)) ∙ ap (λ b. if b then with_request (message_of body) (asked_by s before) else asked_by s before) (same_number s) ∙ ap (λ m. with_request m (asked_by s before)) says) ∙ open_last id (asked_by s before);
    waiting = ap (λ (l : Life). l.stage) (life_more s before (heard (FromServer s body)))
        ∙ ap (λ b. (if b then record { stage = stage_hears (life_of s before).stage (message_of body); started = (life_of s before).started } else life_of s before).stage) (same_number s)
        ∙ ap (λ z. stage_hears z (message_of body)) at ∙ ap (λ b. if b then Ready else Initializing) other;
    stays = ap₂ (λ a b. a && (is_initializing (life_of s before).stage && b)) (same_number s) other ∙ and_off (is_initializing (life_of s before).stage);
    response = (hasty_responds id method params says).0;
  }))
  hasty_why at other (notification method params) says = by_nothing
  hasty_why at other (result id r) says = by_nothing
  hasty_why at other (error id x) says = by_nothing
  hasty_why at other not_json says = by_nothing
  hasty_why at other not_message says = by_nothing

  module _ (opened : Opened settings before) (untold : Untold before) (held : AllHeld settings before) (waiting : AllWaiting before) (all : (e : ℕ) → is_there (desk_of e before).phase ≡ true → AllForwarded settings before) (apart : Apart settings before) (meant : AllMeant before) (asks : Asks settings before) (written : Written settings before) where
    result_why : (life_of s before).stage ≡ Initializing → is_first_result (message_of body) ≡ true → Because R now (first_result settings before s body)
    result_why at first = by_on (λ none. by_nothing) (λ g home. greet_why first at opened untold waiting meant (held_answered settings before s body held) g home)

    -- S5, and what it asks and tells
    ready_why : (life_of s before).stage ≡ Ready → (m : Message) → message_of body ≡ m → Because R now (ready_row settings s before body m)
    ready_why at (request id method params) says = question_why settings before s body at meant written id method params says
    ready_why at (notification method params) says = notified_why settings before s body at asks meant method params says
    ready_why at (result id r) says = subst (λ m. Because R now (answer_row settings s before body m)) says (response_why all apart meant)
    ready_why at (error id x) says = subst (λ m. Because R now (answer_row settings s before body m)) says (response_why all apart meant)
    ready_why at not_json says = subst (λ m. Because R now (answer_row settings s before body m)) says (response_why all apart meant)
    ready_why at not_message says = subst (λ m. Because R now (answer_row settings s before body m)) says (response_why all apart meant)

    pub server_why : (stage : Stage) → (life_of s before).stage ≡ stage → Because R now (from_server settings s before body (message_of body) stage)
    server_why Initializing at = by_choose (λ yes. result_why at yes) (λ no. by_choose (λ refuses. refused_why settings before s body at refuses waiting (held_answered settings before s body held)) (λ other. hasty_why at no (message_of body) refl))
    server_why Ready at = ready_why at (message_of body) refl
    server_why Unspawned at = by_nothing
    server_why Spawning at = by_nothing
    server_why Stopping at = by_choose (λ yes. exits_why at yes) (λ no. by_nothing)
    server_why Ending at = by_nothing
    server_why Ended at = by_nothing

-- a program that begins is sent the daemon's own `initialize`
module _ (settings : Settings) (before : List Event) (s : ℕ) (written : Written settings before) where
  pub start_why : (stage : Stage) → (life_of s before).stage ≡ stage → Because (Why settings before (Started s)) (with_cause before (Started s)) (started settings s before stage)
  start_why Spawning at = by_on (λ none. by_nothing) (λ g home. by_on (λ none. by_nothing) (λ x found.
      let k : IsWritten x = get_all IsWritten (groups_of settings before) g x written found in
      by_send (begins (record { params = k.params; stage = at; from = refl; place = refl; says = k.says }))))
  start_why Unspawned at = by_nothing
  start_why Initializing at = by_nothing
  start_why Ready at = by_nothing
  start_why Stopping at = by_nothing
  start_why Ending at = by_nothing
  start_why Ended at = by_nothing
