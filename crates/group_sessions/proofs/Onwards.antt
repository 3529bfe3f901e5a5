-- An editor's message goes on to the last start of its group just where a body goes to that start behind a sync.
use Rattle.std.proofs.Common.{◌≡◌, ◌⊎◌, inl, inr, ℕ, ◌+◌, ◌<◌, ◌≤◌, ◌^◌, Bool, true, false, not, ◌&&◌, ◌||◌, List, [], ◌∷◌, ◌++◌, append-nil, append_assoc, bytes_eq, codes, decimal, nat_eq, nat_lt, ltb-true, Option, Some, None, refl, sym, ◌∙◌, ap, ap₂, subst, arith}
use Rattle.std.specs.List.{AllByRecursion, list_any, range_with_len}
use Rattle.std.specs.Option.{option_and_then, option_map_or}
use Rattle.std.proofs.lemmas.Bool.{and_parts}
use Rattle.std.proofs.lemmas.List.Folds.{list_any-append}
use Rattle.json_text.specs.Json.{Json}
use Rattle.lsp_method.specs.Class.{class_of}
use Rattle.lsp_method.specs.declared.variants.Origin.TheVariants.{Editor}
use Rattle.mux_history.specs.declared.cause.Cause.{Cause}
use Rattle.mux_history.specs.declared.cause.Cause.TheVariants.{FromEditor, FromServer}
use Rattle.mux_history.specs.declared.out.Out.{Out}
use Rattle.mux_history.specs.declared.out.Out.TheVariants.{ToEditor, ToServer, Spawn, CloseEditor, EndServer}
use Rattle.rpc_message.specs.Message.{Id, Message, message_of, request, notification, result, error, not_json, not_message, integer, id_bytes}
use Rattle.rpc_message.specs.Texts.{invalid_params, ok_text, invalid_request, request_failed}
use Rattle.event_model.specs.declared.phase.Phase.{Phase}
use Rattle.event_model.specs.declared.phase.Phase.TheVariants.{Absent, Running}
use Rattle.event_model.specs.Event.{Event, behind, heard, requests, said, with_cause}
use Rattle.event_model.specs.Members.{params_of}
use Rattle.event_model.specs.Phases.{desk_of, editors_of, is_multiplexer_request, is_running, is_there}
use Rattle.event_model.specs.Requests.{is_own}
use Rattle.event_model.specs.Row.{Row, choose, each, nothing, on, outs, send, ◌⨾◌}
use Rattle.event_model.specs.Settings.{Settings}
use Rattle.event_model.specs.Spawns.{start_of}
use Rattle.event_model.specs.Stages.{is_ready, life_of}
use Rattle.event_model.proofs.Frames.{never}
use Rattle.mux_model.specs.Methods.{goes_on}
use Rattle.mux_facts.specs.Ranges.{InRange}
use Rattle.mux_facts.proofs.Keeps.{behind_both}
use Rattle.mux_facts.proofs.Reasons.{Reasons}
use Rattle.mux_facts.proofs.Words.{same_number}
use Rattle.group_words.specs.Houses.{groups_of, home_of, is_doubled, is_first_open, server_asked}
use Rattle.group_rows.specs.AskRows.{debts_row}
use Rattle.group_rows.specs.Asks.{serves}
use Rattle.group_rows.specs.Debts.{ends_debts, goes_forth, goes_to}
use Rattle.group_rows.specs.Forwarded.{Forwarding, Sender, forwarding_of, has_room, sender_of}
use Rattle.group_rows.specs.Leaves.{leave_row}
use Rattle.group_rows.specs.Reserved.{reserves}
use Rattle.group_words.specs.Placing.{all_from, is_live}
use Rattle.group_words.specs.Rows.{end_group}
use Rattle.group_rows.specs.Rows.{answer_error, can_ask, closing_row, editor_row, forward, from_editor, lspmux_row, may_wait, named_row, open_row, outs_of, request_at, request_row, served_request, shutdown_row, status_row, sync_row, told_row, wrong_code}
use Rattle.group_rows.specs.StopRows.{close_each, refuse_open, stop_row, there_in}
use Rattle.group_rows.specs.Texts.{is_synced}
use Rattle.group_rows.specs.Tokens.{forwarded_text}
use Rattle.group_rows.specs.Waiting.{is_for_start, is_misplaced}
use Rattle.group_rows.proofs.Frames.{forwarding_more}
use Rattle.group_rows.proofs.Going.{going_synced}
use Rattle.group_rows.proofs.Onward.{Seat, notice_onward, request_onward, seated}
use Rattle.group_rows.proofs.TokenTexts.{forwarded_says}
use Rattle.group_facts.specs.SlowRows.{close_slow, is_slow, slow_row}
use Rattle.group_facts.specs.Why.{Going, IsQuestion, Why, WhyToServer, asks_something, at_once, begins, cancels, cancels_work, conveys, exits, forwarded, greets, had_waited, notes, quitting, resolves, responds, shuts, tells}
use Rattle.group_facts.proofs.AskEntries.{off_both}
use Rattle.group_facts.proofs.Asides.{answer_aside, spoken_aside, unsynced}
use Rattle.group_facts.proofs.Facts.{Facts}
use Rattle.group_facts.proofs.Paying.{debts_questions}
use Rattle.group_facts.proofs.PutOut.{named_in}
use Rattle.group_facts.proofs.Reached.{Reached, facts_at, slow_behind}
use Rattle.group_facts.proofs.RequestRow.{not_own}
use Rattle.group_facts.proofs.SlowRow.{parting, parting_why, quit_unsynced}
use Rattle.group_facts.proofs.SyncRow.{synced_calm}
use Rattle.group_facts.proofs.Table.{reasons}
use Rattle.group_sessions.specs.Refreshes.{is_onward}

off_is : (a : Bool) → not a ≡ true → a ≡ false
off_is true h = never (sym h)
off_is false h = refl

on_last : (a b : Bool) → b ≡ true → (a || (b || false)) ≡ true
on_last true b h = refl
on_last false true h = refl
on_last false false h = never (sym h)

off_or : (a b : Bool) → a ≡ false → b ≡ false → (a || b) ≡ false
off_or true b h k = h
off_or false b h k = k

on_second : (a b : Bool) → b ≡ true → (a || b) ≡ true
on_second true b h = refl
on_second false b h = h

and_last : (a b : Bool) → b ≡ false → (a && b) ≡ false
and_last true b h = h
and_last false b h = refl

none_sender : (n : ℕ) (body : List ℕ) (m : Message) → asks_something m ≡ false → sender_of n body m ≡ None
none_sender n body (request id method params) off = never off
none_sender n body (notification method params) off = refl
none_sender n body (result id r) off = refl
none_sender n body (error id x) off = refl
none_sender n body not_json off = refl
none_sender n body not_message off = refl

-- a notification that goes on
abbrev goes_by_class : Message → Bool
goes_by_class (notification method params) = goes_on (class_of method Editor true)
goes_by_class other = false

the_body : {e n : ℕ} {x y : List ℕ} → FromEditor e x ≡ FromEditor n y → y ≡ x
the_body h = cc

module _ (settings : Settings) (range : InRange settings) (s : ℕ) where
  -- no body to s behind a sync
  abbrev pub Quiet : List Out → Type 0
  Quiet xs = list_any (is_onward s) xs ≡ false

  quiet_both : (xs ys : List Out) → Quiet xs → Quiet ys → Quiet (xs ++ ys)
  quiet_both xs ys h k = list_any-append (is_onward s) xs ys ∙ off_or (list_any (is_onward s) xs) (list_any (is_onward s) ys) h k

  -- by reasons
  quiet_all : (R : List Event → Out → Type 0) → ((events : List Event) (out : Out) → R events out → is_onward s out ≡ false) → (events : List Event) (xs : List Out) → Reasons R events xs → Quiet xs
  quiet_all R f events [] why = refl
  quiet_all R f events (x ∷ xs) why = off_or (is_onward s x) (list_any (is_onward s) xs) (f events x why.0) (quiet_all R f (events ++ said x ∷ []) xs why.1)

  unless_synced : (n : ℕ) (body : List ℕ) → (is_synced (message_of body) ≡ true → ⊥) → is_onward s (ToServer n body) ≡ false
  unless_synced n body off = and_last (nat_eq n s) (is_synced (message_of body)) (go (is_synced (message_of body)) off)
    where
      go : (b : Bool) → (b ≡ true → ⊥) → b ≡ false
      go true f = absurd (f refl)
      go false f = refl

  -- where an editor is slow
  quit_quiet : (place : List Event) (e : ℕ) (events : List Event) (out : Out) → Why settings place (quitting e) events out → is_onward s out ≡ false
  quit_quiet place e events (ToServer n body) why = unless_synced n body (quit_unsynced settings place e events n body why)
  quit_quiet place e events (ToEditor n body) why = refl
  quit_quiet place e events (Spawn n g) why = refl
  quit_quiet place e events (CloseEditor n) why = refl
  quit_quiet place e events (EndServer n) why = refl

  one_slow : (place : List Event) → Reached settings place → (e : ℕ) → Quiet (outs (close_slow settings e) place) × Reached settings (behind place (outs (close_slow settings e) place))
  one_slow place at e = go (is_slow settings e place) refl
    where
      go : (b : Bool) → is_slow settings e place ≡ b → Quiet (outs (choose b (send (CloseEditor e) ⨾ leave_row settings place e) nothing) place) × Reached settings (behind place (outs (choose b (send (CloseEditor e) ⨾ leave_row settings place e) nothing) place))
      go true slow = (quiet_all (Why settings place (quitting e)) (quit_quiet place e) place (parting settings place e) (parting_why settings range place (facts_at settings range place at) e slow), slow_behind place e slow at)
      go false quick = (refl, subst (Reached settings) (sym (append-nil place)) at)

  each_slow : (es : List ℕ) (place : List Event) → Reached settings place → Quiet (outs (each (close_slow settings) es) place)
  each_slow [] place at = refl
  each_slow (e ∷ es) place at =
      let one = one_slow place at e in
      quiet_both (outs (close_slow settings e) place) (outs (each (close_slow settings) es) (behind place (outs (close_slow settings e) place))) one.0 (each_slow es (behind place (outs (close_slow settings e) place)) one.1)

  pub slow_quiet : (place : List Event) → Reached settings place → Quiet (outs (slow_row settings) place)
  slow_quiet place at = each_slow (range_with_len 0 (editors_of place)) place at

  -- An editor's message

  module _ (before : List Event) (at : Reached settings before) (e : ℕ) (body : List ℕ) where
    abbrev pub now : List Event
    now = with_cause before (FromEditor e body)

    abbrev pub row : List Out
    row = outs (editor_row settings before e body) now

    facts : Facts settings before
    facts = facts_at settings range before at

    -- it goes on
    module _ (goes : goes_to settings s before e body (message_of body) ≡ true) where
      halves : ((is_running (desk_of e before).phase && (serves settings before s e && is_ready (life_of s before).stage)) ≡ true) × (goes_forth settings s before e body (message_of body) ≡ true)
      halves = and_parts (is_running (desk_of e before).phase && (serves settings before s e && is_ready (life_of s before).stage)) (goes_forth settings s before e body (message_of body)) goes

      runs : (is_running (desk_of e before).phase ≡ true) × ((serves settings before s e && is_ready (life_of s before).stage) ≡ true)
      runs = and_parts (is_running (desk_of e before).phase) (serves settings before s e && is_ready (life_of s before).stage) halves.0

      serving : (serves settings before s e ≡ true) × (is_ready (life_of s before).stage ≡ true)
      serving = and_parts (serves settings before s e) (is_ready (life_of s before).stage) runs.1

      seat : Seat settings before s e
      seat = seated settings before s e serving.0

      abbrev synced : List Out
      synced = outs (sync_row settings before seat.group s e) now

      abbrev next : ℕ
      next = (forwarding_of settings s (behind now synced)).next

      next_is : next ≡ (forwarding_of settings s before).next
      next_is = ((synced_calm settings range before (facts.base).opened e body seat.group s serving.1).still).next ∙ ap (λ (x : Forwarding). x.next) (forwarding_more settings s before (heard (FromEditor e body)))

      goes_last : (xs : List Out) (text : List ℕ) → is_synced (message_of text) ≡ true → list_any (is_onward s) (xs ++ ToServer s text ∷ []) ≡ true
      goes_last xs text h = list_any-append (is_onward s) xs (ToServer s text ∷ []) ∙ on_last (list_any (is_onward s) xs) (is_onward s (ToServer s text)) (ap₂ (λ a b. a && b) (same_number s) h)

      by_message : (m : Message) → message_of body ≡ m → goes_forth settings s before e body m ≡ true → list_any (is_onward s) (outs (from_editor settings before e body m Running) now) ≡ true
      by_message (request id method params) says forth = ap (list_any (is_onward s)) (request_onward settings s before e body seat serving.1 now id method params forth)
          ∙ goes_last synced (forwarded_text next body) (ap is_synced new.1 ∙ ap not other)
        where
          m : Message
          m = request id method params

          both : (is_for_start before e body m ≡ true) × (has_room settings s before ≡ true)
          both = and_parts (is_for_start before e body m) (has_room settings s before) forth

          one : (not (is_doubled before e m) ≡ true) × ((not (is_multiplexer_request m) && (not (is_misplaced method) && (not (bytes_eq (codes "shutdown") method) && not (reserves (params_of body))))) ≡ true)
          one = and_parts (not (is_doubled before e m)) (not (is_multiplexer_request m) && (not (is_misplaced method) && (not (bytes_eq (codes "shutdown") method) && not (reserves (params_of body))))) both.0

          two : (not (is_multiplexer_request m) ≡ true) × ((not (is_misplaced method) && (not (bytes_eq (codes "shutdown") method) && not (reserves (params_of body)))) ≡ true)
          two = and_parts (not (is_multiplexer_request m)) (not (is_misplaced method) && (not (bytes_eq (codes "shutdown") method) && not (reserves (params_of body)))) one.1

          three : (not (is_misplaced method) ≡ true) × ((not (bytes_eq (codes "shutdown") method) && not (reserves (params_of body))) ≡ true)
          three = and_parts (not (is_misplaced method)) (not (bytes_eq (codes "shutdown") method) && not (reserves (params_of body))) two.1

          four : (not (bytes_eq (codes "shutdown") method) ≡ true) × (not (reserves (params_of body)) ≡ true)
          four = and_parts (not (bytes_eq (codes "shutdown") method)) (not (reserves (params_of body))) three.1

          other : is_own method ≡ false
          other = not_own method (off_both (bytes_eq (codes "initialize") method) _ (off_is (is_misplaced method) three.0)).0 (off_is (bytes_eq (codes "shutdown") method) four.0)

          low : next < 2 ^ 64
          low = let same : next ≡ (forwarding_of settings s before).next = next_is in let below : (forwarding_of settings s before).next < settings.limits.requests = ltb-true (forwarding_of settings s before).next settings.limits.requests both.1 in
              let wide : settings.limits.requests < 2 ^ 32 = range.requests in omega (arith, same, below, wide)

          new : (new : Option Json) × (message_of (forwarded_text next body) ≡ request (integer (decimal next)) method new)
          new = forwarded_says next body id method params low says
      by_message (notification method params) says going = ap (list_any (is_onward s)) (notice_onward settings s before e body seat serving.1 now method params going)
          ∙ goes_last synced body (ap is_synced says ∙ going_synced method going params)
      by_message (result id r) says forth = never (sym forth)
      by_message (error id x) says forth = never (sym forth)
      by_message not_json says forth = never (sym forth)
      by_message not_message says forth = never (sym forth)

      pub goes_out : (desk_of e before).phase ≡ Running → list_any (is_onward s) row ≡ true
      goes_out running = ap (λ p. list_any (is_onward s) (outs (from_editor settings before e body (message_of body) p) now)) running ∙ by_message (message_of body) refl halves.1

    -- What it is owed goes to the editor

    questions_quiet : (xs : List Out) → AllByRecursion (IsQuestion e) xs → Quiet xs
    questions_quiet [] h = refl
    questions_quiet (ToEditor n text ∷ xs) h = questions_quiet xs h.1
    questions_quiet (ToServer n text ∷ xs) h = absurd h.0
    questions_quiet (Spawn n g ∷ xs) h = absurd h.0
    questions_quiet (CloseEditor n ∷ xs) h = absurd h.0
    questions_quiet (EndServer n ∷ xs) h = absurd h.0

    pub owed_quiet : Quiet (outs (debts_row settings before e body (message_of body)) (behind now row))
    owed_quiet = questions_quiet (outs (debts_row settings before e body (message_of body)) (behind now row)) (debts_questions settings before e body (facts.base).meant (behind now row))

    -- Neither a request nor a notification that goes on

    module _ (unasked : asks_something (message_of body) ≡ false) (off : goes_by_class (message_of body) ≡ false) where
      not_synced : (events : List Event) (n : ℕ) (text : List ℕ) → WhyToServer settings before (FromEditor e body) events n text → is_synced (message_of text) ≡ true → ⊥
      not_synced events n text (begins k) goes = unsynced text _ k.says refl goes
      not_synced events n text (greets k) goes = unsynced text _ k.says refl goes
      not_synced events n text (conveys k) goes = absurd (let clash : FromEditor e body ≡ FromServer n k.answer = k.from in cc)
      not_synced events n text (forwarded k) goes = went k.going
        where
          went : Going settings before (FromEditor e body) events n (k.sender).editor k.asked → ⊥
          went (at_once from synced) = let clash : ◌≡◌ {A = Option Sender} None (Some k.sender) = sym (none_sender (k.sender).editor k.asked (message_of k.asked) (ap (λ z. asks_something (message_of z)) (the_body from) ∙ unasked)) ∙ k.own in cc
          went (had_waited w) = let clash : FromEditor e body ≡ FromServer n w.answer = w.from in cc
      not_synced events n text (notes k) goes = never (sym k.going ∙ (sym (ap goes_by_class (ap message_of (sym (the_body k.from)) ∙ k.says)) ∙ off))
      not_synced events n text (tells k) goes = never (sym goes ∙ spoken_aside (message_of text) k.spoken)
      not_synced events n text (shuts k) goes = unsynced text _ k.says refl goes
      not_synced events n text (cancels k) goes = unsynced text _ k.says refl goes
      not_synced events n text (cancels_work k) goes = unsynced text _ k.says refl goes
      not_synced events n text (responds k) goes = never (sym goes ∙ answer_aside (message_of text) k.response)
      not_synced events n text (resolves k) goes = never (sym goes ∙ answer_aside (message_of text) k.response)
      not_synced events n text (exits k) goes = unsynced text _ k.says refl goes

      why_quiet : (events : List Event) (out : Out) → Why settings before (FromEditor e body) events out → is_onward s out ≡ false
      why_quiet events (ToServer n text) why = unless_synced n text (not_synced events n text why)
      why_quiet events (ToEditor n text) why = refl
      why_quiet events (Spawn n g) why = refl
      why_quiet events (CloseEditor n) why = refl
      why_quiet events (EndServer n) why = refl

      others_quiet : Quiet (outs_of settings before (FromEditor e body))
      others_quiet = quiet_all (Why settings before (FromEditor e body)) why_quiet now (outs_of settings before (FromEditor e body)) (reasons settings range before facts (FromEditor e body)).why

    -- A request that doesn't go on

    abbrev pub Stays : List Out → Type 0
    Stays xs = list_any (λ out. ends_debts s e (said out)) xs ≡ false

    closed : (rest : List Out) → Stays (CloseEditor e ∷ rest) → ⊥
    closed rest over = never (sym (ap (λ b. b || list_any (λ out. ends_debts s e (said out)) rest) (same_number e)) ∙ over)

    closes_any : (es : List ℕ) (events : List Event) → list_any (λ k. nat_eq k e) es ≡ true → list_any (λ out. ends_debts s e (said out)) (outs (close_each es) events) ≡ true
    closes_any [] events h = h
    closes_any (n ∷ es) events h = go (nat_eq n e) (closes_any es (behind events (CloseEditor n ∷ []))) h
      where
        go : (b : Bool) → (list_any (λ k. nat_eq k e) es ≡ true → list_any (λ out. ends_debts s e (said out)) (outs (close_each es) (behind events (CloseEditor n ∷ []))) ≡ true) → (b || list_any (λ k. nat_eq k e) es) ≡ true
            → (b || list_any (λ out. ends_debts s e (said out)) (outs (close_each es) (behind events (CloseEditor n ∷ [])))) ≡ true
        go true rest k = refl
        go false rest k = rest k

    module _ (g : ℕ) (running : (desk_of e before).phase ≡ Running) (home : home_of settings e before ≡ Some g) (last : start_of g before ≡ Some s) (ready : is_ready (life_of s before).stage ≡ true)
        (stops : goes_to settings s before e body (message_of body) ≡ false) (shut : (nat_eq e e && requests (codes "shutdown") (message_of body)) ≡ false) where
      served : serves settings before s e ≡ true
      served = ap (λ o. option_map_or (nat_eq s) (option_and_then (λ g. start_of g before) o) false) home ∙ (ap (λ o. option_map_or (nat_eq s) o false) last ∙ same_number s)

      off : goes_forth settings s before e body (message_of body) ≡ false
      off = sym (ap (λ b. b && goes_forth settings s before e body (message_of body)) (ap₂ (λ a b. a && b) (ap is_running running) (ap₂ (λ a b. a && b) served ready))) ∙ stops

      known : (editors_of before ≤ e → ⊥)
      known none = absurd (let gone : (desk_of e before).phase ≡ Absent = (facts.steady).editors e none in let clash : Running ≡ Absent = sym running ∙ gone in cc)

      listed : list_any (λ k. nat_eq k e) (there_in before) ≡ true
      listed = named_in (λ k. is_there (desk_of k before).phase) 0 (editors_of before) e (omega arith) (let k : editors_of before ≤ e → ⊥ = known in omega (arith, k)) (ap is_there running)

      stop_closes : list_any (λ out. ends_debts s e (said out)) (outs (stop_row settings before e body) now) ≡ true
      stop_closes = list_any-append E first (second ++ (third ++ fourth)) ∙ on_second (list_any E first) (list_any E (second ++ (third ++ fourth))) (list_any-append E second (third ++ fourth) ∙ on_second (list_any E second) (list_any E (third ++ fourth))
          (list_any-append E third fourth ∙ ap (λ b. b || list_any E fourth) (closes_any (there_in before) (behind (behind now first) second) listed)))
        where
          E : Out → Bool
          E out = ends_debts s e (said out)

          first : List Out
          first = outs (send (ToEditor e (ok_text (id_bytes body) (codes "null")))) now

          second : List Out
          second = outs (each (refuse_open settings before) (there_in before)) (behind now first)

          third : List Out
          third = outs (close_each (there_in before)) (behind (behind now first) second)

          fourth : List Out
          fourth = outs (each end_group (all_from 0 is_live (groups_of settings before))) (behind (behind (behind now first) second) third)

      request_off : (id : Id) (method : List ℕ) (params : Option Json) → goes_forth settings s before e body (request id method params) ≡ false → (nat_eq e e && bytes_eq (codes "shutdown") method) ≡ false
          → Stays (outs (from_editor settings before e body (request id method params) Running) now) → Quiet (outs (from_editor settings before e body (request id method params) Running) now)
      request_off id method params forth unshut over = doubled (is_doubled before e m) refl over
        where
          m : Message
          m = request id method params

          opened : (b : Bool) (o : Option ℕ) → Quiet (outs (choose b (named_row e body o) (answer_error e body invalid_request)) now)
          opened true (Some n) = refl
          opened true None = refl
          opened false o = refl

          lspmux : (a b : Bool) → Stays (outs (choose a (open_row settings before e body m) (choose b (stop_row settings before e body) (status_row settings before e body))) now)
              → Quiet (outs (choose a (open_row settings before e body m) (choose b (stop_row settings before e body) (status_row settings before e body))) now)
          lspmux true b k = opened (is_first_open settings.servers before e m) (server_asked settings.servers body)
          lspmux false true k = never (sym stop_closes ∙ k)
          lspmux false false k = refl

          waiting : (b : Bool) → Quiet (outs (choose b nothing (answer_error e body request_failed)) now)
          waiting true = refl
          waiting false = refl

          at_start : is_doubled before e m ≡ false → is_multiplexer_request m ≡ false → is_misplaced method ≡ false → bytes_eq (codes "shutdown") method ≡ false → reserves (params_of body) ≡ false → Quiet (outs (request_at settings before e body g s) now)
          at_start fresh apart placed mild free = go (has_room settings s before) refl
            where
              go : (b : Bool) → has_room settings s before ≡ b → Quiet (outs (request_at settings before e body g s) now)
              go true room = never (sym (ap₂ (λ a b. a && b) (ap₂ (λ a b. not a && b) fresh (ap₂ (λ a b. not a && b) apart (ap₂ (λ a b. not a && b) placed (ap₂ (λ a b. not a && not b) mild free)))) room) ∙ forth)
              go false full = ap (λ c. list_any (is_onward s) (outs (choose c (sync_row settings before g s e ⨾ forward settings s body) (choose (may_wait settings before e body g) nothing (answer_error e body request_failed))) now))
                  (and_last (is_ready (life_of s before).stage) (has_room settings s before) full) ∙ waiting (may_wait settings before e body g)

          asked : is_doubled before e m ≡ false → is_multiplexer_request m ≡ false → is_misplaced method ≡ false → bytes_eq (codes "shutdown") method ≡ false → (b : Bool) → reserves (params_of body) ≡ b
              → Quiet (outs (choose b (answer_error e body invalid_params) (on (home_of settings e before) (answer_error e body request_failed) (λ g. on (start_of g before) (answer_error e body request_failed) (request_at settings before e body g)))) now)
          asked fresh apart placed mild true reserved = refl
          asked fresh apart placed mild false free =
              ap (λ o. list_any (is_onward s) (outs (on o (answer_error e body request_failed) (λ g. on (start_of g before) (answer_error e body request_failed) (request_at settings before e body g))) now)) home
              ∙ (ap (λ o. list_any (is_onward s) (outs (on o (answer_error e body request_failed) (request_at settings before e body g)) now)) last
              ∙ at_start fresh apart placed mild free)

          mild_one : is_doubled before e m ≡ false → is_multiplexer_request m ≡ false → is_misplaced method ≡ false → (b : Bool) → bytes_eq (codes "shutdown") method ≡ b → Quiet (outs (choose b (shutdown_row settings before e body) (request_row settings before e body)) now)
          mild_one fresh apart placed true stop = never (sym (ap₂ (λ a b. a && b) (same_number e) stop) ∙ unshut)
          mild_one fresh apart placed false mild = asked fresh apart placed mild (reserves (params_of body)) refl

          placed_one : is_doubled before e m ≡ false → is_multiplexer_request m ≡ false → (b : Bool) → is_misplaced method ≡ b
              → Quiet (outs (choose b (answer_error e body (wrong_code method invalid_request)) (choose (bytes_eq (codes "shutdown") method) (shutdown_row settings before e body) (request_row settings before e body))) now)
          placed_one fresh apart true wrong = refl
          placed_one fresh apart false placed = mild_one fresh apart placed (bytes_eq (codes "shutdown") method) refl

          own : is_doubled before e m ≡ false → (b : Bool) → is_multiplexer_request m ≡ b
              → Stays (outs (choose b (lspmux_row settings before e body m) (served_request settings before e body method)) now)
              → Quiet (outs (choose b (lspmux_row settings before e body m) (served_request settings before e body method)) now)
          own fresh true mine k = lspmux (bytes_eq (codes "lspmux/open") method) (bytes_eq (codes "lspmux/stop") method) k
          own fresh false apart k = placed_one fresh apart (is_misplaced method) refl

          doubled : (b : Bool) → is_doubled before e m ≡ b → Stays (outs (choose b (closing_row settings before e) (told_row settings before e body m Running)) now) → Quiet (outs (choose b (closing_row settings before e) (told_row settings before e body m Running)) now)
          doubled true twice k = absurd (closed (outs (leave_row settings before e) (behind now (CloseEditor e ∷ []))) k)
          doubled false fresh k = own fresh (is_multiplexer_request m) refl k

      pub goes_nowhere : Stays row → Quiet (outs_of settings before (FromEditor e body))
      goes_nowhere over = by (message_of body) refl
        where
          by : (m : Message) → message_of body ≡ m → Quiet (outs_of settings before (FromEditor e body))
          by (request id method params) says = quiet_both row (outs (debts_row settings before e body (message_of body)) (behind now row))
              (row_is (λ xs. Quiet xs) (request_off id method params (ap (goes_forth settings s before e body) (sym says) ∙ off) (ap (λ m. nat_eq e e && requests (codes "shutdown") m) (sym says) ∙ shut) (row_was (λ xs. Stays xs) over))) owed_quiet
            where
              there : row ≡ outs (from_editor settings before e body (request id method params) Running) now
              there = ap₂ (λ p m. outs (from_editor settings before e body m p) now) running says

              row_is : (P : List Out → Type 0) → P (outs (from_editor settings before e body (request id method params) Running) now) → P row
              row_is P h = subst P (sym there) h

              row_was : (P : List Out → Type 0) → P row → P (outs (from_editor settings before e body (request id method params) Running) now)
              row_was P h = subst P there h
          by (notification method params) says = others_quiet (ap asks_something says) (ap goes_by_class says ∙ (ap (goes_forth settings s before e body) (sym says) ∙ off))
          by (result id r) says = others_quiet (ap asks_something says) (ap goes_by_class says)
          by (error id x) says = others_quiet (ap asks_something says) (ap goes_by_class says)
          by not_json says = others_quiet (ap asks_something says) (ap goes_by_class says)
          by not_message says = others_quiet (ap asks_something says) (ap goes_by_class says)
