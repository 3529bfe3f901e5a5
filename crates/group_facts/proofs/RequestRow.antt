-- E8 and E10: a request of an editor comes too early, or goes on behind a sync, or is refused.
use Rattle.std.proofs.Common.{◌≡◌, ℕ, Bool, true, false, ◌||◌, List, ◌<◌, ◌^◌, nat_lt, codes, bytes_eq, decimal, if◌then◌else◌, Option, None, Some, refl, sym, ◌∙◌, ap, ap₂, subst, arith, ltb-true, ◌&&◌, ◌∷◌, ◌++◌, [], length}
use Rattle.std.proofs.lemmas.Bool.{and_parts}
use Rattle.std.specs.Option.{option_map_or}
use Rattle.std.specs.List.{AllByRecursion}
use Rattle.std.specs.Prelude.{not}
use Rattle.std.proofs.lemmas.Slice.Eq.{bytes_eq-Decides}
use Rattle.json_text.specs.declared.kind.Word.TheVariants.{Null}
use Rattle.json_text.specs.Json.{Json, word}
use Rattle.mux_history.specs.declared.cause.Cause.TheVariants.{FromEditor}
use Rattle.mux_history.specs.declared.out.Out.{Out}
use Rattle.mux_history.specs.declared.out.Out.TheVariants.{ToEditor, ToServer}
use Rattle.document_model.specs.Sayings.{saying_of, speaks}
use Rattle.rpc_message.specs.Message.{Message, request, result, Id, integer, message_of, id_bytes}
use Rattle.rpc_message.specs.Texts.{Code, invalid_params, invalid_request, ok_text, request_failed, error_tree}
use Rattle.rpc_message.proofs.Fixed.{id_as_response, ok_law}
use Rattle.rpc_message.specs.ValueTexts.{IsIdText}
use Rattle.rpc_message.proofs.Ids.{request_id_bytes}
use Rattle.event_model.specs.declared.phase.Phase.{Phase}
use Rattle.event_model.specs.declared.phase.Phase.TheVariants.{Absent, New, Waiting, Answered, Running, Down, Closed, Gone}
use Rattle.event_model.specs.Event.{Event, heard, requests, same_id, behind, with_cause, said}
use Rattle.event_model.specs.Members.{params_of}
use Rattle.event_model.specs.Phases.{Desk, desk_of, desk_hears, has_id, is_there, makes_running, is_served}
use Rattle.event_model.specs.Requests.{is_open, is_own, open_of, with_request}
use Rattle.event_model.specs.Row.{on, outs, send, ◌⨾◌}
use Rattle.event_model.specs.Settings.{Settings}
use Rattle.event_model.specs.Spawns.{start_of, group_of}
use Rattle.event_model.specs.Stages.{is_ready, life_of}
use Rattle.event_model.proofs.Frames.{never}
use Rattle.mux_facts.specs.Ranges.{InRange}
use Rattle.mux_facts.proofs.Bodies.{refusal_says}
use Rattle.mux_facts.proofs.Asked.{hears_open}
use Rattle.mux_facts.proofs.Folds.{desk_more, opens_more}
use Rattle.mux_facts.proofs.Reasons.{Because, by_send, by_then, by_choose, by_look, by_on, by_nothing}
use Rattle.mux_facts.proofs.Table.{late_taken, open_taken, there_taken}
use Rattle.mux_facts.proofs.Waits.{AllWaiting, Waits, late_not, waits_at}
use Rattle.mux_facts.proofs.Why.{is_early}
use Rattle.mux_facts.proofs.Words.{id_same, same_number, number_same}
use Rattle.group_words.specs.Houses.{server_asked, is_home, home_of}
use Rattle.group_rows.specs.Forwarded.{Forwarding, forwarding_of, sender_of, token_in, first_sender, sender_or}
use Rattle.group_rows.specs.Tokens.{forwarded_text}
use Rattle.group_rows.specs.Reserved.{reserves}
use Rattle.group_rows.proofs.TokenTexts.{forwarded_says}
use Rattle.group_rows.specs.held_requests.specs.Tables.{asked as held_asked, takes}
use Rattle.group_rows.specs.Rows.{answer_error, can_ask, forward, named_row, open_row, request_at, request_row, status_row, sync_row}
use Rattle.group_rows.specs.Status.{items_of, status_text}
use Rattle.group_rows.proofs.Statuses.{status_deep, status_value, told_tree}
use Rattle.group_facts.specs.Facts.{IsAlone, Opened}
use Rattle.group_facts.proofs.Apart.{asks_fewer}
use Rattle.group_rows.specs.Waiting.{waiting_of, worker_of, is_for_start, is_restarting, waits}
use Rattle.group_rows.specs.held_requests.specs.declared.request.Request.{Request}
use Rattle.group_rows.proofs.Frames.{forwarding_more, waiting_more}
use Rattle.group_facts.proofs.Forwards.{alone_fewer}
use Rattle.group_facts.proofs.Nulls.{null_said}
use Rattle.group_facts.proofs.Numbered.{no_shutdown}
use Rattle.group_facts.proofs.SyncRow.{behind_sync, sync_why, synced_calm}
use Rattle.group_facts.proofs.Tellings.{Calm}
use Rattle.group_facts.proofs.Held.{left_by, drop_all}
use Rattle.group_facts.specs.Why.{IsBehindSync, IsBeside, IsForward, Why, answers, forwarded, refuses, at_once, IsUnheld}

-- a request that is neither `initialize` nor `shutdown` is no one of the daemon's own
turned_round : (a b : List ℕ) → bytes_eq b a ≡ false → bytes_eq a b ≡ false
turned_round a b h = go (bytes_eq a b) refl
  where
    go : (c : Bool) → bytes_eq a b ≡ c → c ≡ false
    go true e = never (sym (subst (λ z. bytes_eq z a ≡ true) ((bytes_eq-Decides a b).0 e) ((bytes_eq-Decides a a).1 refl)) ∙ h)
    go false e = refl

pub not_own : (method : List ℕ) → bytes_eq (codes "initialize") method ≡ false → bytes_eq (codes "shutdown") method ≡ false → is_own method ≡ false
not_own method a b = ap₂ (λ x y. x || y) (turned_round method (codes "initialize") a) (turned_round method (codes "shutdown") b)

abbrev pub either_desk : Bool → Desk → Desk → Desk
either_desk b x y = if b then x else y

-- E5: the answer is a result
pub status_said : (settings : Settings) (before : List Event) (body : List ℕ) (id : Id) (method : List ℕ) (params : Option Json) → message_of body ≡ request id method params
    → message_of (ok_text (id_bytes body) (status_text (items_of settings before))) ≡ result (Some id) (told_tree (items_of settings before))
status_said settings before body id method params says = ok_law (Some id) (told_tree (items_of settings before)) (id_bytes body) (status_text (items_of settings before))
    (id_as_response id (id_bytes body) (request_id_bytes body id method params says)) (status_value (items_of settings before)) (status_deep (items_of settings before))

-- an id that isn't that of the `initialize` of an editor that waits
pub beside_other : (events : List Event) (e : ℕ) (id : Id) → IsBeside events e id → has_id id (message_of (desk_of e events).initialize) ≡ false
beside_other events e id k = ap (has_id id) (k.waiting).asks ∙ k.other

-- an editor that waits behind a message which isn't its first `initialize` waited before
hears_waiting : (phase : Phase) (initialize body : List ℕ) (m : Message) → requests (codes "initialize") m ≡ false → (desk_hears phase initialize body m).phase ≡ Waiting → phase ≡ Waiting
hears_waiting Waiting initialize body m other at = refl
hears_waiting New initialize body m other at = go (requests (codes "initialize") m) other at
  where
    go : (b : Bool) → b ≡ false → (either_desk b (record { phase = Waiting; initialize = body }) (record { phase = New; initialize = initialize })).phase ≡ Waiting → New ≡ Waiting
    go true h k = absurd (cc)
    go false h k = k
hears_waiting Answered initialize body m other at = go (requests (codes "shutdown") m) (makes_running m) at
  where
    go : (a b : Bool) → (if a then Down else if b then Running else Answered) ≡ Waiting → Answered ≡ Waiting
    go true b k = absurd (cc)
    go false true k = absurd (cc)
    go false false k = absurd (cc)
hears_waiting Running initialize body m other at = go (requests (codes "shutdown") m) at
  where
    go : (a : Bool) → (if a then Down else Running) ≡ Waiting → Running ≡ Waiting
    go true k = absurd (cc)
    go false k = absurd (cc)
hears_waiting Absent initialize body m other at = absurd (cc)
hears_waiting Down initialize body m other at = absurd (cc)
hears_waiting Closed initialize body m other at = absurd (cc)
hears_waiting Gone initialize body m other at = absurd (cc)

module _ (settings : Settings) (before : List Event) (e : ℕ) (body : List ℕ) where
  abbrev pub asked : List Event
  asked = with_cause before (FromEditor e body)

  abbrev pub R : List Event → Out → Type 0
  R events out = Why settings before (FromEditor e body) events out

  -- where the editor stands behind its own message
  pub desk_taken : desk_of e asked ≡ desk_hears (desk_of e before).phase (desk_of e before).initialize body (message_of body)
  desk_taken = desk_more e before (heard (FromEditor e body)) ∙ ap (λ b. if b then desk_hears (desk_of e before).phase (desk_of e before).initialize body (message_of body) else desk_of e before) (same_number e)

  module _ (id : Id) (method : List ℕ) (params : Option Json) (says : message_of body ≡ request id method params) (there : is_there (desk_of e before).phase ≡ true) (lonely : IsAlone settings before e id) where
    -- no request of it under this id is open at a start
    alone : IsAlone settings asked e id
    alone = alone_fewer settings before asked (asks_fewer settings before e body) e id lonely

    -- E8
    early : (code : Code) → ((desk_of e asked).phase ≡ Waiting → has_id id (message_of (desk_of e asked).initialize) ≡ false) → Because R asked (answer_error e body code)
    early code others = by_send (refuses (record {
      id = id;
      x = error_tree code;
      there = there_taken settings before e body there;
      waits = open_taken before e body id method params says;
      others = others;
      alone = alone;
      says = refusal_says body id method params code says;
    }))

    pub early_new : (code : Code) → (desk_of e before).phase ≡ New → bytes_eq (codes "initialize") method ≡ false → Because R asked (answer_error e body code)
    early_new code at other = early code (λ waits. absurd (let new : (desk_of e asked).phase ≡ New = still in cc))
      where
        still : (desk_of e asked).phase ≡ New
        still = ap (λ (d : Desk). d.phase) (desk_taken ∙ ap₂ (λ p m. desk_hears p (desk_of e before).initialize body m) at says)
            ∙ ap (λ b. (either_desk b (record { phase = Waiting; initialize = body }) (record { phase = New; initialize = (desk_of e before).initialize })).phase) other

    pub early_waiting : (code : Code) → (desk_of e before).phase ≡ Waiting → is_open id (open_of e before) ≡ false → AllWaiting before → Because R asked (answer_error e body code)
    early_waiting code at fresh waiting = early code (λ waits. ap (λ (d : Desk). has_id id (message_of d.initialize)) (desk_taken ∙ ap (λ p. desk_hears p (desk_of e before).initialize body (message_of body)) at) ∙ ap (has_id id) w.asks ∙ apart (same_id id w.id) refl)
      where
        w : Waits (desk_of e before).initialize (open_of e before)
        w = waits_at before e at waiting

        apart : (b : Bool) → same_id id w.id ≡ b → b ≡ false
        apart true k = absurd (let o : is_open id (open_of e before) ≡ true = subst (λ i. is_open i (open_of e before) ≡ true) (sym (id_same id w.id k)) w.waits in cc)
        apart false k = refl

    -- its own `initialize` is open under another id, where it waits
    module _ (other : requests (codes "initialize") (message_of body) ≡ false) (fresh : (desk_of e before).phase ≡ Waiting → is_open id (open_of e before) ≡ false) (waiting : AllWaiting before) where
      pub waited : (desk_of e asked).phase ≡ Waiting → (desk_of e before).phase ≡ Waiting
      waited at = hears_waiting (desk_of e before).phase (desk_of e before).initialize body (message_of body) other (ap (λ (d : Desk). d.phase) (sym desk_taken) ∙ at)

      pub beside : (desk_of e asked).phase ≡ Waiting → IsBeside asked e id
      beside at = record {
        first = w.id;
        waiting = record { params = w.params; phase = at; asks = ap (λ (d : Desk). message_of d.initialize) (desk_taken ∙ ap (λ p. desk_hears p (desk_of e before).initialize body (message_of body)) (waited at)) ∙ w.asks; waits = still_waits };
        other = apart (same_id id w.id) refl;
      }
        where
          w : Waits (desk_of e before).initialize (open_of e before)
          w = waits_at before e (waited at) waiting

          still_waits : is_open w.id (open_of e asked) ≡ true
          still_waits = ap (is_open w.id) (opens_more e before (heard (FromEditor e body)) ∙ ap₂ (λ b m. if b then with_request m (open_of e before) else open_of e before) (same_number e) says)
              ∙ hears_open true (request id method params) (open_of e before) w.id w.waits

          apart : (b : Bool) → same_id id w.id ≡ b → b ≡ false
          apart true k = absurd (let o : is_open id (open_of e before) ≡ true = subst (λ i. is_open i (open_of e before) ≡ true) (sym (id_same id w.id k)) w.waits in let f : is_open id (open_of e before) ≡ false = fresh (waited at) in cc)
          apart false k = refl

      -- E4
      pub own_refused : (code : Code) → Because R asked (answer_error e body code)
      own_refused code = early code (λ at. beside_other asked e id (beside at))

      pub null_why : Because R asked (send (ToEditor e (ok_text (id_bytes body) (codes "null"))))
      null_why = by_send (answers (record {
        id = id;
        r = word (record { from = 0; to = 0 }) Null;
        there = there_taken settings before e body there;
        others = beside;
        waits = open_taken before e body id method params says;
        alone = alone;
        says = null_said body id method params says;
      }))

      named_why : (o : Option ℕ) → Because R asked (named_row e body o)
      named_why None = own_refused invalid_params
      named_why (Some server) = null_why

      pub open_why : (m : Message) → Because R asked (open_row settings before e body m)
      open_why m = by_choose (λ first. named_why (server_asked settings.servers body)) (λ late. own_refused invalid_request)

      -- E5
      pub status_why : Because R asked (status_row settings before e body)
      status_why = by_send (answers (record {
        id = id;
        r = told_tree (items_of settings before);
        there = there_taken settings before e body there;
        others = beside;
        waits = open_taken before e body id method params says;
        alone = alone;
        says = status_said settings before body id method params says;
      }))

    -- behind the answer to `initialize`
    pub late_refused : (code : Code) → is_early (desk_of e before).phase ≡ false → Because R asked (answer_error e body code)
    late_refused code late = early code (λ at. absurd (late_not (desk_of e asked).phase (late_taken before e body late) at))

    module _ (range : InRange settings) (opened : Opened settings before) (late : is_early (desk_of e before).phase ≡ false) (other : is_own method ≡ false) (unheld : IsUnheld settings before e id) where
      fails : Because R asked (answer_error e body request_failed)
      fails = late_refused request_failed late

      module _ (g s : ℕ) (home : home_of settings e before ≡ Some g) (start : start_of g before ≡ Some s) (can : can_ask settings s before ≡ true) (free : reserves (params_of body) ≡ false) where
        parts : (is_ready (life_of s before).stage ≡ true) × (nat_lt (forwarding_of settings s before).next settings.limits.requests ≡ true)
        parts = and_parts (is_ready (life_of s before).stage) (nat_lt (forwarding_of settings s before).next settings.limits.requests) can

        -- its own message makes none wait there, nor does its own request end to
        none_more : (i : ℕ) → waiting_of settings i asked ≡ waiting_of settings i before
        none_more i = waiting_more settings i before (heard (FromEditor e body)) ∙ go (is_home i (home_of settings e before)) refl
          where
            off : (a b c d : Bool) → d ≡ false → ((a && b) && (c && (d && takes e (length body) (waiting_of settings i before)))) ≡ false
            off true true true d h = ap (λ z. z && takes e (length body) (waiting_of settings i before)) h
            off true true false d h = refl
            off true false c d h = refl
            off false b c d h = refl

            unrestarted : is_home i (home_of settings e before) ≡ true → is_restarting i before ≡ false
            unrestarted here = ap (λ o. option_map_or (λ t. not (is_ready (life_of t before).stage)) o false) (ap (λ z. start_of z before) (sym (number_same g i (sym (ap (is_home i) home) ∙ here))) ∙ start) ∙ ap not parts.0

            go : (b : Bool) → is_home i (home_of settings e before) ≡ b → (if waits settings i before e body (message_of body) (waiting_of settings i before) then waiting_of settings i before ++ held_asked e (id_bytes body) body ∷ [] else waiting_of settings i before) ≡ waiting_of settings i before
            go true here = ap (λ b. if b then waiting_of settings i before ++ held_asked e (id_bytes body) body ∷ [] else waiting_of settings i before)
                (off (is_home i (home_of settings e before)) (is_served (desk_of e before).phase) (is_for_start before e body (message_of body)) (is_restarting i before) (unrestarted here))
            go false away = ap (λ a. if (a && is_served (desk_of e before).phase) && (is_for_start before e body (message_of body) && (is_restarting i before && takes e (length body) (waiting_of settings i before))) then waiting_of settings i before ++ held_asked e (id_bytes body) body ∷ [] else waiting_of settings i before) away

        still_unheld : (events : List Event) → Calm settings range before (FromEditor e body) asked s events → (text : List ℕ) → IsUnheld settings (events ++ said (ToServer s text) ∷ []) e id
        still_unheld events calm text i = subst Away (sym (waiting_more settings i events (said (ToServer s text))))
            (left_by Away (drop_all (λ (r : Request). r.editor ≡ e → IsIdText id r.id → ⊥)) (is_home i (group_of s events)) (worker_of events) (message_of text) (waiting_of settings i events)
            (subst Away (sym (calm.still.waiting i ∙ none_more i)) (unheld i)))
          where
            Away : List Request → Type 0
            Away rs = AllByRecursion (λ (r : Request). r.editor ≡ e → IsIdText id r.id → ⊥) rs

        goes : (events : List Event) → IsBehindSync settings before events s e body → Calm settings range before (FromEditor e body) asked s events
            → IsForward settings before (FromEditor e body) events s (forwarded_text (forwarding_of settings s events).next body)
        goes events told calm = record {
          sender = record { editor = e; id = id_bytes body; work = token_in (codes "workDoneToken") body; partial = token_in (codes "partialResultToken") body };
          asked = body;
          own = ap (sender_of e body) says;
          free = free;
          going = at_once refl told;
          bytes = refl;
          id = id;
          method = method;
          params = new.0;
          at_work = ap (λ o. sender_or o (first_sender settings s events)) (calm.still.sender ∙ ap (λ (x : Forwarding). x.sender) (forwarding_more settings s before (heard (FromEditor e body))) ∙ ap (sender_of e body) says);
          says = new.1;
          other = other;
          room = room;
          ready = calm.still.ready;
          text = request_id_bytes body id method params says;
          waits = ap (is_open id) (calm.still.opens e) ∙ open_taken before e body id method params says;
          late = ap (λ (d : Desk). is_early d.phase) (calm.still.desks e) ∙ late_taken before e body late;
          alone = calm.still.alone e id alone;
          unheld = still_unheld events calm (forwarded_text (forwarding_of settings s events).next body);
        }
          where
            room : nat_lt (forwarding_of settings s events).next settings.limits.requests ≡ true
            room = ap (λ n. nat_lt n settings.limits.requests) (calm.still.next ∙ ap (λ (x : Forwarding). x.next) (forwarding_more settings s before (heard (FromEditor e body)))) ∙ parts.1

            low : (forwarding_of settings s events).next < 2 ^ 64
            low = let below : (forwarding_of settings s events).next < settings.limits.requests = ltb-true (forwarding_of settings s events).next settings.limits.requests room in let wide : settings.limits.requests < 2 ^ 32 = range.requests in omega (arith, below, wide)

            new : (new : Option Json) × (message_of (forwarded_text (forwarding_of settings s events).next body) ≡ request (integer (decimal (forwarding_of settings s events).next)) method new)
            new = forwarded_says (forwarding_of settings s events).next body id method params low says

        -- behind the sync
        abbrev synced : List Event
        synced = behind asked (outs (sync_row settings before g s e) asked)

        calm_there : Calm settings range before (FromEditor e body) asked s synced
        calm_there = synced_calm settings range before opened e body g s parts.0

        pub synced_sender : (forwarding_of settings s synced).sender ≡ Some (record { editor = e; id = id_bytes body; work = token_in (codes "workDoneToken") body; partial = token_in (codes "partialResultToken") body })
        synced_sender = calm_there.still.sender ∙ ap (λ (x : Forwarding). x.sender) (forwarding_more settings s before (heard (FromEditor e body))) ∙ ap (sender_of e body) says

        pub is_forward : IsForward settings before (FromEditor e body) synced s (forwarded_text (forwarding_of settings s synced).next body)
        is_forward = goes synced (behind_sync settings range before opened e body g s parts.0 start (ap (requests (codes "shutdown")) says ∙ no_shutdown method other) (ap (λ m. speaks (saying_of m)) says)) calm_there

        asks : Because R asked (sync_row settings before g s e ⨾ forward settings s body)
        asks = by_then (sync_why settings range before opened e body g s parts.0) (by_look (by_send (forwarded is_forward)))

      at_start : (g s : ℕ) → reserves (params_of body) ≡ false → home_of settings e before ≡ Some g → start_of g before ≡ Some s → Because R asked (request_at settings before e body g s)
      at_start g s free home start = by_choose (λ can. asks g s home start can free) (λ cannot. by_choose (λ waits. by_nothing) (λ full. fails))

      at_group : (g : ℕ) → reserves (params_of body) ≡ false → home_of settings e before ≡ Some g → Because R asked (on (start_of g before) (answer_error e body request_failed) (request_at settings before e body g))
      at_group g free home = by_on (λ none. fails) (λ s start. at_start g s free home start)

      -- E10
      pub request_why : Because R asked (request_row settings before e body)
      request_why = by_choose (λ reserved. late_refused invalid_params late) (λ free. by_on (λ none. fails) (λ g home. at_group g free home))
