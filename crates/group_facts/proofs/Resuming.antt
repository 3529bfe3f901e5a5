-- L2: why an editor that begins to run is asked what waits at its group's start, and shown its last lists.
use Rattle.std.proofs.Common.{append_assoc, ◌≡◌, ℕ, ◌^◌, ◌<◌, Bool, true, false, ◌&&◌, ◌||◌, List, [], ◌∷◌, ◌++◌, append-nil, codes, decimal, map, nat_eq, nat_lt, if◌then◌else◌, Option, Some, None, ◌⊎◌, inl, inr, refl, sym, ◌∙◌, ap, ap₂, subst, ltb-true, arith}
use Rattle.std.specs.List.{AllByRecursion}
use Rattle.std.specs.Option.{option_and_then, option_map_or}
use Rattle.std.proofs.lemmas.List.Sums.{fold-append}
use Rattle.mux_history.specs.declared.cause.Cause.TheVariants.{FromEditor}
use Rattle.mux_history.specs.declared.out.Out.{Out}
use Rattle.mux_history.specs.declared.out.Out.TheVariants.{ToEditor, ToServer, Spawn, CloseEditor, EndServer}
use Rattle.rpc_message.specs.Message.{request, notification, integer, message_of}
use Rattle.rpc_message.specs.Texts.{with_id_text}
use Rattle.rpc_message.proofs.Decimals.{decimal_law}
use Rattle.rpc_message.proofs.Ids.{request_with_id}
use Rattle.event_model.specs.declared.phase.Phase.TheVariants.{Answered, Down, Running}
use Rattle.event_model.specs.declared.stage.Stage.TheVariants.{Ready}
use Rattle.event_model.specs.Event.{Event, behind, did, heard, notifies, requests, said, with_cause}
use Rattle.event_model.specs.Phases.{Desk, desk_hears, desk_of, is_new, is_there, is_waiting, makes_running}
use Rattle.event_model.specs.Row.{choose, each, nothing, on, outs, send}
use Rattle.event_model.specs.Settings.{Settings}
use Rattle.event_model.specs.Spawns.{start_of}
use Rattle.event_model.specs.Stages.{life_of}
use Rattle.event_model.proofs.Frames.{never}
use Rattle.mux_facts.proofs.DocumentRow.{ready_is}
use Rattle.mux_facts.proofs.Keeps.{behind_both}
use Rattle.mux_facts.proofs.Folds.{desk_more}
use Rattle.mux_facts.proofs.Reasons.{Because, Reasons, by_choose, by_look, by_nothing, by_on, by_send, by_then}
use Rattle.mux_facts.proofs.Words.{same_number}
use Rattle.group_words.specs.Houses.{groups_of, home_of, is_doubled, placed_for}
use Rattle.group_words.proofs.Frames.{home_stays}
use Rattle.group_rows.specs.AskRows.{ask, run_at, run_row}
use Rattle.group_rows.specs.Created.{Token, created_of}
use Rattle.group_rows.specs.CreatedRows.{create_text, offer, offer_all}
use Rattle.group_rows.proofs.CreatedTexts.{create_says, create_tree}
use Rattle.group_rows.specs.Asks.{Asking, Parked, asked_behind, asking_next, asking_of, has_number, next_ask, parked_of, serves}
use Rattle.group_rows.specs.diagnostics_route.specs.declared.last_list.LastList.{LastList}
use Rattle.group_rows.specs.ListRows.{show_all, show_full}
use Rattle.group_rows.specs.Lists.{lists_of}
use Rattle.group_rows.proofs.ListsKept.{IsList, lists_kept}
use Rattle.group_rows.proofs.Versions.{AllMeant}
use Rattle.group_rows.specs.registrations.specs.declared.registration.Registration.{Registration}
use Rattle.group_rows.specs.Live.{live_of, register_text}
use Rattle.group_rows.specs.LiveRows.{call, has_some, restore}
use Rattle.group_rows.proofs.LiveTexts.{live_written, register_says}
use Rattle.json_text.specs.Json.{Json}
use Rattle.group_facts.specs.Facts.{Asks, IsParked, is_put_out, is_too_many, leaves, turned_away}
use Rattle.group_facts.specs.Why.{IsQuestion, IsCall, IsResumed, Why, begins_by, calls, has_method, restores, resumes, revives, shows}
use Rattle.group_facts.proofs.Asks.{asking_more, registering_made, resumed_here}
use Rattle.group_facts.proofs.AskingRows.{creates_all, registers_all, still_runs, work_told}
use Rattle.group_facts.proofs.Begun.{start_did, start_took}
use Rattle.group_facts.proofs.Homes.{took_home}
use Rattle.group_facts.proofs.Quits.{running_goes_on}
use Rattle.group_facts.proofs.Shown.{behind_full, shown_why, text_says, text_shown}
use Rattle.group_facts.proofs.Still.{unended, unshut}

-- a message that makes an editor run turns it not away, nor ends its link
module _ (settings : Settings) (before : List Event) (e : ℕ) (body : List ℕ) (waited : (desk_of e before).phase ≡ Answered) (runs : makes_running (message_of body) ≡ true) (single : is_doubled before e (message_of body) ≡ false) where
  and_off : (a : Bool) → (a && false) ≡ false
  and_off true = refl
  and_off false = refl

  unturned : turned_away settings before (FromEditor e body) e ≡ false
  unturned = ap₂ (λ x y. x || y) (ap (λ p. nat_eq e e && ((is_new p && requests (codes "initialize") (message_of body)) && is_too_many (placed_for settings before e body (groups_of settings before)))) waited ∙ and_off (nat_eq e e))
      (ap (λ b. b && is_waiting (desk_of e before).phase) (running_goes_on before e (message_of body) runs))

  settled : (a n b c d p : Bool) → a ≡ false → b ≡ false → c ≡ false → d ≡ false → p ≡ false → ((a || ((n && (b || c)) || p)) || (n && d)) ≡ false
  settled false n false false false false ha hb hc hd hp = ap₂ (λ x y. (x || false) || y) (and_off n) (and_off n)
  settled true n b c d p ha hb hc hd hp = never ha
  settled false n true c d p ha hb hc hd hp = never hb
  settled false n false true d p ha hb hc hd hp = never hc
  settled false n false false true p ha hb hc hd hp = never hd
  settled false n false false false true ha hb hc hd hp = never hp

  pub stays_there : leaves settings before (FromEditor e body) e ≡ false
  stays_there = settled (turned_away settings before (FromEditor e body) e) (nat_eq e e) (notifies (codes "exit") (message_of body)) (is_doubled before e (message_of body)) (requests (codes "shutdown") (message_of body)) (is_put_out settings before (FromEditor e body) e)
      unturned (unended settings before e body (message_of body) runs) single (unshut settings before e body (message_of body) runs) (ap (λ b. b && is_there (desk_of e before).phase) (running_goes_on before e (message_of body) runs))

module _ (settings : Settings) (before : List Event) (e : ℕ) (body : List ℕ) (waited : (desk_of e before).phase ≡ Answered) (runs : makes_running (message_of body) ≡ true) (stays : leaves settings before (FromEditor e body) e ≡ false) where
  abbrev base : List Event
  base = with_cause before (FromEditor e body)

  -- each out has its reason, and asks the editor something or tells it
  abbrev R : List Event → Out → Type 0
  R events out = Why settings before (FromEditor e body) events out × IsQuestion e out

  pub began : (desk_of e base).phase ≡ Running
  began = ap (λ (d : Desk). d.phase) (desk_more e before (heard (FromEditor e body)))
      ∙ ap (λ b. (if b then desk_hears (desk_of e before).phase (desk_of e before).initialize body (message_of body) else desk_of e before).phase) (same_number e)
      ∙ ap (λ p. (desk_hears p (desk_of e before).initialize body (message_of body)).phase) waited
      ∙ ap (λ b. if b then Down else if makes_running (message_of body) then Running else Answered) (unshut settings before e body (message_of body) runs)
      ∙ ap (λ b. if b then Running else Answered) runs

  module _ (g s : ℕ) (home : home_of settings e before ≡ Some g) (last : start_of g before ≡ Some s) (ready : (life_of s before).stage ≡ Ready) where
    -- what is known at a place where these still wait
    record Resumes (events : List Event) (ps : List Parked) : Type 0 where
      own : (t : ℕ) → (asking_of settings t events).runs ≡ Some e
      idle : (t : ℕ) → (asking_of settings t events).asker ≡ None
      at_home : home_of settings e events ≡ Some g
      start : start_of g events ≡ Some s
      running : (desk_of e events).phase ≡ Running
      waits : parked_of settings s events ≡ ps

    -- or no number is left
    abbrev Goes_on : List Event → List Parked → Type 0
    Goes_on events ps = Resumes events ps ⊎ (has_number e events ≡ false)

    served : (events : List Event) (ps : List Parked) → Resumes events ps → serves settings events s e ≡ true
    served events ps k = ap (λ o. option_map_or (nat_eq s) (option_and_then (λ h. start_of h events) o) false) k.at_home ∙ ap (λ o. option_map_or (nat_eq s) o false) k.start ∙ same_number s

    module _ (p : Parked) (q : IsParked s before p) (events : List Event) (rest : List Parked) (k : Resumes events (p ∷ rest)) (room : has_number e events ≡ true) where
      abbrev text : List ℕ
      text = with_id_text p.body (decimal (next_ask e events))

      says : message_of text ≡ request (integer (decimal (next_ask e events))) q.method q.params
      says = request_with_id p.body (decimal (next_ask e events)) p.id (integer (decimal (next_ask e events))) q.method q.params q.says (decimal_law (next_ask e events) (ltb-true (next_ask e events) (2 ^ 64) room))

      abbrev resumed : IsResumed settings before (FromEditor e body) events e text
      resumed = record {
        start = s;
        text = body;
        from = refl;
        began = began;
        waited = waited;
        stays = stays;
        group = g;
        home = home;
        last = last;
        ready = ready;
        served = served events (p ∷ rest) k;
        own = k.own;
        idle = k.idle;
        running = k.running;
        first = p;
        rest = rest;
        waits = k.waits;
        method = q.method;
        params = q.params;
        patient = q.patient;
        asks = q.says;
        room = room;
        bytes = refl;
        says = says;
      }

      next : Resumes (events ++ said (ToEditor e text) ∷ []) rest
      next = record {
        own = λ t. ap (λ (x : Asking). x.runs) (asking_more settings t events (said (ToEditor e text))) ∙ ((work_told settings t events (asking_of settings t events) e text (message_of text)).1 ∙ k.own t);
        idle = λ t. ap (λ (x : Asking). x.asker) (asking_more settings t events (said (ToEditor e text))) ∙ ((work_told settings t events (asking_of settings t events) e text (message_of text)).0 ∙ k.idle t);
        at_home = home_stays settings e events (said (ToEditor e text)) refl ∙ k.at_home;
        start = start_did g events (ToEditor e text) tt ∙ k.start;
        running = still_runs events e text e k.running;
        waits = ap (λ (x : Asking). x.parked) (asking_more settings s events (said (ToEditor e text))) ∙ ap (λ (x : Asking). x.parked) (resumed_here settings events e text before (FromEditor e body) resumed);
      }

    -- what is live
    abbrev live : List Registration
    live = live_of settings s before

    module _ (events : List Event) (ps : List Parked) (k : Resumes events ps) (room : has_number e events ≡ true) where
      abbrev all_text : List ℕ
      all_text = register_text live (next_ask e events)

      all_says : (params : Json) × (message_of all_text ≡ request (integer (decimal (next_ask e events))) (codes "client/registerCapability") (Some params))
      all_says = register_says live (live_written settings s before) (next_ask e events) (let small : next_ask e events < 2 ^ 64 = ltb-true (next_ask e events) (2 ^ 64) room in omega (arith, small))

      abbrev restored : IsCall settings before (FromEditor e body) events e all_text
      restored = record {
        start = s;
        told = restores (record { text = body; from = refl; began = began; waited = waited; group = g; home = home; last = last }) refl;
        ready = ready;
        running = k.running;
        idle = k.idle;
        room = room;
        method = codes "client/registerCapability";
        params = Some all_says.0;
        named = registers_all;
        says = all_says.1;
      }

      restored_next : Resumes (events ++ said (ToEditor e all_text) ∷ []) ps
      restored_next =
          let same : (t : ℕ) → asking_of settings t (events ++ said (ToEditor e all_text) ∷ []) ≡ asking_of settings t events = λ t. asking_more settings t events (said (ToEditor e all_text)) ∙ registering_made settings events e all_text before (FromEditor e body) restored t in
          record {
            own = λ t. ap (λ (x : Asking). x.runs) (same t) ∙ k.own t;
            idle = λ t. ap (λ (x : Asking). x.asker) (same t) ∙ k.idle t;
            at_home = home_stays settings e events (said (ToEditor e all_text)) refl ∙ k.at_home;
            start = start_did g events (ToEditor e all_text) tt ∙ k.start;
            running = still_runs events e all_text e k.running;
            waits = ap (λ (x : Asking). x.parked) (same s) ∙ k.waits;
          }

    call_why : (events : List Event) (ps : List Parked) → Resumes events ps → Because R events (call (register_text live) e)
    call_why events ps k = by_look (by_choose (λ room. by_send (calls (restored events ps k room), (refl, ap has_method (all_says events ps k room).1))) (λ none. by_nothing))

    restore_why : (events : List Event) (ps : List Parked) → Resumes events ps → Because R events (restore settings before e s)
    restore_why events ps k = by_choose (λ some. call_why events ps k) (λ none. by_nothing)

    call_next : (events : List Event) (ps : List Parked) → Resumes events ps → Goes_on (behind events (outs (call (register_text live) e) events)) ps
    call_next events ps k = go (has_number e events) refl
      where
        go : (b : Bool) → has_number e events ≡ b → Goes_on (behind events (outs (choose b (send (ToEditor e (register_text live (next_ask e events)))) nothing) events)) ps
        go true room = inl (restored_next events ps k room)
        go false full = inr (subst (λ z. has_number e z ≡ false) (sym (append-nil events)) full)

    restore_next : (events : List Event) (ps : List Parked) → Resumes events ps → Goes_on (behind events (outs (restore settings before e s) events)) ps
    restore_next events ps k = go (has_some live)
      where
        go : (b : Bool) → Goes_on (behind events (outs (choose b (call (register_text live) e) nothing) events)) ps
        go true = call_next events ps k
        go false = inl (subst (λ z. Resumes z ps) (sym (append-nil events)) k)

    -- the tokens that live, in the order of creation
    module _ (t : Token) (earlier later : List Token) (order : (created_of settings s before).tokens ≡ earlier ++ t ∷ later) (events : List Event) (ps : List Parked) (k : Resumes events ps) (room : has_number e events ≡ true) where
      abbrev offer_text : List ℕ
      offer_text = create_text s t.number (next_ask e events)

      offer_says : message_of offer_text ≡ request (integer (decimal (next_ask e events))) (codes "window/workDoneProgress/create") (Some (create_tree s t.number))
      offer_says = create_says s t.number (next_ask e events) (let small : next_ask e events < 2 ^ 64 = ltb-true (next_ask e events) (2 ^ 64) room in omega (arith, small))

      abbrev offered : IsCall settings before (FromEditor e body) events e offer_text
      offered = record {
        start = s;
        told = revives t earlier later (record { text = body; from = refl; began = began; waited = waited; group = g; home = home; last = last }) order refl;
        ready = ready;
        running = k.running;
        idle = k.idle;
        room = room;
        method = codes "window/workDoneProgress/create";
        params = Some (create_tree s t.number);
        named = creates_all;
        says = offer_says;
      }

      offered_next : Resumes (events ++ said (ToEditor e offer_text) ∷ []) ps
      offered_next =
          let same : (n : ℕ) → asking_of settings n (events ++ said (ToEditor e offer_text) ∷ []) ≡ asking_of settings n events = λ n. asking_more settings n events (said (ToEditor e offer_text)) ∙ registering_made settings events e offer_text before (FromEditor e body) offered n in
          record {
            own = λ n. ap (λ (x : Asking). x.runs) (same n) ∙ k.own n;
            idle = λ n. ap (λ (x : Asking). x.asker) (same n) ∙ k.idle n;
            at_home = home_stays settings e events (said (ToEditor e offer_text)) refl ∙ k.at_home;
            start = start_did g events (ToEditor e offer_text) tt ∙ k.start;
            running = still_runs events e offer_text e k.running;
            waits = ap (λ (x : Asking). x.parked) (same s) ∙ k.waits;
          }

    offer_why : (t : Token) (earlier later : List Token) → (created_of settings s before).tokens ≡ earlier ++ t ∷ later → (events : List Event) (ps : List Parked) → Goes_on events ps → Because R events (offer s e t)
    offer_why t earlier later order events ps (inl k) = by_look (by_choose (λ room. by_send (calls (offered t earlier later order events ps k room), (refl, ap has_method (offer_says t earlier later order events ps k room)))) (λ none. by_nothing))
    offer_why t earlier later order events ps (inr full) = by_look (by_choose (λ room. never (sym room ∙ full)) (λ none. by_nothing))

    offer_next : (t : Token) (earlier later : List Token) → (created_of settings s before).tokens ≡ earlier ++ t ∷ later → (events : List Event) (ps : List Parked) → Goes_on events ps → Goes_on (behind events (outs (offer s e t) events)) ps
    offer_next t earlier later order events ps k = go (has_number e events) refl k
      where
        go : (b : Bool) → has_number e events ≡ b → Goes_on events ps → Goes_on (behind events (outs (choose b (send (ToEditor e (create_text s t.number (next_ask e events)))) nothing) events)) ps
        go true room (inl k) = inl (offered_next t earlier later order events ps k room)
        go true room (inr full) = never (sym room ∙ full)
        go false full k = inr (subst (λ z. has_number e z ≡ false) (sym (append-nil events)) full)

    offers_why : (earlier ts : List Token) → (created_of settings s before).tokens ≡ earlier ++ ts → (events : List Event) (ps : List Parked) → Goes_on events ps → Because R events (each (offer s e) ts)
    offers_why earlier [] order events ps k = by_nothing
    offers_why earlier (t ∷ ts) order events ps k = by_then (offer_why t earlier ts order events ps k)
        (offers_why (earlier ++ t ∷ []) ts (order ∙ sym (append_assoc earlier (t ∷ []) ts)) (behind events (outs (offer s e t) events)) ps (offer_next t earlier ts order events ps k))

    offers_next : (earlier ts : List Token) → (created_of settings s before).tokens ≡ earlier ++ ts → (events : List Event) (ps : List Parked) → Goes_on events ps → Goes_on (behind events (outs (each (offer s e) ts) events)) ps
    offers_next earlier [] order events ps k = subst (λ z. Goes_on z ps) (sym (append-nil events)) k
    offers_next earlier (t ∷ ts) order events ps k = subst (λ z. Goes_on z ps) (sym (behind_both events (outs (offer s e t) events) (outs (each (offer s e) ts) (behind events (outs (offer s e t) events)))))
        (offers_next (earlier ++ t ∷ []) ts (order ∙ sym (append_assoc earlier (t ∷ []) ts)) (behind events (outs (offer s e t) events)) ps (offer_next t earlier ts order events ps k))

    -- the last lists, in the order of their documents' first ones
    module _ (meant : AllMeant before) where
      lists_why : (earlier ls : List LastList) → lists_of s before ≡ earlier ++ ls → AllByRecursion IsList ls → (events : List Event) → (desk_of e events).phase ≡ Running → Because R events (each (show_full settings before s e) ls)
      lists_why earlier [] order kept events running = by_nothing
      lists_why earlier (l ∷ ls) order kept events running = by_then
          (by_choose (λ empty. by_nothing) (λ full. shown_why settings before meant e s l kept.0 before (FromEditor e body) R events (λ text k. (shows k, (refl, ap has_method k.says))) ready running
          (λ text fitting. begins_by l earlier ls (record { text = body; from = refl; began = began; waited = waited; group = g; home = home; last = last }) order full fitting)))
          (lists_why (earlier ++ l ∷ []) ls (order ∙ sym (append_assoc earlier (l ∷ []) ls)) kept.1 (behind events (outs (show_full settings before s e l) events))
          (behind_full settings before e s l (λ z. (desk_of e z).phase ≡ Running) events (still_runs events e (text_shown settings before meant e s l kept.0) e running) running))

      -- a notification asks nothing
      told_next : (text method : List ℕ) (params : Option Json) → message_of text ≡ notification method params → (events : List Event) (ps : List Parked) → Goes_on events ps → Goes_on (events ++ said (ToEditor e text) ∷ []) ps
      told_next text method params says events ps (inl k) =
          let same : (n : ℕ) → asking_of settings n (events ++ said (ToEditor e text) ∷ []) ≡ asking_of settings n events = λ n. asking_more settings n events (said (ToEditor e text)) ∙ ap (λ m. asking_next settings n events (asking_of settings n events) (did (ToEditor e text) m)) says in
          inl (record {
            own = λ n. ap (λ (x : Asking). x.runs) (same n) ∙ k.own n;
            idle = λ n. ap (λ (x : Asking). x.asker) (same n) ∙ k.idle n;
            at_home = home_stays settings e events (said (ToEditor e text)) refl ∙ k.at_home;
            start = start_did g events (ToEditor e text) tt ∙ k.start;
            running = still_runs events e text e k.running;
            waits = ap (λ (x : Asking). x.parked) (same s) ∙ k.waits;
          })
      told_next text method params says events ps (inr full) = inr (ap (λ n. nat_lt n (2 ^ 64)) (fold-append (asked_behind e) 1 events (said (ToEditor e text) ∷ []) ∙ ap (λ m. asked_behind e (next_ask e events) (did (ToEditor e text) m)) says) ∙ full)

      lists_next : (ls : List LastList) → AllByRecursion IsList ls → (events : List Event) (ps : List Parked) → Goes_on events ps → Goes_on (behind events (outs (each (show_full settings before s e) ls) events)) ps
      lists_next [] kept events ps k = subst (λ z. Goes_on z ps) (sym (append-nil events)) k
      lists_next (l ∷ ls) kept events ps k = subst (λ z. Goes_on z ps) (sym (behind_both events (outs (show_full settings before s e l) events) (outs (each (show_full settings before s e) ls) (behind events (outs (show_full settings before s e l) events)))))
          (lists_next ls kept.1 (behind events (outs (show_full settings before s e l) events)) ps (behind_full settings before e s l (λ z. Goes_on z ps) events
          (told_next (text_shown settings before meant e s l kept.0) (kept.0).method (text_says settings before meant e s l kept.0).0 (text_says settings before meant e s l kept.0).1 events ps k) k))

    one_why : (p : Parked) → IsParked s before p → (events : List Event) (rest : List Parked) → Goes_on events (p ∷ rest) → Because R events (ask p.body e)
    one_why p q events rest (inl k) = by_look (by_choose (λ room. by_send (resumes (resumed p q events rest k room), (refl, ap has_method (says p q events rest k room)))) (λ none. by_nothing))
    one_why p q events rest (inr full) = by_look (by_choose (λ room. never (sym room ∙ full)) (λ none. by_nothing))

    one_next : (p : Parked) → IsParked s before p → (events : List Event) (rest : List Parked) → Goes_on events (p ∷ rest) → Goes_on (behind events (outs (ask p.body e) events)) rest
    one_next p q events rest k = go (has_number e events) refl k
      where
        go : (b : Bool) → has_number e events ≡ b → Goes_on events (p ∷ rest) → Goes_on (behind events (outs (choose b (send (ToEditor e (with_id_text p.body (decimal (next_ask e events))))) nothing) events)) rest
        go true room (inl k) = inl (next p q events rest k room)
        go true room (inr full) = never (sym room ∙ full)
        go false full k = inr (subst (λ z. has_number e z ≡ false) (sym (append-nil events)) full)

    all_why : (ps : List Parked) → AllByRecursion (IsParked s before) ps → (events : List Event) → Goes_on events ps → Because R events (each (λ (p : Parked). ask p.body e) ps)
    all_why [] all events k = by_nothing
    all_why (p ∷ ps) all events k = by_then (one_why p all.0 events ps k) (all_why ps all.1 (behind events (outs (ask p.body e) events)) (one_next p all.0 events ps k))

    begins : Resumes base (parked_of settings s before)
    begins = record {
      own = λ t. ap (λ (x : Asking). x.runs) (asking_more settings t before (heard (FromEditor e body)));
      idle = λ t. ap (λ (x : Asking). x.asker) (asking_more settings t before (heard (FromEditor e body)));
      at_home = took_home settings before e (ap is_new waited) (FromEditor e body) (ap (λ b. nat_eq e e && b) (unshut settings before e body (message_of body) runs) ∙ and_off (nat_eq e e)) ∙ home;
      start = start_took g before (FromEditor e body) ∙ last;
      running = began;
      waits = ap (λ (x : Asking). x.parked) (asking_more settings s before (heard (FromEditor e body)));
    }
      where
        and_off : (a : Bool) → (a && false) ≡ false
        and_off true = refl
        and_off false = refl

  -- an editor that runs does so behind what it is asked and told
  still_running : (xs : List Out) (events : List Event) → AllByRecursion (IsQuestion e) xs → (desk_of e events).phase ≡ Running → (desk_of e (behind events xs)).phase ≡ Running
  still_running [] events h running = subst (λ z. (desk_of e z).phase ≡ Running) (sym (append-nil events)) running
  still_running (ToEditor n words ∷ xs) events h running = subst (λ z. (desk_of e z).phase ≡ Running) (append_assoc events (said (ToEditor n words) ∷ []) (map said xs)) (still_running xs (events ++ said (ToEditor n words) ∷ []) h.1 (still_runs events n words e running))
  still_running (ToServer n words ∷ xs) events h running = absurd h.0
  still_running (Spawn n g ∷ xs) events h running = absurd h.0
  still_running (CloseEditor n ∷ xs) events h running = absurd h.0
  still_running (EndServer n ∷ xs) events h running = absurd h.0

  parted : (events : List Event) (xs : List Out) → Reasons R events xs → Reasons (λ places out. Why settings before (FromEditor e body) places out) events xs × AllByRecursion (IsQuestion e) xs
  parted events [] h = (tt, tt)
  parted events (x ∷ xs) h = let rest = parted (events ++ said x ∷ []) xs h.1 in ((h.0.0, rest.0), (h.0.1, rest.1))

  run_there : Asks settings before → AllMeant before → (g s : ℕ) → home_of settings e before ≡ Some g → start_of g before ≡ Some s → Because R base (run_at settings before e s)
  run_there all meant g s home last = by_choose (λ is. let ready = ready_is (life_of s before).stage is in
      let mid : List Event = behind base (outs (restore settings before e s) base) in
      let told : Goes_on g s home last ready mid (parked_of settings s before) = restore_next g s home last ready base (parked_of settings s before) (begins g s home last ready) in
      let restoring : Because R base (restore settings before e s) = restore_why g s home last ready base (parked_of settings s before) (begins g s home last ready) in
      let offering : Because R mid (offer_all settings before e s) = offers_why g s home last ready [] (created_of settings s before).tokens refl mid (parked_of settings s before) told in
      let offered : List Event = behind mid (outs (offer_all settings before e s) mid) in
      let asked : Goes_on g s home last ready offered (parked_of settings s before) = offers_next g s home last ready [] (created_of settings s before).tokens refl mid (parked_of settings s before) told in
      let running : (desk_of e offered).phase ≡ Running = still_running (outs (offer_all settings before e s) mid) mid (parted mid (outs (offer_all settings before e s) mid) offering.why).1
      (still_running (outs (restore settings before e s) base) base (parted base (outs (restore settings before e s) base) restoring.why).1 began) in
      by_then restoring
      (by_then offering
      (by_then (lists_why g s home last ready meant [] (lists_of s before) refl (lists_kept s before meant) offered running)
      (all_why g s home last ready (parked_of settings s before) (all s).parked (behind offered (outs (show_all settings before e s) offered)) (lists_next g s home last ready meant (lists_of s before) (lists_kept s before meant) offered (parked_of settings s before) asked))))) (λ off. by_nothing)

  run_in : Asks settings before → AllMeant before → (g : ℕ) → home_of settings e before ≡ Some g → Because R base (on (start_of g before) nothing (run_at settings before e))
  run_in all meant g home = by_on (λ none. by_nothing) (λ s last. run_there all meant g s home last)

  run_both : Asks settings before → AllMeant before → Because R base (run_row settings before e)
  run_both all meant = by_on (λ none. by_nothing) (λ g home. run_in all meant g home)

  pub run_why : Asks settings before → AllMeant before → Because (Why settings before (FromEditor e body)) base (run_row settings before e)
  run_why all meant = record { why = (parted base (outs (run_row settings before e) base) (run_both all meant).why).0 }

  pub run_questions : Asks settings before → AllMeant before → AllByRecursion (IsQuestion e) (outs (run_row settings before e) base)
  run_questions all meant = (parted base (outs (run_row settings before e) base) (run_both all meant).why).1
