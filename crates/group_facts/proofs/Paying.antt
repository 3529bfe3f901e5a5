-- E10, E16 and E17: why an editor is asked what it is owed, behind a message of its own that goes on.
use Rattle.std.proofs.Common.{append_assoc, ◌≡◌, ℕ, ◌^◌, Bool, true, false, ◌&&◌, ◌||◌, not, List, [], ◌∷◌, ◌++◌, append-nil, codes, bytes_eq, decimal, nat_eq, if◌then◌else◌, Option, Some, None, refl, sym, ◌∙◌, ap, ap₂, subst, ltb-true}
use Rattle.std.specs.List.{AllByRecursion}
use Rattle.std.proofs.lemmas.Bool.{and_parts}
use Rattle.mux_history.specs.declared.cause.Cause.TheVariants.{FromEditor}
use Rattle.mux_history.specs.declared.out.Out.{Out}
use Rattle.mux_history.specs.declared.out.Out.TheVariants.{ToEditor, ToServer, Spawn, CloseEditor, EndServer}
use Rattle.rpc_message.specs.Message.{Message, request, notification, result, error, not_json, not_message, integer, message_of}
use Rattle.rpc_message.specs.Texts.{with_id_text}
use Rattle.rpc_message.proofs.Decimals.{decimal_law}
use Rattle.rpc_message.proofs.Ids.{request_with_id}
use Rattle.event_model.specs.declared.phase.Phase.TheVariants.{Down, Running}
use Rattle.event_model.specs.Event.{Event, behind, heard, requests, said, with_cause}
use Rattle.event_model.specs.Phases.{Desk, desk_hears, desk_of, is_multiplexer_request, is_new, is_running, is_there, is_waiting, makes_running, phase_closed}
use Rattle.event_model.specs.Row.{choose, each, nothing, on, outs, send}
use Rattle.event_model.specs.Settings.{Settings}
use Rattle.event_model.specs.Spawns.{start_of}
use Rattle.event_model.specs.Stages.{is_ready, life_of}
use Rattle.event_model.proofs.Frames.{never}
use Rattle.mux_facts.proofs.DocumentRow.{ready_is}
use Rattle.mux_facts.proofs.Folds.{desk_more}
use Rattle.mux_facts.proofs.Lists.{all_join}
use Rattle.mux_facts.proofs.Reasons.{Because, Reasons, by_choose, by_look, by_nothing, by_on, by_send, by_then, reasons_keep}
use Rattle.mux_facts.proofs.Words.{number_same, same_number}
use Rattle.group_words.specs.Houses.{groups_of, home_of, is_doubled, placed_for}
use Rattle.group_rows.specs.refresh_debts.specs.declared.debts.Debt.{Debt}
use Rattle.group_rows.specs.AskRows.{ask, debts_at, debts_row}
use Rattle.group_rows.specs.Asks.{Asking, asking_next, asking_of, has_number, next_ask, serves}
use Rattle.group_rows.specs.Debts.{IsDebt, debts_of, goes_forth, goes_to}
use Rattle.group_rows.specs.Forwarded.{has_room}
use Rattle.group_rows.specs.Reserved.{reserves}
use Rattle.group_rows.specs.Waiting.{is_for_start, is_misplaced}
use Rattle.group_rows.proofs.DebtsKept.{debts_kept}
use Rattle.group_rows.proofs.Going.{no_exit}
use Rattle.group_rows.proofs.Versions.{AllMeant}
use Rattle.event_model.specs.Members.{params_of}
use Rattle.group_facts.specs.Facts.{ends_link, is_too_many, turned_away}
use Rattle.group_facts.specs.Why.{IsPaid, IsQuestion, Why, has_method, pays}
use Rattle.group_facts.proofs.Asks.{asking_more}
use Rattle.group_facts.proofs.AskingRows.{running_is, still_runs, work_sent, work_told}
use Rattle.group_facts.proofs.Quits.{running_goes_on}
use Rattle.group_facts.proofs.Still.{unended, unshut}

-- what goes on makes its editor run, under an id that isn't open
off_is : (a : Bool) → not a ≡ true → a ≡ false
off_is true h = never (sym h)
off_is false h = refl

pub record GoesOn (before : List Event) (e : ℕ) (m : Message) : Type 0 where
  pub runs : makes_running m ≡ true
  pub single : is_doubled before e m ≡ false

pub goes_runs : (settings : Settings) (s : ℕ) (before : List Event) (e : ℕ) (body : List ℕ) (m : Message) → goes_forth settings s before e body m ≡ true → GoesOn before e m
goes_runs settings s before e body (request id method params) h =
    let m : Message = request id method params in
    let both = and_parts (is_for_start before e body m) (has_room settings s before) h in
    let one = and_parts (not (is_doubled before e m)) (not (is_multiplexer_request m) && (not (is_misplaced method) && (not (bytes_eq (codes "shutdown") method) && not (reserves (params_of body))))) both.0 in
    let two = and_parts (not (is_multiplexer_request m)) (not (is_misplaced method) && (not (bytes_eq (codes "shutdown") method) && not (reserves (params_of body)))) one.1 in
    let three = and_parts (not (is_misplaced method)) (not (bytes_eq (codes "shutdown") method) && not (reserves (params_of body))) two.1 in
    let four = and_parts (not (bytes_eq (codes "shutdown") method)) (not (reserves (params_of body))) three.1 in
    record {
      runs = ap₂ (λ a b. not (a || b)) (off_is (bytes_eq (codes "shutdown") method) four.0) (off_is (is_multiplexer_request m) two.0);
      single = off_is (is_doubled before e m) one.0;
    }
goes_runs settings s before e body (notification method params) h = record { runs = ap (λ a. not (a || false)) (no_exit method h); single = refl }
goes_runs settings s before e body (result id r) h = never (sym h)
goes_runs settings s before e body (error id x) h = never (sym h)
goes_runs settings s before e body not_json h = never (sym h)
goes_runs settings s before e body not_message h = never (sym h)

-- no out changes whose request is at work
asker_did : (settings : Settings) (t : ℕ) (events : List Event) (x : Asking) (out : Out) → (asking_next settings t events x (said out)).asker ≡ x.asker
asker_did settings t events x (ToEditor e body) = (work_told settings t events x e body (message_of body)).0
asker_did settings t events x (ToServer n body) = (work_sent settings t events x n body (message_of body)).0
asker_did settings t events x (Spawn n g) = refl
asker_did settings t events x (CloseEditor n) = refl
asker_did settings t events x (EndServer n) = refl

module _ (settings : Settings) (before : List Event) (e : ℕ) (body : List ℕ) where
  abbrev base : List Event
  base = with_cause before (FromEditor e body)

  abbrev R : List Event → Out → Type 0
  R events out = Why settings before (FromEditor e body) events out

  -- at a place of the entry
  pub record Pays (events : List Event) : Type 0 where
    pub running : (desk_of e events).phase ≡ Running
    pub idle : (t : ℕ) → (asking_of settings t events).asker ≡ None

  module _ (s : ℕ) (goes : goes_to settings s before e body (message_of body) ≡ true) where
    halves : ((is_running (desk_of e before).phase && (serves settings before s e && is_ready (life_of s before).stage)) ≡ true) × (goes_forth settings s before e body (message_of body) ≡ true)
    halves = and_parts (is_running (desk_of e before).phase && (serves settings before s e && is_ready (life_of s before).stage)) (goes_forth settings s before e body (message_of body)) goes

    ran : (desk_of e before).phase ≡ Running
    ran = running_is settings before (desk_of e before).phase (and_parts (is_running (desk_of e before).phase) (serves settings before s e && is_ready (life_of s before).stage) halves.0).0

    ready : is_ready (life_of s before).stage ≡ true
    ready = (and_parts (serves settings before s e) (is_ready (life_of s before).stage) (and_parts (is_running (desk_of e before).phase) (serves settings before s e && is_ready (life_of s before).stage) halves.0).1).1

    forth : GoesOn before e (message_of body)
    forth = goes_runs settings s before e body (message_of body) halves.1

    -- its link doesn't end
    and_off : (a : Bool) → (a && false) ≡ false
    and_off true = refl
    and_off false = refl

    unturned : turned_away settings before (FromEditor e body) e ≡ false
    unturned = ap₂ (λ x y. x || y) (ap (λ p. nat_eq e e && ((is_new p && requests (codes "initialize") (message_of body)) && is_too_many (placed_for settings before e body (groups_of settings before)))) ran ∙ and_off (nat_eq e e))
        (ap (λ b. b && is_waiting (desk_of e before).phase) (running_goes_on before e (message_of body) forth.runs))

    stays : ends_link settings before (FromEditor e body) e ≡ false
    stays = ap₂ (λ a b. a || b) unturned (ap₂ (λ a b. (nat_eq e e && a) || b)
        (ap₂ (λ a b. a || b) (unended settings before e body (message_of body) forth.runs) forth.single)
        (ap (λ b. b && is_there (desk_of e before).phase) (running_goes_on before e (message_of body) forth.runs))
        ∙ ap (λ b. b || false) (and_off (nat_eq e e)))

    pays_now : Pays base
    pays_now = record {
      running = ap (λ (d : Desk). d.phase) (desk_more e before (heard (FromEditor e body)))
          ∙ ap (λ b. (if b then desk_hears (desk_of e before).phase (desk_of e before).initialize body (message_of body) else desk_of e before).phase) (same_number e)
          ∙ ap (λ p. (desk_hears p (desk_of e before).initialize body (message_of body)).phase) ran
          ∙ ap (λ b. if b then Down else Running) (unshut settings before e body (message_of body) forth.runs);
      idle = λ t. ap (λ (x : Asking). x.asker) (asking_more settings t before (heard (FromEditor e body)));
    }

    still_idle : (events : List Event) (out : Out) (t : ℕ) → (asking_of settings t events).asker ≡ None → (asking_of settings t (events ++ said out ∷ [])).asker ≡ None
    still_idle events out t idle = ap (λ (x : Asking). x.asker) (asking_more settings t events (said out)) ∙ (asker_did settings t events (asking_of settings t events) out ∙ idle)

    -- each out of the entry leaves it so
    did_pays : (events : List Event) (out : Out) → R events out → Pays events → Pays (events ++ said out ∷ [])
    did_pays events (ToEditor n text) why k = record { running = still_runs events n text e k.running; idle = λ t. still_idle events (ToEditor n text) t (k.idle t) }
    did_pays events (ToServer n text) why k = record { running = ap (λ (d : Desk). d.phase) (desk_more e events (said (ToServer n text))) ∙ k.running; idle = λ t. still_idle events (ToServer n text) t (k.idle t) }
    did_pays events (Spawn n g) why k = record { running = ap (λ (d : Desk). d.phase) (desk_more e events (said (Spawn n g))) ∙ k.running; idle = λ t. still_idle events (Spawn n g) t (k.idle t) }
    did_pays events (EndServer n) why k = record { running = ap (λ (d : Desk). d.phase) (desk_more e events (said (EndServer n))) ∙ k.running; idle = λ t. still_idle events (EndServer n) t (k.idle t) }
    did_pays events (CloseEditor n) why k = record {
      running = ap (λ (d : Desk). d.phase) (desk_more e events (said (CloseEditor n))) ∙ (ap (λ b. (if b then record { phase = phase_closed (desk_of e events).phase; initialize = (desk_of e events).initialize } else desk_of e events).phase) (away (nat_eq n e) refl) ∙ k.running);
      idle = λ t. still_idle events (CloseEditor n) t (k.idle t);
    }
      where
        away : (b : Bool) → nat_eq n e ≡ b → nat_eq n e ≡ false
        away true same = never (sym (subst (λ z. ends_link settings before (FromEditor e body) z ≡ true) (number_same n e same) why.0) ∙ stays)
        away false other = other

    pays_behind : (xs : List Out) → Reasons R base xs → Pays (behind base xs)
    pays_behind xs why = reasons_keep R Pays did_pays base xs why pays_now

    module _ (d : Debt) (q : IsDebt d) (earlier later : List Debt) (order : debts_of settings s e before ≡ earlier ++ d ∷ later) (events : List Event) (k : Pays events) where
      abbrev text : List ℕ
      text = with_id_text d.body (decimal (next_ask e events))

      paid : has_number e events ≡ true → IsPaid settings before (FromEditor e body) events e text
      paid room = record {
        start = s;
        text = body;
        from = refl;
        goes = goes;
        ready = ready_is (life_of s before).stage ready;
        running = k.running;
        idle = k.idle;
        debt = d;
        earlier = earlier;
        later = later;
        owed = order;
        id = q.id;
        params = q.params;
        wants = q.wants;
        asks = q.says;
        room = room;
        bytes = refl;
        says = request_with_id d.body (decimal (next_ask e events)) q.id (integer (decimal (next_ask e events))) d.method q.params q.says (decimal_law (next_ask e events) (ltb-true (next_ask e events) (2 ^ 64) room));
      }

      one_why : Because R events (ask d.body e)
      one_why = by_look (by_choose (λ room. by_send (pays (paid room))) (λ none. by_nothing))

      one_next : Pays (behind events (outs (ask d.body e) events))
      one_next = go (has_number e events)
        where
          go : (b : Bool) → Pays (behind events (outs (choose b (send (ToEditor e text)) nothing) events))
          go true = record { running = still_runs events e text e k.running; idle = λ t. still_idle events (ToEditor e text) t (k.idle t) }
          go false = subst Pays (sym (append-nil events)) k

    all_why : (earlier ds : List Debt) → debts_of settings s e before ≡ earlier ++ ds → AllByRecursion IsDebt ds → (events : List Event) → Pays events → Because R events (each (λ (d : Debt). ask d.body e) ds)
    all_why earlier [] order all events k = by_nothing
    all_why earlier (d ∷ ds) order all events k = by_then (one_why d all.0 earlier ds order events k)
        (all_why (earlier ++ d ∷ []) ds (order ∙ sym (append_assoc earlier (d ∷ []) ds)) all.1 (behind events (outs (ask d.body e) events)) (one_next d all.0 earlier ds order events k))

  module _ (meant : AllMeant before) (xs : List Out) (why : Reasons R base xs) where
    abbrev place : List Event
    place = behind base xs

    due_why : (s : ℕ) → Because R place (debts_at settings before e body (message_of body) s)
    due_why s = go (goes_to settings s before e body (message_of body)) refl
      where
        go : (b : Bool) → goes_to settings s before e body (message_of body) ≡ b → Because R place (each (λ (d : Debt). ask d.body e) (if goes_to settings s before e body (message_of body) then debts_of settings s e before else []))
        go true goes = subst (λ b. Because R place (each (λ (d : Debt). ask d.body e) (if b then debts_of settings s e before else []))) (sym goes)
            (all_why s goes [] (debts_of settings s e before) refl (debts_kept settings s e before meant) place (pays_behind s goes xs why))
        go false stops = subst (λ b. Because R place (each (λ (d : Debt). ask d.body e) (if b then debts_of settings s e before else []))) (sym stops) by_nothing

    at_group : (g : ℕ) → Because R place (on (start_of g before) nothing (debts_at settings before e body (message_of body)))
    at_group g = by_on (λ none. by_nothing) (λ s last. due_why s)

    pub debts_why : Because R place (debts_row settings before e body (message_of body))
    debts_why = by_on (λ none. by_nothing) (λ g home. at_group g)

  -- each of them asks the editor something
  module _ (meant : AllMeant before) where
    one_question : (d : Debt) → IsDebt d → (events : List Event) → AllByRecursion (IsQuestion e) (outs (ask d.body e) events)
    one_question d q events = go (has_number e events) refl
      where
        go : (b : Bool) → has_number e events ≡ b → AllByRecursion (IsQuestion e) (outs (choose b (send (ToEditor e (with_id_text d.body (decimal (next_ask e events))))) nothing) events)
        go true room = ((refl, ap has_method (request_with_id d.body (decimal (next_ask e events)) q.id (integer (decimal (next_ask e events))) d.method q.params q.says (decimal_law (next_ask e events) (ltb-true (next_ask e events) (2 ^ 64) room)))), tt)
        go false full = tt

    all_questions : (ds : List Debt) → AllByRecursion IsDebt ds → (events : List Event) → AllByRecursion (IsQuestion e) (outs (each (λ (d : Debt). ask d.body e) ds) events)
    all_questions [] all events = tt
    all_questions (d ∷ ds) all events = all_join (IsQuestion e) (outs (ask d.body e) events) (outs (each (λ (d : Debt). ask d.body e) ds) (behind events (outs (ask d.body e) events))) (one_question d all.0 events) (all_questions ds all.1 (behind events (outs (ask d.body e) events)))

    pub debts_questions : (events : List Event) → AllByRecursion (IsQuestion e) (outs (debts_row settings before e body (message_of body)) events)
    debts_questions events = at_home (home_of settings e before)
      where
        due : (s : ℕ) (b : Bool) → AllByRecursion (IsQuestion e) (outs (each (λ (d : Debt). ask d.body e) (if b then debts_of settings s e before else [])) events)
        due s true = all_questions (debts_of settings s e before) (debts_kept settings s e before meant) events
        due s false = tt

        at_start : (o : Option ℕ) → AllByRecursion (IsQuestion e) (outs (on o nothing (debts_at settings before e body (message_of body))) events)
        at_start None = tt
        at_start (Some s) = due s (goes_to settings s before e body (message_of body))

        at_home : (o : Option ℕ) → AllByRecursion (IsQuestion e) (outs (on o nothing (λ g. on (start_of g before) nothing (debts_at settings before e body (message_of body)))) events)
        at_home None = tt
        at_home (Some g) = at_start (start_of g before)
