-- A message by which an editor that is served runs (L2): what it leaves as it was, and what it may begin.
use Rattle.std.proofs.Common.{◌≡◌, ℕ, ◌^◌, Bool, true, false, not, ◌&&◌, ◌||◌, List, [], ◌∷◌, ◌++◌, map, bytes_eq, codes, decimal, nat_eq, if◌then◌else◌, refl, ap, ap₂, sym, subst, ◌∙◌, append-nil, append_assoc, ◌<◌, arith, ltb-true}
use Rattle.std.specs.Prelude.{Option, Some, None}
use Rattle.std.specs.List.{AllByRecursion}
use Rattle.std.specs.Option.{option_and_then}
use Rattle.json_text.specs.Json.{Json}
use Rattle.mux_history.specs.declared.cause.Cause.TheVariants.{FromEditor}
use Rattle.mux_history.specs.declared.out.Out.{Out}
use Rattle.mux_history.specs.declared.out.Out.TheVariants.{ToEditor, ToServer, Spawn, CloseEditor, EndServer}
use Rattle.rpc_message.specs.Message.{Id, Message, error, id_bytes, integer, message_of, not_json, not_message, notification, request, result}
use Rattle.rpc_message.specs.Texts.{with_id_text}
use Rattle.rpc_message.proofs.Decimals.{decimal_law}
use Rattle.rpc_message.proofs.Ids.{request_with_id}
use Rattle.event_model.specs.declared.phase.Phase.{Phase}
use Rattle.event_model.specs.declared.phase.Phase.TheVariants.{Absent, New, Waiting, Answered, Running, Down, Closed, Gone}
use Rattle.event_model.specs.Does.{Alike, Does, Done}
use Rattle.event_model.specs.Event.{Event, behind, did, heard, notifies, requests, said, with_cause}
use Rattle.event_model.specs.Phases.{desk_hears, desk_of, is_begun, is_malformed, is_multiplexer_request, is_served, is_there, makes_running}
use Rattle.event_model.specs.Row.{Row, after, choose, each, nothing, outs, send}
use Rattle.event_model.specs.Settings.{Settings}
use Rattle.event_model.specs.Spawns.{start_of}
use Rattle.event_model.specs.Stages.{Life, is_ready, life_behind, life_of}
use Rattle.event_model.proofs.Frames.{never, one_more}
use Rattle.event_model.proofs.Turns.{alike, alike_then, behind_more}
use Rattle.mux_turns.specs.mux_facts.proofs.Lists.{all_join}
use Rattle.mux_turns.specs.group_facts.specs.Why.{IsQuestion, has_method}
use Rattle.mux_turns.specs.group_facts.proofs.Asks.{asking_more}
use Rattle.mux_turns.specs.group_facts.proofs.Begun.{start_took}
use Rattle.mux_turns.specs.group_facts.proofs.Homes.{took_home}
use Rattle.mux_turns.specs.group_facts.proofs.Still.{unshut}
use Rattle.group_rows.specs.AskRows.{ask, run_at, run_row}
use Rattle.group_rows.specs.Asks.{Ask, Asking, Parked, asked_next, asking_next, asking_of, has_number, is_own_work, is_patient, is_under, next_ask, parked_of, serves, unparked, waits_under}
use Rattle.group_rows.specs.Created.{Token}
use Rattle.group_rows.specs.CreatedRows.{create_text, offer, offer_all}
use Rattle.group_rows.specs.Live.{live_of, register_text}
use Rattle.group_rows.proofs.CreatedTexts.{create_says}
use Rattle.group_rows.specs.ListRows.{show_all}
use Rattle.group_rows.specs.LiveRows.{call, has_some, register_any, restore}
use Rattle.group_rows.specs.Waiting.{worker_behind, worker_of}
use Rattle.group_words.specs.Houses.{home_of, is_doubled, stops}
use Rattle.group_rows.specs.registrations.specs.declared.registration.Registration.{Registration}
use Rattle.mux_tables.specs.Stands.{IsWorking, MayWait, start_for}
use Rattle.mux_tables.proofs.Registering.{live_more}
use Rattle.mux_turns.specs.Calls.{IsCall}
use Rattle.mux_turns.proofs.Rows.{ended_start, is_first, is_second, some_start}
use Rattle.mux_editors.specs.Handing.{IsUnused}
use Rattle.mux_editors.specs.Running.{may_begin, running_at, running_row}
use Rattle.mux_editors.proofs.Serving.{not_new, stands_so}

and_off : (a : Bool) → (a && false) ≡ false
and_off true = refl
and_off false = refl

-- One part of a turn that is done, and another

pub then_rest : {K : Type 0} {Holds : K → List Event → Type 0} {p q : Row} {base : List Event} {u v : K} {ys zs : List Out} → Done Holds p base [] u ys → Does Holds q base u ys v zs → Done Holds (after p q) base [] v zs
then_rest {K} {Holds} {p} {q} {base} {u} {v} {ys} {zs} one d =
    let two = d.done one.stands in
    let first = outs p (behind base []) in
    record {
      outs = two.outs ∙ (ap (λ ws. ws ++ outs q (behind base ys)) one.outs ∙ ap (λ es. first ++ outs q es) (ap (behind base) one.outs ∙ behind_more base [] first));
      stands = two.stands;
    }

-- What it says, and where the editor stands behind it

module _ (m : Message) (runs : makes_running m ≡ true) where
  pub unasked : is_multiplexer_request m ≡ false
  unasked = go (is_malformed m) (notifies (codes "exit") m) (requests (codes "shutdown") m) (is_multiplexer_request m) runs
    where
      go : (a b c d : Bool) → not (a || (b || (c || d))) ≡ true → d ≡ false
      go true b c d k = never (sym k)
      go false true c d k = never (sym k)
      go false false true d k = never (sym k)
      go false false false true k = never (sym k)
      go false false false false k = refl

  pub no_shutdown : requests (codes "shutdown") m ≡ false
  no_shutdown = go (is_malformed m) (notifies (codes "exit") m) (requests (codes "shutdown") m) (is_multiplexer_request m) runs
    where
      go : (a b c d : Bool) → not (a || (b || (c || d))) ≡ true → c ≡ false
      go true b c d k = never (sym k)
      go false true c d k = never (sym k)
      go false false true d k = never (sym k)
      go false false false d k = refl

  unstopped : requests (codes "lspmux/stop") m ≡ false
  unstopped = go (requests (codes "lspmux/open") m) (requests (codes "lspmux/status") m) (requests (codes "lspmux/stop") m) unasked
    where
      go : (a b c : Bool) → (a || (b || c)) ≡ false → c ≡ false
      go true b c k = never k
      go false true c k = never k
      go false false c k = k

  pub runs_stops : (before : List Event) (e : ℕ) → stops before e m ≡ false
  runs_stops before e = ap (λ b. b && (is_there (desk_of e before).phase && not (is_begun (desk_of e before).phase && is_doubled before e m))) unstopped

  pub runs_from : (shut : requests (codes "shutdown") m ≡ false) (body : List ℕ) (q : Phase) (i : List ℕ) → is_served q ≡ true → (desk_hears q i body m).phase ≡ Running
  runs_from shut body Answered i h = ap (λ b. if b then Down else if makes_running m then Running else Answered) shut ∙ ap (λ b. if b then Running else Answered) runs
  runs_from shut body Running i h = ap (λ b. if b then Down else Running) shut
  runs_from shut body Absent i h = never (sym h)
  runs_from shut body New i h = never (sym h)
  runs_from shut body Waiting i h = never (sym h)
  runs_from shut body Down i h = never (sym h)
  runs_from shut body Closed i h = never (sym h)
  runs_from shut body Gone i h = never (sym h)

module _ (settings : Settings) (before : List Event) (e : ℕ) (body : List ℕ) (served : is_served (desk_of e before).phase ≡ true) (runs : makes_running (message_of body) ≡ true) where
  abbrev base : List Event
  base = with_cause before (FromEditor e body)

  shut : requests (codes "shutdown") (message_of body) ≡ false
  shut = unshut settings before e body (message_of body) runs

  pub runs_now : (desk_of e base).phase ≡ Running
  runs_now = stands_so before e body (message_of body) Running refl (λ q i h. runs_from (message_of body) runs shut body q i h) served

  -- its message is at work at each start
  pub works_now : (s : ℕ) → IsWorking settings e s base
  works_now s = record {
    asker = ap (λ (x : Asking). x.asker) (asking_more settings s before (heard (FromEditor e body)));
    runs = ap (λ (x : Asking). x.runs) (asking_more settings s before (heard (FromEditor e body)));
  }

  -- Its row, by what stands behind its message

  home_now : home_of settings e base ≡ home_of settings e before
  home_now = took_home settings before e (not_new (desk_of e before).phase served) (FromEditor e body) (ap (λ b. nat_eq e e && b) shut ∙ and_off (nat_eq e e))

  start_now : (g : ℕ) → start_of g base ≡ start_of g before
  start_now g = start_took g before (FromEditor e body)

  pub stage_now : (s : ℕ) → is_ready (life_of s base).stage ≡ is_ready (life_of s before).stage
  stage_now s = ap (λ (l : Life). is_ready l.stage) (one_more (life_behind s) _ _ before (heard (FromEditor e body)) refl)

  parked_now : (s : ℕ) → parked_of settings s base ≡ parked_of settings s before
  parked_now s = ap (λ (x : Asking). x.parked) (asking_more settings s before (heard (FromEditor e body)))

  live_now : (s : ℕ) → live_of settings s base ≡ live_of settings s before
  live_now s = live_more settings s before (heard (FromEditor e body))

  module _ (g s : ℕ) (home : home_of settings e base ≡ Some g) (start : start_of g base ≡ Some s) where
    row_at : run_row settings before e ≡ run_at settings before e s
    row_at = some_start (home_of settings e before) (λ g. start_of g before) nothing (λ g. run_at settings before e) g s (sym home_now ∙ home) (sym (start_now g) ∙ start)

    pub ready_run : is_ready (life_of s base).stage ≡ true → Alike (run_row settings before e) (after (restore settings base e s) (after (offer_all settings before e s) (after (show_all settings before e s) (each (λ (p : Parked). ask p.body e) (parked_of settings s base)))))
    ready_run h = alike_then (is_first row_at (sym (stage_now s) ∙ h)) (alike (ap₂ (λ rs ps. after (register_any rs e) (after (offer_all settings before e s) (after (show_all settings before e s) (each (λ (p : Parked). ask p.body e) ps)))) (sym (live_now s)) (sym (parked_now s))))

  pub unready_run : ((s : ℕ) → start_for settings e base ≡ Some s → is_ready (life_of s base).stage ≡ false) → Alike (run_row settings before e) nothing
  unready_run h = ended_start (home_of settings e before) (λ g. start_of g before) nothing (λ g. run_at settings before e)
      (λ g s at. is_second refl (sym (stage_now s) ∙ h s (same_start (home_of settings e base) home_now ∙ at)))
    where
      at_home : (o : Option ℕ) → option_and_then (λ g. start_of g base) o ≡ option_and_then (λ g. start_of g before) o
      at_home None = refl
      at_home (Some g) = start_now g

      same_start : (o : Option ℕ) → o ≡ home_of settings e before → option_and_then (λ g. start_of g base) o ≡ option_and_then (λ g. start_of g before) (home_of settings e before)
      same_start o is = ap (option_and_then (λ g. start_of g base)) is ∙ at_home (home_of settings e before)

  -- where it begins to run, and where it runs already
  begins_at : (p : Phase) → may_begin p ≡ true → Alike (running_at settings before e (message_of body) p) (run_row settings before e)
  begins_at Answered h = is_first refl runs
  begins_at Absent h = never (sym h)
  begins_at New h = never (sym h)
  begins_at Waiting h = never (sym h)
  begins_at Running h = never (sym h)
  begins_at Down h = never (sym h)
  begins_at Closed h = never (sym h)
  begins_at Gone h = never (sym h)

  runs_at : (p : Phase) → may_begin p ≡ false → Alike (running_at settings before e (message_of body) p) nothing
  runs_at Answered h = never h
  runs_at Absent h = alike refl
  runs_at New h = alike refl
  runs_at Waiting h = alike refl
  runs_at Running h = alike refl
  runs_at Down h = alike refl
  runs_at Closed h = alike refl
  runs_at Gone h = alike refl

  pub begins_row : may_begin (desk_of e before).phase ≡ true → Alike (running_row settings before e (message_of body)) (run_row settings before e)
  begins_row h = begins_at (desk_of e before).phase h

  pub runs_row : may_begin (desk_of e before).phase ≡ false → Alike (running_row settings before e (message_of body)) nothing
  runs_row h = runs_at (desk_of e before).phase h

-- by a message that makes none run nothing is asked
pub aside_row : (settings : Settings) (before : List Event) (e : ℕ) (m : Message) → makes_running m ≡ false → Alike (running_row settings before e m) nothing
aside_row settings before e m h = go (desk_of e before).phase
  where
    go : (p : Phase) → Alike (running_at settings before e m p) nothing
    go Answered = is_second refl h
    go Absent = alike refl
    go New = alike refl
    go Waiting = alike refl
    go Running = alike refl
    go Down = alike refl
    go Closed = alike refl
    go Gone = alike refl

-- `shutdown` and `exit` make none run
pub shutdown_stays : (m : Message) (method : List ℕ) (id : Id) (params : Option Json) → m ≡ request id method params → bytes_eq (codes "shutdown") method ≡ true → makes_running m ≡ false
shutdown_stays m method id params says h = ap makes_running says ∙ ap (λ b. not (b || is_multiplexer_request (request id method params))) h

pub exit_stays : (m : Message) → notifies (codes "exit") m ≡ true → makes_running m ≡ false
exit_stays m h = go (is_malformed m) (notifies (codes "exit") m) h
  where
    go : (a b : Bool) → b ≡ true → not (a || (b || (requests (codes "shutdown") m || is_multiplexer_request m))) ≡ false
    go true b k = refl
    go false true k = refl
    go false false k = never (sym k)

-- What is asked

asks_one : (e : ℕ) (p : Parked) → MayWait p → (events : List Event) → AllByRecursion (IsQuestion e) (outs (ask p.body e) events)
asks_one e p w events = go (has_number e events) refl
  where
    go : (b : Bool) → has_number e events ≡ b → AllByRecursion (IsQuestion e) (outs (choose b (send (ToEditor e (with_id_text p.body (decimal (next_ask e events))))) nothing) events)
    go true room = let n = next_ask e events in ((refl, ap has_method (request_with_id p.body (decimal n) p.id (integer (decimal n)) w.0 w.1 w.2 (decimal_law n (ltb-true n (2 ^ 64) room)))), tt)
    go false full = tt

pub asks_all : (e : ℕ) (ps : List Parked) → AllByRecursion MayWait ps → (events : List Event) → AllByRecursion (IsQuestion e) (outs (each (λ (p : Parked). ask p.body e) ps) events)
asks_all e [] all events = tt
asks_all e (p ∷ ps) all events = let xs = outs (ask p.body e) events in all_join (IsQuestion e) xs (outs (each (λ (p : Parked). ask p.body e) ps) (behind events xs)) (asks_one e p all.0 events) (asks_all e ps all.1 (behind events xs))

-- and what is told before
pub restores_all : (e : ℕ) (rs : List Registration) → IsCall (register_text rs) → (events : List Event) → AllByRecursion (IsQuestion e) (outs (register_any rs e) events)
restores_all e rs k events = any (has_some rs)
  where
    one : (b : Bool) → has_number e events ≡ b → AllByRecursion (IsQuestion e) (outs (choose b (send (ToEditor e (register_text rs (next_ask e events)))) nothing) events)
    one true room = ((refl, ap has_method (k.says (next_ask e events) (ltb-true (next_ask e events) (2 ^ 64) room)).1), tt)
    one false full = tt

    any : (b : Bool) → AllByRecursion (IsQuestion e) (outs (choose b (call (register_text rs) e) nothing) events)
    any true = one (has_number e events) refl
    any false = tt

pub offers_all : (s e : ℕ) (us : List Token) (events : List Event) → AllByRecursion (IsQuestion e) (outs (each (offer s e) us) events)
offers_all s e [] events = tt
offers_all s e (u ∷ us) events = let xs = outs (offer s e u) events in all_join (IsQuestion e) xs (outs (each (offer s e) us) (behind events xs)) (one (has_number e events) refl) (offers_all s e us (behind events xs))
  where
    one : (b : Bool) → has_number e events ≡ b → AllByRecursion (IsQuestion e) (outs (choose b (send (ToEditor e (create_text s u.number (next_ask e events)))) nothing) events)
    one true room =
        let low : next_ask e events < 2 ^ 64 = ltb-true (next_ask e events) (2 ^ 64) room in
        ((refl, ap has_method (create_says s u.number (next_ask e events) (omega (arith, low)))), tt)
    one false full = tt

-- Behind what is asked

-- the message stays at work
pub still_works : (events : List Event) (xs : List Out) → worker_of (behind events xs) ≡ worker_of events
still_works events [] = ap worker_of (append-nil events)
still_works events (x ∷ xs) = ap worker_of (sym (append_assoc events (said x ∷ []) (map said xs))) ∙ (still_works (events ++ said x ∷ []) xs ∙ (one_more worker_behind None _ events (said x) refl ∙ told x (worker_of events)))
  where
    told : (x : Out) (w : Option ℕ) → worker_behind w (said x) ≡ w
    told (ToEditor n body) w = refl
    told (ToServer s body) w = refl
    told (Spawn s g) w = refl
    told (CloseEditor n) w = refl
    told (EndServer s) w = refl

-- nothing is open under an id at a start, whose request isn't at work: so it stays
module _ (settings : Settings) (s : ℕ) (id : Option Id) where
  record Rests (x : Asking) : Type 0 where
    asker : x.asker ≡ None
    unused : IsUnused id x

  first_unused : (o : Option Id) (e n : ℕ) (bytes : List ℕ) (p : Parked) → waits_under o p ≡ false → is_under o (record { id = p.id; bytes = bytes; editor = e; number = n }) ≡ false
  first_unused None e n bytes p h = refl
  first_unused (Some i) e n bytes p h = h

  unparked_rests : (e n : ℕ) (x : Asking) (ps : List Parked) → x.parked ≡ ps → Rests x → Rests (unparked e n x ps)
  unparked_rests e n x [] is h = h
  unparked_rests e n x (p ∷ ps) is h =
      let waits = subst (AllByRecursion (λ (q : Parked). waits_under id q ≡ false)) is h.unused.1 in
      record { asker = h.asker; unused = (all_join (λ (a : Ask). is_under id a ≡ false) x.asks (record { id = p.id; bytes = id_bytes p.body; editor = e; number = n } ∷ []) h.unused.0 (first_unused id e n (id_bytes p.body) p waits.0, tt), waits.1) }

  asked_rests : (resumes : Bool) (e n : ℕ) (x : Asking) → Rests x → Rests (asked_next resumes e n x None)
  asked_rests true e n x h = unparked_rests e n x x.parked refl h
  asked_rests false e n x h = h

  one_rests : (events : List Event) (n : ℕ) (body : List ℕ) → has_method (message_of body) ≡ true → Rests (asking_of settings s events) → Rests (asking_of settings s (events ++ said (ToEditor n body) ∷ []))
  one_rests events n body q h = subst Rests (sym (asking_more settings s events (said (ToEditor n body)))) (told (message_of body) q)
    where
      told : (m : Message) → has_method m ≡ true → Rests (asking_next settings s events (asking_of settings s events) (did (ToEditor n body) m))
      told (request i method ps) k =
          let x = asking_of settings s events in
          let resumes = is_own_work n x.runs && (is_patient method && serves settings events s n) in
          subst (λ o. Rests (asked_next resumes n (next_ask n events) x o)) (sym h.asker) (asked_rests resumes n (next_ask n events) x h)
      told (notification method ps) k = h
      told (result i r) k = never (sym k)
      told (error i r) k = never (sym k)
      told not_json k = never (sym k)
      told not_message k = never (sym k)

  all_rest : (e : ℕ) (events : List Event) (xs : List Out) → AllByRecursion (IsQuestion e) xs → Rests (asking_of settings s events) → Rests (asking_of settings s (behind events xs))
  all_rest e events [] q h = subst (λ es. Rests (asking_of settings s es)) (sym (append-nil events)) h
  all_rest e events (ToEditor n body ∷ xs) q h = subst (λ es. Rests (asking_of settings s es)) (append_assoc events (said (ToEditor n body) ∷ []) (map said xs)) (all_rest e (events ++ said (ToEditor n body) ∷ []) xs q.1 (one_rests events n body q.0.1 h))
  all_rest e events (ToServer n body ∷ xs) q h = absurd q.0
  all_rest e events (Spawn n g ∷ xs) q h = absurd q.0
  all_rest e events (CloseEditor n ∷ xs) q h = absurd q.0
  all_rest e events (EndServer n ∷ xs) q h = absurd q.0

  pub still_unused : (e : ℕ) (events : List Event) (xs : List Out) → AllByRecursion (IsQuestion e) xs → (asking_of settings s events).asker ≡ None → IsUnused id (asking_of settings s events) → IsUnused id (asking_of settings s (behind events xs))
  still_unused e events xs q asker unused = let k = all_rest e events xs q (record { asker = asker; unused = unused }) in k.unused
