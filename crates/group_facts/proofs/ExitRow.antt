-- X1 to X3: why each out is sent where a start ends that gives its group no new one.
use Rattle.std.proofs.Common.{◌≡◌, ℕ, zero, suc, ◌+◌, ◌^◌, ◌<◌, ◌≤◌, Bool, true, false, not, ◌&&◌, List, [], ◌∷◌, ◌++◌, codes, cond, decimal, filter, length, map, nat_eq, if◌then◌else◌, Option, Some, None, refl, sym, ◌∙◌, ap, ap₂, subst, append_assoc, append-nil, ltb-true, arith}
use Rattle.std.specs.Prelude.{slice_get}
use Rattle.std.specs.List.{AllByRecursion, range_with_len}
use Rattle.std.specs.Option.{option_map_or}
use Rattle.std.proofs.lemmas.Bool.{and_parts}
use Rattle.std.proofs.lemmas.List.Sums.{fold-append}
use Rattle.json_text.specs.Json.{Json}
use Rattle.mux_history.specs.declared.cause.Cause.{Cause}
use Rattle.mux_history.specs.declared.cause.Cause.TheVariants.{Joined}
use Rattle.mux_history.specs.declared.out.Out.{Out}
use Rattle.mux_history.specs.declared.out.Out.TheVariants.{ToEditor, ToServer, Spawn, CloseEditor, EndServer}
use Rattle.rpc_message.specs.Message.{Id, Message, error, id_bytes, integer, message_of, not_json, not_message, notification, request, result}
use Rattle.rpc_message.specs.Texts.{error_text, error_tree, request_failed}
use Rattle.rpc_message.specs.ValueTexts.{IsIdText}
use Rattle.event_model.specs.declared.phase.Phase.{Phase}
use Rattle.event_model.specs.declared.phase.Phase.TheVariants.{Absent, New, Waiting, Answered, Running, Down, Closed, Gone}
use Rattle.event_model.specs.declared.stage.Stage.TheVariants.{Ready}
use Rattle.event_model.specs.Event.{Event, behind, did, heard, said, with_cause}
use Rattle.event_model.specs.Phases.{Desk, desk_of, editors_of, is_begun, is_running, is_there, is_waiting, phase_closed, phase_told}
use Rattle.event_model.specs.Requests.{answered_id, is_open, open_of, without}
use Rattle.event_model.specs.Row.{Row, choose, each, nothing, on, outs, send, ◌⨾◌}
use Rattle.event_model.specs.Settings.{Settings}
use Rattle.event_model.specs.Spawns.{group_of}
use Rattle.event_model.specs.Stages.{is_ready, life_of}
use Rattle.event_model.proofs.Frames.{never}
use Rattle.mux_facts.proofs.Asked.{hears_open}
use Rattle.mux_facts.proofs.Bodies.{refusal_says}
use Rattle.mux_facts.proofs.DocumentRow.{ready_is}
use Rattle.mux_facts.proofs.Folds.{desk_more, opens_more}
use Rattle.mux_facts.proofs.Lists.{all_filtered, all_of}
use Rattle.mux_facts.proofs.Reasons.{Because, by_choose, by_look, by_nothing, by_on, by_send, by_then, reasons_keep}
use Rattle.mux_facts.proofs.Rising.{by_rising}
use Rattle.mux_facts.proofs.Table.{desk_untold, waiting_is}
use Rattle.mux_facts.proofs.Waits.{Waits, late_not, waits_at}
use Rattle.mux_facts.proofs.Words.{number_same, same_number}
use Rattle.group_words.specs.declared.kept.Kept.{Kept}
use Rattle.group_words.specs.Houses.{groups_of, home_of, is_home}
use Rattle.group_words.specs.Rows.{spawn}
use Rattle.group_rows.specs.diagnostics_route.specs.declared.last_list.LastList.{LastList}
use Rattle.group_rows.specs.Asks.{Ask, Asking, asked_behind, asking_of, asks_of, has_number, is_with, members_in, next_ask, running_in}
use Rattle.group_rows.specs.Created.{Taking, Token, created_of, created_text, is_at}
use Rattle.group_rows.specs.ExitRows.{cancel_ask, cancel_take, comes_to_end, empty_list, ends_group, end_text, end_token, exit_in, lose_sent, lose_start, lost_row, starts_again, turn_out, unanswered_at}
use Rattle.group_rows.specs.Forwarded.{Forwarded, Forwarding, forwarding_of, is_of}
use Rattle.group_rows.specs.Leaves.{cancel_text}
use Rattle.group_rows.specs.Lists.{lists_of}
use Rattle.group_rows.specs.Live.{live_of, unregister_text}
use Rattle.group_rows.specs.LiveRows.{unregister_any}
use Rattle.group_rows.specs.StopRows.{lose_request}
use Rattle.group_rows.proofs.Cancels.{cancel_says}
use Rattle.group_rows.proofs.ExitTexts.{empty_says, end_says}
use Rattle.group_rows.proofs.ListsKept.{IsList, lists_kept}
use Rattle.group_rows.proofs.LiveTexts.{live_written, unregister_says}
use Rattle.group_rows.proofs.Stops.{range_below}
use Rattle.group_facts.specs.Facts.{AllForwarded, IsAlone, IsAsked, IsForwarded, IsTake, IsWaiting, OneRequest, asked_of, ends_with, is_early, is_put_out, turned_away, AllHeld}
use Rattle.group_facts.specs.Why.{IsLost, Losing, Why, calls, empties, ends, forgets, frees, of_ask, of_taking, winds_up, refuses, turns_away}
use Rattle.group_facts.proofs.Asks.{asked_of_more, asking_more}
use Rattle.group_facts.proofs.AskingRows.{still_runs, unregisters_all, work_told}
use Rattle.group_facts.proofs.ExitEntry.{Exit}
use Rattle.group_facts.proofs.ExitOuts.{Tells, asks_by, for_all, ready_by, registered_by, sent_by, start_by, takes_by, tokens_by}
use Rattle.group_facts.proofs.Facts.{Facts}
use Rattle.group_rows.proofs.Frames.{forwarding_more}
use Rattle.group_facts.proofs.Forwards.{zip_all}
use Rattle.group_facts.proofs.Housed.{longer_did, longer_took}
use Rattle.group_facts.proofs.Losses.{Differ, Apart2, desk_refused, differ_of, lost_says, lost_text, next_asker}
use Rattle.group_facts.proofs.PutOut.{outs_tested}
use Rattle.group_facts.proofs.Quits.{asked_while}
use Rattle.group_facts.proofs.Sent.{rising_filtered, rising_of}
use Rattle.group_facts.proofs.StopEntry.{begun_there}
use Rattle.group_facts.proofs.Held.{held_closed_all, held_told_all, part_why, there_told}
use Rattle.group_facts.proofs.HeldOn.{held_exit}
use Rattle.group_facts.proofs.HeldOuts.{part_by}
use Rattle.group_facts.proofs.StopWhy.{IsBody}

-- Phases

pub waiting_told : (phase : Phase) (initialize : List ℕ) (m : Message) → is_waiting (phase_told phase initialize m) ≡ true → is_waiting phase ≡ true
waiting_told Waiting initialize m h = refl
waiting_told Absent initialize m h = h
waiting_told New initialize m h = h
waiting_told Answered initialize m h = h
waiting_told Running initialize m h = h
waiting_told Down initialize m h = h
waiting_told Closed initialize m h = h
waiting_told Gone initialize m h = h

pub waiting_closed : (phase : Phase) → is_waiting (phase_closed phase) ≡ false
waiting_closed Gone = refl
waiting_closed other = refl

running_is : (phase : Phase) → is_running phase ≡ true → phase ≡ Running
running_is Running h = refl
running_is other h = never (sym h)

-- An out to one editor alone, or to others

abbrev IsOnly : ℕ → Out → Type 0
IsOnly e (ToEditor k text) = k ≡ e
IsOnly e (CloseEditor k) = k ≡ e
IsOnly e other = ⊥

abbrev IsOther : ℕ → Out → Type 0
IsOther e (ToEditor k text) = nat_eq k e ≡ false
IsOther e other = ⊥

module _ (settings : Settings) (before : List Event) (facts : Facts settings before) (cause : Cause) (s : ℕ) (exit : Exit settings before cause s) where
  abbrev now : List Event
  now = with_cause before cause

  abbrev R : List Event → Out → Type 0
  R events out = Why settings before cause events out

  abbrev fs : List Forwarded
  fs = (forwarding_of settings s before).open_requests

  -- What stands at each place, as long as editors are told alone

  record Place (events : List Event) : Type 0 where
    forwards : (t : ℕ) → (forwarding_of settings t events).open_requests ≡ (forwarding_of settings t now).open_requests
    idle : (t : ℕ) → (asking_of settings t events).asker ≡ None
    asked : (e n : ℕ) → is_open (integer (decimal n)) (asked_of e before) ≡ true → is_open (integer (decimal n)) (asked_of e events) ≡ true
    there : (e : ℕ) → is_there (desk_of e before).phase ≡ true → is_there (desk_of e events).phase ≡ true
    runs : (e : ℕ) → (desk_of e before).phase ≡ Running → (desk_of e events).phase ≡ Running

  place_now : Place now
  place_now = record {
    forwards = λ t. refl;
    idle = λ t. exit.idle t;
    asked = λ e n waits. ap (is_open (integer (decimal n))) (exit.asked e) ∙ waits;
    there = λ e there. ap (λ (d : Desk). is_there d.phase) (exit.desk e) ∙ there;
    runs = λ e runs. ap (λ (d : Desk). d.phase) (exit.desk e) ∙ runs;
  }

  place_told : (events : List Event) (k : ℕ) (text : List ℕ) → Place events → Place (events ++ said (ToEditor k text) ∷ [])
  place_told events k text p = record {
    forwards = λ t. ap (λ (x : Forwarding). x.open_requests) (forwarding_more settings t events (said (ToEditor k text))) ∙ p.forwards t;
    idle = λ t. ap (λ (x : Asking). x.asker) (asking_more settings t events (said (ToEditor k text))) ∙ ((work_told settings t events (asking_of settings t events) k text (message_of text)).0 ∙ p.idle t);
    asked = λ e n waits. ap (is_open (integer (decimal n))) (asked_of_more e events (said (ToEditor k text))) ∙ hears_open (nat_eq k e) (message_of text) (asked_of e events) (integer (decimal n)) (p.asked e n waits);
    there = λ e there. there_told e k events text (p.there e there);
    runs = λ e runs. still_runs events k text e (p.runs e runs);
  }

  place_body : (events : List Event) (out : Out) → IsBody out → Place events → Place (events ++ said out ∷ [])
  place_body events (ToEditor k text) is p = place_told events k text p
  place_body events (ToServer n text) is p = absurd is
  place_body events (Spawn n g) is p = absurd is
  place_body events (CloseEditor k) is p = absurd is
  place_body events (EndServer n) is p = absurd is

  place_behind : (events : List Event) (row : Row) → Because (λ places out. IsBody out) events row → Place events → Place (behind events (outs row events))
  place_behind events row bodies p = reasons_keep (λ places out. IsBody out) Place place_body events (outs row events) bodies.why p

  -- X1

  record Asks_of (e : ℕ) (events : List Event) : Type 0 where
    place : Place events
    member : is_there (desk_of e before).phase ≡ true
    askers : AllByRecursion (IsForwarded events) (filter (is_of e) fs)

  own : (e : ℕ) → AllByRecursion (λ (f : Forwarded). f.editor ≡ e) (filter (is_of e) fs)
  own e = go fs
    where
      go : (gs : List Forwarded) → AllByRecursion (λ (f : Forwarded). f.editor ≡ e) (filter (is_of e) gs)
      go [] = tt
      go (g ∷ gs) = by (is_of e g) refl (go gs)
        where
          by : (b : Bool) → is_of e g ≡ b → AllByRecursion (λ (f : Forwarded). f.editor ≡ e) (filter (is_of e) gs) → AllByRecursion (λ (f : Forwarded). f.editor ≡ e) (cond b (g ∷ filter (is_of e) gs) (filter (is_of e) gs))
          by true is rest = (number_same g.editor e is, rest)
          by false is rest = rest

  abbrev Alone : Forwarded → Type 0
  Alone f = (t : ℕ) → AllByRecursion (OneRequest s f t) (forwarding_of settings t before).open_requests

  alones : (e : ℕ) → AllByRecursion Alone (filter (is_of e) fs)
  alones e = all_filtered Alone Alone (is_of e) (λ f is k. k) fs ((facts.steady).apart s)

  differ : (e : ℕ) → Differ (filter (is_of e) fs)
  differ e = differ_of s e 2 (forwarding_of settings s before).next (filter (is_of e) fs) (rising_filtered 2 (forwarding_of settings s before).next (is_of e) fs (rising_of settings s before)) (own e)
      (all_filtered Alone (λ (f : Forwarded). AllByRecursion (OneRequest s f s) (filter (is_of e) fs)) (is_of e) (λ f is k. all_filtered (OneRequest s f s) (OneRequest s f s) (is_of e) (λ g other o. o) fs (k s)) fs ((facts.steady).apart s))

  -- behind the end none of its requests is open at a start
  alone_now : (f : Forwarded) (id : Id) → IsIdText id f.id → Alone f → IsAlone settings now f.editor id
  alone_now f id text alone t = subst (AllByRecursion (λ (g : Forwarded). g.editor ≡ f.editor → IsIdText id g.id → ⊥)) (sym (exit.forwards t)) (go (nat_eq s t) refl)
    where
      go : (b : Bool) → nat_eq s t ≡ b → AllByRecursion (λ (g : Forwarded). g.editor ≡ f.editor → IsIdText id g.id → ⊥) (if b then [] else (forwarding_of settings t before).open_requests)
      go true same = tt
      go false other = all_of (OneRequest s f t) (λ (g : Forwarded). g.editor ≡ f.editor → IsIdText id g.id → ⊥) (λ g one editor mine. never (sym (ap (λ z. nat_eq s z) (one id editor text mine).0 ∙ same_number s) ∙ other)) (forwarding_of settings t before).open_requests (alone t)

  alone_at : (events : List Event) → Place events → (f : Forwarded) (id : Id) → IsIdText id f.id → Alone f → IsAlone settings events f.editor id
  alone_at events p f id text alone t = subst (AllByRecursion (λ (g : Forwarded). g.editor ≡ f.editor → IsIdText id g.id → ⊥)) (sym (p.forwards t)) (alone_now f id text alone t)

  one_why : (e : ℕ) (events : List Event) (f : Forwarded) → Place events → is_there (desk_of e before).phase ≡ true → f.editor ≡ e → Alone f → IsForwarded events f → Because R events (lose_request f)
  one_why e events f p member mine alone k = by_send (refuses (record {
    id = k.id;
    x = error_tree request_failed;
    there = p.there f.editor (ap (λ z. is_there (desk_of z before).phase) mine ∙ member);
    waits = k.waits;
    others = λ at. absurd (late_not (desk_of f.editor events).phase k.late at);
    alone = alone_at events p f k.id k.text alone;
    says = lost_says events f k;
  }))

  all_lost : (e : ℕ) (gs : List Forwarded) (events : List Event) → Place events → is_there (desk_of e before).phase ≡ true → AllByRecursion (λ (f : Forwarded). f.editor ≡ e) gs → AllByRecursion Alone gs → Differ gs → AllByRecursion (IsForwarded events) gs → Because R events (each lose_request gs)
  all_lost e [] events p member editors alone apart askers = by_nothing
  all_lost e (f ∷ gs) events p member editors alone apart askers = by_then (one_why e events f p member editors.0 alone.0 askers.0)
      (all_lost e gs (events ++ said (ToEditor f.editor (lost_text f)) ∷ []) (place_told events f.editor (lost_text f) p) member editors.1 alone.1 apart.1
      (zip_all (λ (g : Forwarded). g.editor ≡ e) (λ (g : Forwarded). Apart2 f g × IsForwarded events g) (IsForwarded (events ++ said (ToEditor f.editor (lost_text f)) ∷ [])) (λ g its both. next_asker e events f askers.0 editors.0 g its both.0 both.1) gs editors.1
      (zip_all (Apart2 f) (IsForwarded events) (λ (g : Forwarded). Apart2 f g × IsForwarded events g) (λ g a b. (a, b)) gs apart.0 askers.1)))

  sent_why : (e : ℕ) (events : List Event) → Asks_of e events → Because R events (lose_sent settings before s e)
  sent_why e events h = all_lost e (filter (is_of e) fs) events h.place h.member (own e) (alones e) (differ e) h.askers

  only_requests : (e : ℕ) (gs : List Forwarded) (events : List Event) → AllByRecursion (λ (f : Forwarded). f.editor ≡ e) gs → Because (λ places out. IsBody out × IsOnly e out) events (each lose_request gs)
  only_requests e [] events editors = by_nothing
  only_requests e (f ∷ gs) events editors = by_then (by_send (tt, editors.0)) (only_requests e gs (events ++ said (ToEditor f.editor (lost_text f)) ∷ []) editors.1)

  desk_other : (e k : ℕ) (events : List Event) (text : List ℕ) → nat_eq k e ≡ false → desk_of e (events ++ said (ToEditor k text) ∷ []) ≡ desk_of e events
  desk_other e k events text other = desk_more e events (said (ToEditor k text)) ∙ desk_untold e k text (desk_of e events) other

  opens_other : (e k : ℕ) (events : List Event) (text : List ℕ) → nat_eq k e ≡ false → open_of e (events ++ said (ToEditor k text) ∷ []) ≡ open_of e events
  opens_other e k events text other = opens_more e events (said (ToEditor k text)) ∙ ap (λ b. cond b (without (answered_id (message_of text)) (open_of e events)) (open_of e events)) other

  asks_told : (e k : ℕ) (events : List Event) (text : List ℕ) → nat_eq k e ≡ false → Asks_of e events → Asks_of e (events ++ said (ToEditor k text) ∷ [])
  asks_told e k events text other h = record {
    place = place_told events k text h.place;
    member = h.member;
    askers = zip_all (λ (f : Forwarded). f.editor ≡ e) (IsForwarded events) (IsForwarded (events ++ said (ToEditor k text) ∷ [])) (λ f its j. record {
      id = j.id;
      text = j.text;
      late = ap (λ (d : Desk). is_early d.phase) (desk_other f.editor k events text (ap (nat_eq k) its ∙ other)) ∙ j.late;
      waits = ap (is_open j.id) (opens_other f.editor k events text (ap (nat_eq k) its ∙ other)) ∙ j.waits;
    }) (filter (is_of e) fs) (own e) h.askers;
  }

  sent_still : (k e : ℕ) (events : List Event) → nat_eq k e ≡ false → Asks_of e events → Asks_of e (behind events (outs (lose_sent settings before s k) events))
  sent_still k e events other h = reasons_keep (λ places out. IsBody out × IsOnly k out) (Asks_of e) step events (outs (lose_sent settings before s k) events) (only_requests k (filter (is_of k) fs) events (own k)).why h
    where
      step : (places : List Event) (out : Out) → IsBody out × IsOnly k out → Asks_of e places → Asks_of e (places ++ said out ∷ [])
      step places (ToEditor i text) is j = asks_told e i places text (ap (λ z. nat_eq z e) is.1 ∙ other) j
      step places (ToServer i text) is j = absurd is.0
      step places (Spawn i g) is j = absurd is.0
      step places (CloseEditor i) is j = absurd is.0
      step places (EndServer i) is j = absurd is.0

  -- while an editor is there what its starts have to answer is open at the editors
  asked_here : (e : ℕ) → is_there (desk_of e before).phase ≡ true → AllForwarded settings before
  asked_here e there = asked_while settings before (facts.steady).asked facts.quit e there

  asker_now : (f : Forwarded) → IsForwarded before f → IsForwarded now f
  asker_now f k = record {
    id = k.id;
    text = k.text;
    late = ap (λ (d : Desk). is_early d.phase) (exit.desk f.editor) ∙ k.late;
    waits = ap (is_open k.id) (exit.opens f.editor) ∙ k.waits;
  }

  -- What asks an editor nothing leaves the number of its next request

  abbrev Calm : ℕ → Out → Type 0
  Calm e out = (n : ℕ) → asked_behind e n (said out) ≡ n

  asked_off : (e k : ℕ) (text : List ℕ) (m : Message) (n : ℕ) → nat_eq k e ≡ false → asked_behind e n (did (ToEditor k text) m) ≡ n
  asked_off e k text (request id method params) n other = ap (λ b. if b then n + 1 else n) other
  asked_off e k text (notification method params) n other = refl
  asked_off e k text (result id r) n other = refl
  asked_off e k text (error id x) n other = refl
  asked_off e k text not_json n other = refl
  asked_off e k text not_message n other = refl

  abbrev Unasked : ℕ → List Event → Type 0
  Unasked e events = next_ask e events ≡ next_ask e before

  unasked_behind : (e : ℕ) (events : List Event) (row : Row) → Because (λ places out. Calm e out) events row → Unasked e events → Unasked e (behind events (outs row events))
  unasked_behind e events row calm h = reasons_keep (λ places out. Calm e out) (Unasked e) (λ places out still k. fold-append (asked_behind e) 1 places (said out ∷ []) ∙ (still (next_ask e places) ∙ k)) events (outs row events) calm.why h

  requests_calm : (e : ℕ) (gs : List Forwarded) → AllByRecursion (IsForwarded before) gs → (events : List Event) → Because (λ places out. Calm e out) events (each lose_request gs)
  requests_calm e [] askers events = by_nothing
  requests_calm e (f ∷ gs) askers events = by_then (by_send (λ n. ap (λ m. asked_behind e n (did (ToEditor f.editor (lost_text f)) m)) (lost_says before f askers.0))) (requests_calm e gs askers.1 (events ++ said (ToEditor f.editor (lost_text f)) ∷ []))

  sent_calm : AllForwarded settings before → (e : ℕ) (es : List ℕ) (events : List Event) → Because (λ places out. Calm e out) events (each (lose_sent settings before s) es)
  sent_calm askers e [] events = by_nothing
  sent_calm askers e (k ∷ es) events = by_then (requests_calm e (filter (is_of k) fs) (all_filtered (IsForwarded before) (IsForwarded before) (is_of k) (λ f is j. j) fs (askers s)) events) (sent_calm askers e es (behind events (outs (lose_sent settings before s k) events)))

  unasked_now : (e : ℕ) → Unasked e now
  unasked_now e = fold-append (asked_behind e) 1 before (heard cause ∷ []) ∙ heard_asks cause (next_ask e before)
    where
      heard_asks : (c : Cause) (n : ℕ) → asked_behind e n (heard c) ≡ n
      heard_asks (Joined k) n = refl
      heard_asks other n = refl

  module _ (g : ℕ) (home : group_of s before ≡ Some g) where
    abbrev is_member : ℕ → Bool
    is_member e = is_begun (desk_of e before).phase && is_home g (home_of settings e before)

    member_there : (e : ℕ) → is_member e ≡ true → is_there (desk_of e before).phase ≡ true
    member_there e t = begun_there (desk_of e before).phase (and_parts (is_begun (desk_of e before).phase) (is_home g (home_of settings e before)) t).0

    asks_now : (e : ℕ) → is_member e ≡ true → Asks_of e now
    asks_now e t = let there = member_there e t in record { place = place_now; member = there; askers = all_filtered (IsForwarded before) (IsForwarded now) (is_of e) (λ f is k. asker_now f k) fs (asked_here e there s) }

    errors_why : Because R now (each (lose_sent settings before s) (members_in settings g before))
    errors_why = subst (λ ns. Because R now (each (lose_sent settings before s) (filter is_member ns))) (sym (range_below (editors_of before)))
        (by_rising (lose_sent settings before s) Asks_of sent_why sent_still now is_member asks_now (editors_of before))

    abbrev errors : List Out
    errors = outs (each (lose_sent settings before s) (members_in settings g before)) now

    abbrev told : List Event
    told = behind now errors

    -- X2

    module _ (ready : (life_of s before).stage ≡ Ready) (e : ℕ) (ran : (desk_of e before).phase ≡ Running) (at_home : home_of settings e before ≡ Some g) where
      lost_by : IsLost settings before cause e s
      lost_by = record { from = exit.is; ready = ready; ran = ran; group = g; kept = home; home = at_home }

      losing : (events : List Event) (body : List ℕ) → Place events → Losing settings before events e s body → (method : List ℕ) (params : Json) → message_of body ≡ notification method (Some params) → R events (ToEditor e body)
      losing events body p told method params says = winds_up (record { start = s; lost = lost_by; told = told; running = p.runs e ran; method = method; params = params; says = says })

      -- tokens
      tokens_why : (earlier ts : List Token) → (created_of settings s before).tokens ≡ earlier ++ ts → (events : List Event) → Place events → Because R events (each (end_token s e (created_of settings s before)) ts)
      tokens_why earlier [] order events p = by_nothing
      tokens_why earlier (t ∷ ts) order events p = by_then
          (by_choose (λ begun. by_send (losing events _ p (ends t earlier ts order begun refl) (codes "$/progress") _ (end_says s t.number))) (λ not_yet. by_nothing))
          (tokens_why (earlier ++ t ∷ []) ts (order ∙ sym (append_assoc earlier (t ∷ []) ts)) (behind events (outs (end_token s e (created_of settings s before) t) events))
          (place_behind events (end_token s e (created_of settings s before) t) (by_choose (λ begun. by_send tt) (λ not_yet. by_nothing)) p))

      -- what it was asked
      abbrev Open : ℕ → Type 0
      Open n = (n < 2 ^ 64) × (is_open (integer (decimal n)) (asked_of e before) ≡ true)

      take_open : (c : Taking) → unanswered_at e c ≡ true → IsTake before c → Open c.number
      take_open c is k =
          let q = and_parts (not c.accepted) (is_at e c) is in
          (k.small, subst (λ z. is_open (integer (decimal c.number)) (asked_of z before) ≡ true) (number_same c.editor e q.1) (k.waits (off c.accepted q.0)))
        where
          off : (b : Bool) → not b ≡ true → b ≡ false
          off true h = never (sym h)
          off false h = refl

      ask_open : (a : Ask) → is_with e a ≡ true → IsAsked s before a → Open a.number
      ask_open a is k = (k.small, subst (λ z. is_open (integer (decimal a.number)) (asked_of z before) ≡ true) (number_same a.editor e is) k.unanswered)

      takes_why : (earlier cs : List Taking) → filter (unanswered_at e) (created_of settings s before).takings ≡ earlier ++ cs → AllByRecursion (λ (c : Taking). Open c.number) cs → (events : List Event) → Place events → Because R events (each (cancel_take e) cs)
      takes_why earlier [] order all events p = by_nothing
      takes_why earlier (c ∷ cs) order all events p = by_then
          (by_send (losing events _ p (frees c.number (of_taking c earlier cs order refl) (all.0).0 (p.asked e c.number (all.0).1) refl) (codes "$/cancelRequest") _ (cancel_says c.number (all.0).0)))
          (takes_why (earlier ++ c ∷ []) cs (order ∙ sym (append_assoc earlier (c ∷ []) cs)) all.1 (behind events (outs (cancel_take e c) events)) (place_behind events (cancel_take e c) (by_send tt) p))

      asks_why : (earlier cs : List Ask) → filter (is_with e) (asks_of settings s before) ≡ earlier ++ cs → AllByRecursion (λ (a : Ask). Open a.number) cs → (events : List Event) → Place events → Because R events (each (cancel_ask e) cs)
      asks_why earlier [] order all events p = by_nothing
      asks_why earlier (a ∷ cs) order all events p = by_then
          (by_send (losing events _ p (frees a.number (of_ask a earlier cs order refl) (all.0).0 (p.asked e a.number (all.0).1) refl) (codes "$/cancelRequest") _ (cancel_says a.number (all.0).0)))
          (asks_why (earlier ++ a ∷ []) cs (order ∙ sym (append_assoc earlier (a ∷ []) cs)) all.1 (behind events (outs (cancel_ask e a) events)) (place_behind events (cancel_ask e a) (by_send tt) p))

      -- what is registered
      module _ (events : List Event) (p : Place events) (first : Unasked e events) (room : has_number e events ≡ true) where
        forget_says : (params : Json) × (message_of (unregister_text (live_of settings s before) (next_ask e events)) ≡ request (integer (decimal (next_ask e events))) (codes "client/unregisterCapability") (Some params))
        forget_says = unregister_says (live_of settings s before) (live_written settings s before) (next_ask e events) (let small : next_ask e events < 2 ^ 64 = ltb-true (next_ask e events) (2 ^ 64) room in omega (arith, small))

        forget_why : R events (ToEditor e (unregister_text (live_of settings s before) (next_ask e events)))
        forget_why = calls (record {
          start = s;
          told = forgets lost_by first refl;
          ready = ready;
          running = p.runs e ran;
          idle = p.idle;
          room = room;
          method = codes "client/unregisterCapability";
          params = Some forget_says.0;
          named = unregisters_all;
          says = forget_says.1;
        })

      registered_why : (events : List Event) → Place events → Unasked e events → Because R events (unregister_any (live_of settings s before) e)
      registered_why events p first = by_choose (λ some. by_look (by_choose (λ room. by_send (forget_why events p first room)) (λ full. by_nothing))) (λ none. by_nothing)

      -- lists
      empties_why : (earlier ls : List LastList) → lists_of s before ≡ earlier ++ ls → AllByRecursion IsList ls → (events : List Event) → Place events → Because R events (each (empty_list before e) ls)
      empties_why earlier [] order all events p = by_nothing
      empties_why earlier (l ∷ ls) order all events p = by_then
          (by_choose (λ full. by_send (losing events _ p (empties l earlier ls order full (all.0).spelt refl) (codes "textDocument/publishDiagnostics") _ (empty_says l.uri (all.0).spelt))) (λ none. by_nothing))
          (empties_why (earlier ++ l ∷ []) ls (order ∙ sym (append_assoc earlier (l ∷ []) ls)) all.1 (behind events (outs (empty_list before e l) events))
          (place_behind events (empty_list before e l) (by_choose (λ full. by_send tt) (λ none. by_nothing)) p))

      -- nothing of it but what takes back what is registered asks
      tokens_calm : (ts : List Token) (events : List Event) → Because (λ places out. Calm e out) events (each (end_token s e (created_of settings s before)) ts)
      tokens_calm [] events = by_nothing
      tokens_calm (t ∷ ts) events = by_then (by_choose (λ begun. by_send (λ n. ap (λ m. asked_behind e n (did (ToEditor e (end_text (created_text s t.number))) m)) (end_says s t.number))) (λ not_yet. by_nothing))
          (tokens_calm ts (behind events (outs (end_token s e (created_of settings s before) t) events)))

      takes_calm : (cs : List Taking) → AllByRecursion (λ (c : Taking). Open c.number) cs → (events : List Event) → Because (λ places out. Calm e out) events (each (cancel_take e) cs)
      takes_calm [] all events = by_nothing
      takes_calm (c ∷ cs) all events = by_then (by_send (λ n. ap (λ m. asked_behind e n (did (ToEditor e (cancel_text c.number)) m)) (cancel_says c.number (all.0).0))) (takes_calm cs all.1 (behind events (outs (cancel_take e c) events)))

      asks_calm : (cs : List Ask) → AllByRecursion (λ (a : Ask). Open a.number) cs → (events : List Event) → Because (λ places out. Calm e out) events (each (cancel_ask e) cs)
      asks_calm [] all events = by_nothing
      asks_calm (a ∷ cs) all events = by_then (by_send (λ n. ap (λ m. asked_behind e n (did (ToEditor e (cancel_text a.number)) m)) (cancel_says a.number (all.0).0))) (asks_calm cs all.1 (behind events (outs (cancel_ask e a) events)))

      all_takes : AllByRecursion (λ (c : Taking). Open c.number) (filter (unanswered_at e) (created_of settings s before).takings)
      all_takes = all_filtered (IsTake before) (λ (c : Taking). Open c.number) (unanswered_at e) (λ c is k. take_open c is k) (created_of settings s before).takings ((facts.steady).takes s)

      all_asks : AllByRecursion (λ (a : Ask). Open a.number) (filter (is_with e) (asks_of settings s before))
      all_asks = all_filtered (IsAsked s before) (λ (a : Ask). Open a.number) (is_with e) (λ a is k. ask_open a is k) (asks_of settings s before) ((facts.steady).asks s).asked

      start_why : (events : List Event) → Place events → Unasked e events → Because R events (lose_start settings before s e)
      start_why events p unasked =
          let calm : Unasked e (behind (behind (behind events tokens) takes) asks) = unasked_behind e (behind (behind events tokens) takes) (each (cancel_ask e) (filter (is_with e) (asks_of settings s before))) (asks_calm (filter (is_with e) (asks_of settings s before)) all_asks (behind (behind events tokens) takes))
          (unasked_behind e (behind events tokens) (each (cancel_take e) (filter (unanswered_at e) (created_of settings s before).takings)) (takes_calm (filter (unanswered_at e) (created_of settings s before).takings) all_takes (behind events tokens))
          (unasked_behind e events (each (end_token s e (created_of settings s before)) (created_of settings s before).tokens) (tokens_calm (created_of settings s before).tokens events) unasked)) in
          let first : Place (behind events tokens) = reasons_keep (λ places out. IsBody out) Place place_body events tokens (tokens_by settings (λ places out. IsBody out) e (λ places body. tt) s (created_of settings s before) (created_of settings s before).tokens events).why p in
          let second : Place (behind (behind events tokens) takes) = reasons_keep (λ places out. IsBody out) Place place_body (behind events tokens) takes (takes_by settings (λ places out. IsBody out) e (λ places body. tt) s (filter (unanswered_at e) (created_of settings s before).takings) (behind events tokens)).why first in
          let third : Place (behind (behind (behind events tokens) takes) asks) = reasons_keep (λ places out. IsBody out) Place place_body (behind (behind events tokens) takes) asks (asks_by settings (λ places out. IsBody out) e (λ places body. tt) s (filter (is_with e) (asks_of settings s before)) (behind (behind events tokens) takes)).why second in
          by_then (tokens_why [] (created_of settings s before).tokens refl events p)
          (by_then (takes_why [] (filter (unanswered_at e) (created_of settings s before).takings) refl all_takes (behind events tokens) first)
          (by_then (asks_why [] (filter (is_with e) (asks_of settings s before)) refl all_asks (behind (behind events tokens) takes) second)
          (by_then (registered_why (behind (behind (behind events tokens) takes) asks) third calm)
          (empties_why [] (lists_of s before) refl (lists_kept s before (facts.base).meant) _ (place_behind (behind (behind (behind events tokens) takes) asks) (unregister_any (live_of settings s before) e) (registered_by settings (λ places out. IsBody out) e (λ places body. tt) s (live_of settings s before) (behind (behind (behind events tokens) takes) asks)) third)))))
        where
          tokens : List Out
          tokens = outs (each (end_token s e (created_of settings s before)) (created_of settings s before).tokens) events

          takes : List Out
          takes = outs (each (cancel_take e) (filter (unanswered_at e) (created_of settings s before).takings)) (behind events tokens)

          asks : List Out
          asks = outs (each (cancel_ask e) (filter (is_with e) (asks_of settings s before))) (behind (behind events tokens) takes)

    abbrev runs_here : ℕ → Bool
    runs_here e = is_running (desk_of e before).phase && is_home g (home_of settings e before)

    record Runs_at (e : ℕ) (events : List Event) : Type 0 where
      place : Place events
      unasked : Unasked e events
      ran : (desk_of e before).phase ≡ Running
      at_home : home_of settings e before ≡ Some g

    home_is : (o : Option ℕ) → is_home g o ≡ true → o ≡ Some g
    home_is None h = never (sym h)
    home_is (Some i) h = ap (λ n. Some n) (number_same i g h)

    runs_by : (e : ℕ) → runs_here e ≡ true → (events : List Event) → Place events → Unasked e events → Runs_at e events
    runs_by e t events p unasked = let q = and_parts (is_running (desk_of e before).phase) (is_home g (home_of settings e before)) t in record { place = p; unasked = unasked; ran = running_is (desk_of e before).phase q.0; at_home = home_is (home_of settings e before) q.1 }

    runs_still : (k e : ℕ) (events : List Event) → nat_eq k e ≡ false → Runs_at e events → Runs_at e (behind events (outs (lose_start settings before s k) events))
    runs_still k e events other h = record { place = place_behind events (lose_start settings before s k) (start_by settings (λ places out. IsBody out) k (λ places body. tt) s before events) h.place; unasked = unasked_behind e events (lose_start settings before s k) (start_by settings (λ places out. Calm e out) k (λ places body n. asked_off e k body (message_of body) n other) s before events) h.unasked; ran = h.ran; at_home = h.at_home }

    abbrev losing_row : Row
    losing_row = choose (is_ready (life_of s before).stage) (each (lose_start settings before s) (running_in settings g before)) nothing

    bodies_sent : (es : List ℕ) → AllByRecursion (λ e. AllByRecursion (λ (f : Forwarded). Tells settings (λ places out. IsBody out) f.editor) (filter (is_of e) fs)) es
    bodies_sent es = for_all (λ e. AllByRecursion (λ (f : Forwarded). Tells settings (λ places out. IsBody out) f.editor) (filter (is_of e) fs)) (λ e. for_all (λ (f : Forwarded). Tells settings (λ places out. IsBody out) f.editor) (λ f places body. tt) (filter (is_of e) fs)) es

    errors_bodies : Because (λ places out. IsBody out) now (each (lose_sent settings before s) (members_in settings g before))
    errors_bodies = sent_by settings (λ places out. IsBody out) before s (members_in settings g before) (bodies_sent (members_in settings g before)) now

    place_errors : Place told
    place_errors = place_behind now (each (lose_sent settings before s) (members_in settings g before)) errors_bodies place_now

    ran_there : (e : ℕ) → runs_here e ≡ true → is_there (desk_of e before).phase ≡ true
    ran_there e t = ap is_there (running_is (desk_of e before).phase (and_parts (is_running (desk_of e before).phase) (is_home g (home_of settings e before)) t).0)

    unasked_errors : (e : ℕ) → is_there (desk_of e before).phase ≡ true → Unasked e told
    unasked_errors e there = unasked_behind e now (each (lose_sent settings before s) (members_in settings g before)) (sent_calm (asked_here e there) e (members_in settings g before) now) (unasked_now e)

    losses_why : Because R told losing_row
    losses_why = by_choose (λ is. all_told (ready_is (life_of s before).stage is)) (λ off. by_nothing)
      where
        all_told : (life_of s before).stage ≡ Ready → Because R told (each (lose_start settings before s) (running_in settings g before))
        all_told ready = subst (λ ns. Because R told (each (lose_start settings before s) (filter runs_here ns))) (sym (range_below (editors_of before)))
            (by_rising (lose_start settings before s) Runs_at (λ e events h. start_why ready e h.ran h.at_home events h.place h.unasked) runs_still told runs_here (λ e t. runs_by e t told place_errors (unasked_errors e (ran_there e t))) (editors_of before))

    abbrev losses : List Out
    losses = outs losing_row told

    abbrev lost : List Event
    lost = behind told losses

    losses_bodies : Because (λ places out. IsBody out) told losing_row
    losses_bodies = ready_by settings (λ places out. IsBody out) before s (running_in settings g before) (for_all (Tells settings (λ places out. IsBody out)) (λ e places body. tt) (running_in settings g before)) told

    place_lost : Place lost
    place_lost = place_behind told losing_row losses_bodies place_errors

    -- An editor that waits is told nothing before X3

    module _ (e : ℕ) (waits : (desk_of e before).phase ≡ Waiting) where
      away : (f : Forwarded) → IsForwarded before f → (b : Bool) → nat_eq f.editor e ≡ b → b ≡ false
      away f k true same = absurd (late_not (desk_of f.editor before).phase k.late (ap (λ z. (desk_of z before).phase) (number_same f.editor e same) ∙ waits))
      away f k false other = refl

      others_sent : AllForwarded settings before → (es : List ℕ) → AllByRecursion (λ k. AllByRecursion (λ (f : Forwarded). Tells settings (λ places out. IsOther e out) f.editor) (filter (is_of k) fs)) es
      others_sent askers es = for_all (λ k. AllByRecursion (λ (f : Forwarded). Tells settings (λ places out. IsOther e out) f.editor) (filter (is_of k) fs))
          (λ k. all_filtered (IsForwarded before) (λ (f : Forwarded). Tells settings (λ places out. IsOther e out) f.editor) (is_of k) (λ f is j places body. away f j (nat_eq f.editor e) refl) fs (askers s)) es

      record Stood (events : List Event) : Type 0 where
        desk : desk_of e events ≡ desk_of e before
        opens : open_of e events ≡ open_of e before

      stood_told : (events : List Event) (out : Out) → IsOther e out → Stood events → Stood (events ++ said out ∷ [])
      stood_told events (ToEditor k text) other h = record { desk = desk_other e k events text other ∙ h.desk; opens = opens_other e k events text other ∙ h.opens }
      stood_told events (ToServer n text) other h = absurd other
      stood_told events (Spawn n i) other h = absurd other
      stood_told events (CloseEditor k) other h = absurd other
      stood_told events (EndServer n) other h = absurd other

      stood_errors : AllForwarded settings before → Stood told
      stood_errors askers = reasons_keep (λ places out. IsOther e out) Stood stood_told now errors (sent_by settings (λ places out. IsOther e out) before s (members_in settings g before) (others_sent askers (members_in settings g before)) now).why
          (record { desk = exit.desk e; opens = exit.opens e })

      -- nor does it run
      not_run : (k : ℕ) → runs_here k ≡ true → (b : Bool) → nat_eq k e ≡ b → b ≡ false
      not_run k t true same = never (sym (and_parts (is_running (desk_of k before).phase) (is_home g (home_of settings k before)) t).0 ∙ (ap (λ z. is_running (desk_of z before).phase) (number_same k e same) ∙ ap is_running waits))
      not_run k t false other = refl

      others_run : AllByRecursion (Tells settings (λ places out. IsOther e out)) (running_in settings g before)
      others_run = all_filtered (λ k. Unit {0}) (Tells settings (λ places out. IsOther e out)) runs_here (λ k t u places body. not_run k t (nat_eq k e) refl) (range_with_len 0 (editors_of before)) (for_all (λ k. Unit {0}) (λ k. tt) (range_with_len 0 (editors_of before)))

      stood_lost : AllForwarded settings before → Stood lost
      stood_lost askers = reasons_keep (λ places out. IsOther e out) Stood stood_told told losses (ready_by settings (λ places out. IsOther e out) before s (running_in settings g before) others_run told).why (stood_errors askers)

    -- X3

    record IsTurned (e : ℕ) (events : List Event) : Type 0 where
      id : Id
      waiting : IsWaiting events e id
      turned : turned_away settings before cause e ≡ true

    record IsLeaving (e : ℕ) (events : List Event) : Type 0 where
      out : is_put_out settings before cause e ≡ true
      there : is_there (desk_of e events).phase ≡ true
      held : AllHeld settings events
      turned : is_waiting (desk_of e events).phase ≡ true → IsTurned e events

    abbrev first_text : ℕ → List Event → List ℕ
    first_text e events = error_text (id_bytes (desk_of e events).initialize) request_failed

    first_says : (e : ℕ) (events : List Event) (w : IsTurned e events) → message_of (first_text e events) ≡ error (Some w.id) (error_tree request_failed)
    first_says e events w = refusal_says (desk_of e events).initialize w.id (codes "initialize") (w.waiting).params request_failed (w.waiting).asks

    leaving_why : (e : ℕ) (events : List Event) → IsLeaving e events → Because R events (turn_out settings g e)
    leaving_why e events h = by_then (by_look (by_choose (λ waits. let w : IsTurned e events = h.turned waits in by_send (turns_away (record { id = w.id; x = error_tree request_failed; waiting = w.waiting; turned = w.turned; says = first_says e events w }))) (λ late. by_nothing)))
        (part_why settings before cause g e (behind events (either (is_waiting (desk_of e events).phase))) (record { ends = exit.ends e ∙ h.out; there = there_still (is_waiting (desk_of e events).phase) refl; held = held_still (is_waiting (desk_of e events).phase) }))
      where
        either : Bool → List Out
        either b = outs (choose b (send (ToEditor e (first_text e events))) nothing) events

        held_still : (b : Bool) → AllHeld settings (behind events (either b))
        held_still true = held_told_all settings events e (first_text e events) h.held
        held_still false = subst (AllHeld settings) (sym (append-nil events)) h.held

        there_still : (b : Bool) → is_waiting (desk_of e events).phase ≡ b → is_there (desk_of e (behind events (either b))).phase ≡ true
        there_still true waits = let w : IsTurned e events = h.turned waits in ap (λ (d : Desk). is_there d.phase) (desk_refused e events (first_text e events) (Some w.id) (error_tree request_failed) (first_says e events w)) ∙ h.there
        there_still false late = ap (λ z. is_there (desk_of e z).phase) (append-nil events) ∙ h.there

    -- another one's leave changes nothing of it
    leaving_did : (k e : ℕ) → nat_eq k e ≡ false → (events : List Event) (out : Out) → IsOnly k out → IsLeaving e events → IsLeaving e (events ++ said out ∷ [])
    leaving_did k e other events (ToEditor i text) is h = leaving_same e events (events ++ said (ToEditor i text) ∷ []) (desk_other e i events text (ap (λ z. nat_eq z e) is ∙ other)) (opens_other e i events text (ap (λ z. nat_eq z e) is ∙ other)) (held_told_all settings events i text h.held) h
      where
        leaving_same : (e : ℕ) (x y : List Event) → desk_of e y ≡ desk_of e x → open_of e y ≡ open_of e x → AllHeld settings y → IsLeaving e x → IsLeaving e y
        leaving_same e x y desk opens held h = record {
          out = h.out;
          held = held;
          there = ap (λ (d : Desk). is_there d.phase) desk ∙ h.there;
          turned = λ waits. let w : IsTurned e x = h.turned (sym (ap (λ (d : Desk). is_waiting d.phase) desk) ∙ waits) in record {
            id = w.id;
            waiting = record { params = (w.waiting).params; phase = ap (λ (d : Desk). d.phase) desk ∙ (w.waiting).phase; asks = ap (λ (d : Desk). message_of d.initialize) desk ∙ (w.waiting).asks; waits = ap (is_open w.id) opens ∙ (w.waiting).waits };
            turned = w.turned;
          };
        }
    leaving_did k e other events (CloseEditor i) is h = leaving_closed (ap (λ z. nat_eq z e) is ∙ other)
      where
        later : List Event
        later = events ++ said (CloseEditor i) ∷ []

        leaving_closed : nat_eq i e ≡ false → IsLeaving e later
        leaving_closed off =
            let desk : desk_of e later ≡ desk_of e events = desk_more e events (said (CloseEditor i)) ∙ ap (λ b. if b then record { phase = phase_closed (desk_of e events).phase; initialize = (desk_of e events).initialize } else desk_of e events) off in
            let opens : open_of e later ≡ open_of e events = opens_more e events (said (CloseEditor i)) in
            record {
              out = h.out;
              held = held_closed_all settings events i h.held;
              there = ap (λ (d : Desk). is_there d.phase) desk ∙ h.there;
              turned = λ waits. let w : IsTurned e events = h.turned (sym (ap (λ (d : Desk). is_waiting d.phase) desk) ∙ waits) in record {
                id = w.id;
                waiting = record { params = (w.waiting).params; phase = ap (λ (d : Desk). d.phase) desk ∙ (w.waiting).phase; asks = ap (λ (d : Desk). message_of d.initialize) desk ∙ (w.waiting).asks; waits = ap (is_open w.id) opens ∙ (w.waiting).waits };
                turned = w.turned;
              };
            }
    leaving_did k e other events (ToServer n text) is h = absurd is
    leaving_did k e other events (Spawn n i) is h = absurd is
    leaving_did k e other events (EndServer n) is h = absurd is

    leaving_still : (k e : ℕ) (events : List Event) → nat_eq k e ≡ false → IsLeaving e events → IsLeaving e (behind events (outs (turn_out settings g k) events))
    leaving_still k e events other h = reasons_keep (λ places out. IsOnly k out) (IsLeaving e) (leaving_did k e other) events (outs (turn_out settings g k) events) only.why h
      where
        only : Because (λ places out. IsOnly k out) events (turn_out settings g k)
        only = by_then (by_look (by_choose (λ waits. by_send refl) (λ late. by_nothing))) (part_by settings (λ places out. IsOnly k out) g k (λ places body. refl) (λ places. refl) _)

    -- the editors of a group that ends
    module _ (over : ends_group settings before s ≡ true) where
      put_out : (e : ℕ) → is_member e ≡ true → (ends_with settings before s e && is_begun (desk_of e before).phase) ≡ true
      put_out e t = let q = and_parts (is_begun (desk_of e before).phase) (is_home g (home_of settings e before)) t in ap₂ (λ a b. a && b) (ap₂ (λ a b. a && b) over (ap (λ o. option_map_or (λ i. is_home i (home_of settings e before)) o false) home ∙ q.1)) q.0

      turned_out : (e : ℕ) → is_member e ≡ true → (desk_of e before).phase ≡ Waiting → turned_away settings before cause e ≡ true
      turned_out e t waits = exit.turned e ∙ ap₂ (λ a b. a && b) (and_parts (ends_with settings before s e) (is_begun (desk_of e before).phase) (put_out e t)).0 (ap is_waiting waits)

      was_waiting : (e : ℕ) → is_waiting (desk_of e lost).phase ≡ true → (desk_of e before).phase ≡ Waiting
      was_waiting e h = waiting_is (desk_of e before).phase (sym (ap (λ (d : Desk). is_waiting d.phase) (exit.desk e)) ∙ outs_tested is_waiting waiting_told waiting_closed e now errors (outs_tested is_waiting waiting_told waiting_closed e told losses h))

      -- what waits is held by then
      body_held : (places : List Event) (out : Out) → IsBody out → AllHeld settings places → AllHeld settings (places ++ said out ∷ [])
      body_held places (ToEditor n body) is h = held_told_all settings places n body h
      body_held places (ToServer n body) is h = absurd is
      body_held places (Spawn n i) is h = absurd is
      body_held places (CloseEditor n) is h = absurd is
      body_held places (EndServer n) is h = absurd is

      held_lost : AllHeld settings lost
      held_lost = reasons_keep (λ places out. IsBody out) (AllHeld settings) body_held told losses losses_bodies.why (reasons_keep (λ places out. IsBody out) (AllHeld settings) body_held now errors errors_bodies.why (held_exit settings before cause s exit.is (facts.steady).held))

      to_leave : (e : ℕ) → is_member e ≡ true → IsLeaving e lost
      to_leave e t = record {
        out = exit.out e ∙ put_out e t;
        there = place_lost.there e (member_there e t);
        held = held_lost;
        turned = λ waits.
            let was : (desk_of e before).phase ≡ Waiting = was_waiting e waits in
            let w : Waits (desk_of e before).initialize (open_of e before) = waits_at before e was facts.waiting in
            let h : Stood e was lost = stood_lost e was (asked_here e (member_there e t)) in
            record {
              id = w.id;
              waiting = record { params = w.params; phase = ap (λ (d : Desk). d.phase) h.desk ∙ was; asks = ap (λ (d : Desk). message_of d.initialize) h.desk ∙ w.asks; waits = ap (is_open w.id) h.opens ∙ w.waits };
              turned = turned_out e t was;
            };
      }

      leaves_why : Because R lost (each (turn_out settings g) (members_in settings g before))
      leaves_why = subst (λ ns. Because R lost (each (turn_out settings g) (filter is_member ns))) (sym (range_below (editors_of before)))
          (by_rising (turn_out settings g) IsLeaving leaving_why leaving_still lost is_member to_leave (editors_of before))

    -- The row

    module _ (x : Kept) (found : slice_get (groups_of settings before) g ≡ Some x) where
      found_below : (i : ℕ) (xs : List Kept) → slice_get xs i ≡ Some x → i < length xs
      found_below i [] h = absurd (cc)
      found_below zero (y ∷ ys) h = omega arith
      found_below (suc i) (y ∷ ys) h = let k : i < length ys = found_below i ys h in omega (arith, k)

      longer_behind : (events : List Event) (xs : List Out) → length (groups_of settings events) ≤ length (groups_of settings (behind events xs))
      longer_behind events [] = subst (λ z. length (groups_of settings events) ≤ length (groups_of settings z)) (sym (append-nil events)) (omega arith)
      longer_behind events (out ∷ outs) = subst (λ z. length (groups_of settings events) ≤ length (groups_of settings z)) (append_assoc events (said out ∷ []) (map said outs))
          (let one = longer_did settings events out in let rest = longer_behind (events ++ said out ∷ []) outs in omega (arith, one, rest))

      -- the group is kept
      inside : g < length (groups_of settings lost)
      inside = let a = longer_took settings before cause in let b = longer_behind now errors in let c = longer_behind told losses in let below : g < length (groups_of settings before) = found_below g (groups_of settings before) found in omega (arith, a, b, c, below)

      over_here : x.live ≡ true → starts_again settings before g x ≡ false → ends_group settings before s ≡ true
      over_here live last = ap (λ o. option_map_or (λ i. option_map_or (comes_to_end settings before i) (slice_get (groups_of settings before) i) false) o false) home
          ∙ (ap (λ o. option_map_or (comes_to_end settings before g) o false) found ∙ ap₂ (λ a b. a && not b) live last)

      alive_why : x.live ≡ true → Because R now (each (lose_sent settings before s) (members_in settings g before) ⨾ (losing_row ⨾ choose (starts_again settings before g x) (spawn g) (each (turn_out settings g) (members_in settings g before))))
      alive_why live = by_then errors_why (by_then losses_why (by_choose (λ again. by_look (by_send (refl, inside))) (λ last. leaves_why (over_here live last))))

      kept_why : Because R now (exit_in settings before s g x)
      kept_why = by_choose (λ live. alive_why live) (λ over. by_nothing)

  group_why : (g : ℕ) → group_of s before ≡ Some g → Because R now (on (slice_get (groups_of settings before) g) nothing (exit_in settings before s g))
  group_why g home = by_on (λ none. by_nothing) (λ x found. kept_why g home x found)

  pub lost_why : Because R now (lost_row settings before s)
  lost_why = by_on (λ none. by_nothing) (λ g home. group_why g home)
