-- What a start asks of editors: behind every event its asks are open, under ids that differ.
use Rattle.std.proofs.Common.{◌≡◌, ℕ, ◌^◌, Bool, true, false, not, cond, ◌&&◌, ◌||◌, List, [], ◌∷◌, ◌++◌, filter, nat_eq, codes, decimal, append-nil, if◌then◌else◌, Option, Some, None, refl, sym, ◌∙◌, ap, subst, ltb-true}
use Rattle.std.specs.List.{AllByRecursion, list_any}
use Rattle.std.specs.Option.{option_and_then, option_map_or}
use Rattle.std.proofs.lemmas.Bool.{and_parts}
use Rattle.std.proofs.lemmas.List.Sums.{fold-append}
use Rattle.mux_history.specs.declared.cause.Cause.{Cause}
use Rattle.mux_history.specs.declared.cause.Cause.TheVariants.{Joined, FromEditor, EditorGone, Started, StartFailed, FromServer, ServerGone, Drained, Tick}
use Rattle.mux_history.specs.declared.out.Out.TheVariants.{ToEditor, ToServer, Spawn, CloseEditor, EndServer}
use Rattle.json_text.specs.Json.{Json}
use Rattle.rpc_message.specs.Message.{Message, request, notification, result, error, not_json, not_message, Id, id_bytes, integer, message_of, same_id, text}
use Rattle.rpc_message.proofs.Ids.{request_id_bytes}
use Rattle.event_model.specs.Event.{Event, did, heard, said, with_cause}
use Rattle.event_model.specs.Requests.{answered_id, is_open, with_request, without}
use Rattle.event_model.specs.Settings.{Settings}
use Rattle.event_model.specs.Spawns.{start_of}
use Rattle.event_model.specs.Stages.{is_ready, life_of}
use Rattle.event_model.proofs.Frames.{never}
use Rattle.mux_facts.specs.Allowed.{is_response}
use Rattle.mux_facts.proofs.Asked.{hears_open}
use Rattle.mux_facts.proofs.Lists.{all_filtered, all_join, all_of}
use Rattle.mux_facts.proofs.Words.{id_same, number_same, open_last, same_id_itself, same_number, still_open}
use Rattle.group_words.specs.Houses.{home_of}
use Rattle.group_words.proofs.Frames.{past_more}
use Rattle.group_rows.specs.Asks.{Ask, Asker, Asking, Parked, asked_next, asker_of, asking_next, asking_of, asks_of, has_running, idle_asking, is_own_work, is_patient, is_seated, is_single, is_taken, is_under, may_wait, next_ask, no_asking, parked_of, parks, put, serves, unparked, waits_under}
use Rattle.group_rows.specs.Forwarded.{names}
use Rattle.group_rows.specs.Live.{changes_live}
use Rattle.lsp_method.specs.Class.{class_of}
use Rattle.lsp_method.specs.declared.variants.Class.{Class}
use Rattle.lsp_method.specs.declared.variants.Class.TheVariants.{Create, Register, Unregister}
use Rattle.lsp_method.specs.declared.variants.Origin.TheVariants.{Server}
use Rattle.group_facts.specs.Facts.{AllApart, AllDiffer, AreAsks, Asks, IsAsked, IsParked, asked_by, asked_of, editor_behind, server_behind}
use Rattle.group_rows.specs.Created.{names_create}
use Rattle.group_facts.specs.Why.{IsAsk, IsCall, is_call, IsResumed, WhyToEditor, answers, asks, passes, recalls, refuses, calls, rejects, resumes, spreads, turns_away, welcomes, progresses, shows, loses, winds_up, pays, IsPaid}
use Rattle.group_rows.proofs.DebtsKept.{refresh_unhurried}

-- One event more

pub asking_more : (settings : Settings) (s : ℕ) (events : List Event) (event : Event) → asking_of settings s (events ++ event ∷ []) ≡ asking_next settings s events (asking_of settings s events) event
asking_more settings s events event = past_more (asking_next settings s) [] no_asking events event

pub asked_by_more : (s : ℕ) (events : List Event) (event : Event) → asked_by s (events ++ event ∷ []) ≡ server_behind s (asked_by s events) event
asked_by_more s events event = fold-append (server_behind s) [] events (event ∷ [])

pub asked_of_more : (e : ℕ) (events : List Event) (event : Event) → asked_of e (events ++ event ∷ []) ≡ editor_behind e (asked_of e events) event
asked_of_more e events event = fold-append (editor_behind e) [] events (event ∷ [])

-- Lists of asks

pub differ_filtered : (test : Ask → Bool) (xs : List Ask) → AllDiffer xs → AllDiffer (filter test xs)
differ_filtered test [] h = tt
differ_filtered test (a ∷ xs) h = go (test a) (differ_filtered test xs h.1)
  where
    go : (b : Bool) → AllDiffer (filter test xs) → AllDiffer (cond b (a ∷ filter test xs) (filter test xs))
    go true k = (all_filtered (λ (b : Ask). same_id a.id b.id ≡ false) (λ (b : Ask). same_id a.id b.id ≡ false) test (λ b t d. d) xs h.0, k)
    go false k = k

pub id_apart : (i k : Id) → same_id i k ≡ false → same_id k i ≡ false
id_apart i k h = go (same_id k i) refl
  where
    go : (b : Bool) → same_id k i ≡ b → b ≡ false
    go true same = never (sym (ap (λ z. same_id z k) (sym (id_same k i same)) ∙ same_id_itself k) ∙ h)
    go false other = refl

-- an ask under another id at the end
differ_last : (xs : List Ask) (a : Ask) → list_any (is_under (Some a.id)) xs ≡ false → AllDiffer xs → AllDiffer (xs ++ a ∷ [])
differ_last [] a fresh h = (tt, tt)
differ_last (x ∷ xs) a fresh h = go (is_under (Some a.id) x) refl (λ k. differ_last xs a k h.1) fresh
  where
    go : (b : Bool) → same_id a.id x.id ≡ b → (list_any (is_under (Some a.id)) xs ≡ false → AllDiffer (xs ++ a ∷ [])) → (b || list_any (is_under (Some a.id)) xs) ≡ false → AllDiffer (x ∷ (xs ++ a ∷ []))
    go true same rest k = never k
    go false other rest k = (all_join (λ (b : Ask). same_id x.id b.id ≡ false) xs (a ∷ []) h.0 (id_apart a.id x.id other, tt), rest k)

-- Lists of what waits

none_of : (a b : Bool) → (a || b) ≡ false → (a ≡ false) × (b ≡ false)
none_of false false h = (refl, refl)
none_of true b h = never h
none_of false true h = never h

none_left : {A : Type 0} (test other : A → Bool) (xs : List A) → list_any test xs ≡ false → list_any test (filter other xs) ≡ false
none_left test other [] h = refl
none_left test other (x ∷ xs) h = let both = none_of (test x) (list_any test xs) h in go (other x) both.0 (none_left test other xs both.1)
  where
    go : (b : Bool) → test x ≡ false → list_any test (filter other xs) ≡ false → list_any test (cond b (x ∷ filter other xs) (filter other xs)) ≡ false
    go true off rest = ap (λ c. c || list_any test (filter other xs)) off ∙ rest
    go false off rest = rest

none_at_end : {A : Type 0} (test : A → Bool) (xs : List A) (a : A) → list_any test xs ≡ false → test a ≡ false → list_any test (xs ++ a ∷ []) ≡ false
none_at_end test [] a h k = ap (λ b. b || false) k
none_at_end test (x ∷ xs) a h k = let both = none_of (test x) (list_any test xs) h in ap (λ b. b || list_any test (xs ++ a ∷ [])) both.0 ∙ none_at_end test xs a both.1 k

-- fewer asks, fewer that wait
apart_filtered : (test : Ask → Bool) (xs : List Ask) (ps : List Parked) → AllApart xs ps → AllApart (filter test xs) ps
apart_filtered test xs [] h = tt
apart_filtered test xs (p ∷ ps) h = (none_left (is_under (Some p.id)) test xs h.0, (h.1.0, apart_filtered test xs ps h.1.1))

apart_left : (test : Parked → Bool) (xs : List Ask) (ps : List Parked) → AllApart xs ps → AllApart xs (filter test ps)
apart_left test xs [] h = tt
apart_left test xs (p ∷ ps) h = go (test p) (apart_left test xs ps h.1.1)
  where
    go : (b : Bool) → AllApart xs (filter test ps) → AllApart xs (cond b (p ∷ filter test ps) (filter test ps))
    go true k = (h.0, (none_left (waits_under (Some p.id)) test ps h.1.0, k))
    go false k = k

-- one more that waits, one more ask
apart_last : (xs : List Ask) (ps : List Parked) (p : Parked) → list_any (is_under (Some p.id)) xs ≡ false → list_any (waits_under (Some p.id)) ps ≡ false → AllApart xs ps → AllApart xs (ps ++ p ∷ [])
apart_last xs [] p free new h = (free, (refl, tt))
apart_last xs (q ∷ ps) p free new h =
    let both = none_of (same_id p.id q.id) (list_any (waits_under (Some p.id)) ps) new in
    (h.0, (none_at_end (waits_under (Some q.id)) ps p h.1.0 (id_apart p.id q.id both.0), apart_last xs ps p free both.1 h.1.1))

apart_asked : (xs : List Ask) (ps : List Parked) (a : Ask) → list_any (waits_under (Some a.id)) ps ≡ false → AllApart xs ps → AllApart (xs ++ a ∷ []) ps
apart_asked xs [] a free h = tt
apart_asked xs (p ∷ ps) a free h =
    let both = none_of (same_id a.id p.id) (list_any (waits_under (Some a.id)) ps) free in
    (none_at_end (is_under (Some p.id)) xs a h.0 (id_apart a.id p.id both.0), (h.1.0, apart_asked xs ps a both.1 h.1.1))

-- What stays open

pub unnamed_open : (o : Option Id) (n : ℕ) (ids : List Id) → names o n ≡ false → is_open (integer (decimal n)) ids ≡ true → is_open (integer (decimal n)) (without o ids) ≡ true
unnamed_open None n ids h k = k
unnamed_open (Some (integer ds)) n ids h k = still_open (integer ds) (integer (decimal n)) ids k h
unnamed_open (Some (text cs)) n ids h k = still_open (text cs) (integer (decimal n)) ids k refl

other_open : (o : Option Id) (a : Ask) (ids : List Id) → is_under o a ≡ false → is_open a.id ids ≡ true → is_open a.id (without o ids) ≡ true
other_open None a ids h k = k
other_open (Some id) a ids h k = still_open id a.id ids k h

pub unless_not : (b : Bool) → not b ≡ true → b ≡ false
unless_not true h = never (sym h)
unless_not false h = refl

-- another editor, or another number
unseated_open : (e : ℕ) (o : Option Id) (a : Ask) (ids : List Id) → is_seated e o a ≡ false → is_open (integer (decimal a.number)) ids ≡ true → is_open (integer (decimal a.number)) (if nat_eq e a.editor then without o ids else ids) ≡ true
unseated_open e o a ids h k = go (nat_eq e a.editor) refl
  where
    go : (b : Bool) → nat_eq e a.editor ≡ b → is_open (integer (decimal a.number)) (if b then without o ids else ids) ≡ true
    go true same = unnamed_open o a.number ids (ap (λ b. b && names o a.number) (sym (ap (λ z. nat_eq a.editor z) (number_same e a.editor same) ∙ same_number a.editor)) ∙ h) k
    go false other = k

still_waits : (o : Option Id) (p : Parked) (ids : List Id) → waits_under o p ≡ false → is_open p.id ids ≡ true → is_open p.id (without o ids) ≡ true
still_waits None p ids h k = k
still_waits (Some id) p ids h k = still_open id p.id ids k h

pick_open : (b : Bool) (o : Option Id) (id : Id) (ids : List Id) → is_open id (without o ids) ≡ true → is_open id ids ≡ true → is_open id (if b then without o ids else ids) ≡ true
pick_open true o id ids h k = h
pick_open false o id ids h k = k

-- One event more

asked_more : (s : ℕ) (events : List Event) (event : Event) (a : Ask) → is_open a.id (server_behind s (asked_by s events) event) ≡ true → is_open (integer (decimal a.number)) (editor_behind a.editor (asked_of a.editor events) event) ≡ true
    → IsAsked s events a → IsAsked s (events ++ event ∷ []) a
asked_more s events event a waits unanswered k = record {
  text = k.text;
  small = k.small;
  waits = ap (is_open a.id) (asked_by_more s events event) ∙ waits;
  unanswered = ap (is_open (integer (decimal a.number))) (asked_of_more a.editor events event) ∙ unanswered;
}

parked_more : (s : ℕ) (events : List Event) (event : Event) (p : Parked) → is_open p.id (server_behind s (asked_by s events) event) ≡ true → IsParked s events p → IsParked s (events ++ event ∷ []) p
parked_more s events event p waits k = record { method = k.method; params = k.params; says = k.says; patient = k.patient; waits = ap (is_open p.id) (asked_by_more s events event) ∙ waits }

module _ (settings : Settings) (s : ℕ) (events : List Event) (event : Event) where
  abbrev next : Asking
  next = asking_next settings s events (asking_of settings s events) event

  -- its asks are these, and these wait
  are_asks : (xs : List Ask) (ps : List Parked) → next.asks ≡ xs → next.parked ≡ ps → AllByRecursion (IsAsked s (events ++ event ∷ [])) xs → AllDiffer xs → AllByRecursion (IsParked s (events ++ event ∷ [])) ps → AllApart xs ps → AreAsks settings s (events ++ event ∷ [])
  are_asks xs ps is are asked differ parked apart =
      let same : asks_of settings s (events ++ event ∷ []) ≡ xs = ap (λ (x : Asking). x.asks) (asking_more settings s events event) ∙ is in
      let those : parked_of settings s (events ++ event ∷ []) ≡ ps = ap (λ (x : Asking). x.parked) (asking_more settings s events event) ∙ are in
      record {
        asked = subst (AllByRecursion (IsAsked s (events ++ event ∷ []))) (sym same) asked;
        differ = subst AllDiffer (sym same) differ;
        parked = subst (AllByRecursion (IsParked s (events ++ event ∷ []))) (sym those) parked;
        apart = subst (λ zs. AllApart zs (parked_of settings s (events ++ event ∷ []))) (sym same) (subst (AllApart xs) (sym those) apart);
      }

  module _ (h : AreAsks settings s events) where
    abbrev asks_now : List Ask
    asks_now = asks_of settings s events

    abbrev parked_now : List Parked
    parked_now = parked_of settings s events

    -- those that pass a test
    fewer : (test : Ask → Bool) (other : Parked → Bool) → ((a : Ask) → test a ≡ true → IsAsked s events a → IsAsked s (events ++ event ∷ []) a) → ((p : Parked) → other p ≡ true → IsParked s events p → IsParked s (events ++ event ∷ []) p)
        → next.asks ≡ filter test asks_now → next.parked ≡ filter other parked_now → AreAsks settings s (events ++ event ∷ [])
    fewer test other f g is are = are_asks (filter test asks_now) (filter other parked_now) is are (all_filtered (IsAsked s events) (IsAsked s (events ++ event ∷ [])) test f asks_now h.asked) (differ_filtered test asks_now h.differ)
        (all_filtered (IsParked s events) (IsParked s (events ++ event ∷ [])) other g parked_now h.parked) (apart_left other (filter test asks_now) parked_now (apart_filtered test asks_now parked_now h.apart))

    answered : (test : Ask → Bool) → ((a : Ask) → test a ≡ true → IsAsked s events a → IsAsked s (events ++ event ∷ []) a) → ((p : Parked) → IsParked s events p → IsParked s (events ++ event ∷ []) p) → next.asks ≡ filter test asks_now → next.parked ≡ parked_now → AreAsks settings s (events ++ event ∷ [])
    answered test f g is are = are_asks (filter test asks_now) parked_now is are (all_filtered (IsAsked s events) (IsAsked s (events ++ event ∷ [])) test f asks_now h.asked) (differ_filtered test asks_now h.differ)
        (all_of (IsParked s events) (IsParked s (events ++ event ∷ [])) g parked_now h.parked) (apart_filtered test asks_now parked_now h.apart)

    stay : ((a : Ask) → IsAsked s events a → IsAsked s (events ++ event ∷ []) a) → ((p : Parked) → IsParked s events p → IsParked s (events ++ event ∷ []) p) → next.asks ≡ asks_now → next.parked ≡ parked_now → AreAsks settings s (events ++ event ∷ [])
    stay f g is are = are_asks asks_now parked_now is are (all_of (IsAsked s events) (IsAsked s (events ++ event ∷ [])) f asks_now h.asked) h.differ (all_of (IsParked s events) (IsParked s (events ++ event ∷ [])) g parked_now h.parked) h.apart

    -- one more waits
    wait_more : (p : Parked) → ((a : Ask) → IsAsked s events a → IsAsked s (events ++ event ∷ []) a) → ((p : Parked) → IsParked s events p → IsParked s (events ++ event ∷ []) p) → IsParked s (events ++ event ∷ []) p
        → is_taken (Some p.id) (asking_of settings s events) ≡ false → next.asks ≡ asks_now → next.parked ≡ parked_now ++ p ∷ [] → AreAsks settings s (events ++ event ∷ [])
    wait_more p f g new fresh is are =
        let free = none_of (list_any (is_under (Some p.id)) asks_now) (list_any (waits_under (Some p.id)) parked_now) fresh in
        are_asks asks_now (parked_now ++ p ∷ []) is are (all_of (IsAsked s events) (IsAsked s (events ++ event ∷ [])) f asks_now h.asked) h.differ
        (all_join (IsParked s (events ++ event ∷ [])) parked_now (p ∷ []) (all_of (IsParked s events) (IsParked s (events ++ event ∷ [])) g parked_now h.parked) (new, tt)) (apart_last asks_now parked_now p free.0 free.1 h.apart)

    -- those of a start that ended are over
    over : (b : Bool) → next ≡ (if b then no_asking else idle_asking (asking_of settings s events)) → ((a : Ask) → IsAsked s events a → IsAsked s (events ++ event ∷ []) a) → ((p : Parked) → IsParked s events p → IsParked s (events ++ event ∷ []) p) → AreAsks settings s (events ++ event ∷ [])
    over true is f g = are_asks [] [] (ap (λ (x : Asking). x.asks) is) (ap (λ (x : Asking). x.parked) is) tt tt tt tt
    over false is f g = stay f g (ap (λ (x : Asking). x.asks) is) (ap (λ (x : Asking). x.parked) is)

    -- an event that neither asks nor answers
    rests : ((ids : List Id) → server_behind s ids event ≡ ids) → ((e : ℕ) (ids : List Id) → editor_behind e ids event ≡ ids) → next.asks ≡ asks_now → next.parked ≡ parked_now → AreAsks settings s (events ++ event ∷ [])
    rests quiet silent = stay (λ a k. asked_more s events event a (ap (is_open a.id) (quiet (asked_by s events)) ∙ k.waits) (ap (is_open (integer (decimal a.number))) (silent a.editor (asked_of a.editor events)) ∙ k.unanswered) k)
        (λ p k. parked_more s events event p (ap (is_open p.id) (quiet (asked_by s events)) ∙ k.waits) k)

-- S12: what the message lets wait
abbrev kept_if : Bool → Id → List ℕ → List Parked
kept_if b id body = if b then record { id = id; body = body } ∷ [] else []

data Waits (settings : Settings) (s : ℕ) (events : List Event) (x : Asking) (body : List ℕ) (m : Message) : Type 0 where
  waits_none : parks settings s events x body m ≡ [] → Waits settings s events x body m
  waits_one : (id : Id) (method : List ℕ) (params : Option Json) → m ≡ request id method params → is_patient method ≡ true → is_taken (Some id) x ≡ false → parks settings s events x body m ≡ record { id = id; body = body } ∷ [] → Waits settings s events x body m

waits_of : (settings : Settings) (s : ℕ) (events : List Event) (x : Asking) (body : List ℕ) (m : Message) → Waits settings s events x body m
waits_of settings s events x body (request id method ps) = go (is_patient method && (is_ready (life_of s events).stage && (not (is_taken (Some id) x) && not (has_running settings events s)))) refl
  where
    go : (t : Bool) → (is_patient method && (is_ready (life_of s events).stage && (not (is_taken (Some id) x) && not (has_running settings events s)))) ≡ t → Waits settings s events x body (request id method ps)
    go false h = waits_none (ap (λ t. kept_if t id body) h)
    go true h =
        let a = and_parts (is_patient method) (is_ready (life_of s events).stage && (not (is_taken (Some id) x) && not (has_running settings events s))) h in
        let b = and_parts (is_ready (life_of s events).stage) (not (is_taken (Some id) x) && not (has_running settings events s)) a.1 in
        let c = and_parts (not (is_taken (Some id) x)) (not (has_running settings events s)) b.1 in
        waits_one id method ps refl a.0 (unless_not (is_taken (Some id) x) c.0) (ap (λ t. kept_if t id body) h)
waits_of settings s events x body (notification method ps) = waits_none refl
waits_of settings s events x body (result id r) = waits_none refl
waits_of settings s events x body (error id r) = waits_none refl
waits_of settings s events x body not_json = waits_none refl
waits_of settings s events x body not_message = waits_none refl

-- none waits where an editor runs
pub attended_none : (settings : Settings) (s : ℕ) (events : List Event) (x : Asking) (body : List ℕ) (id : Id) (method : List ℕ) (ps : Option Json) → (is_patient method ≡ true → has_running settings events s ≡ true) → parks settings s events x body (request id method ps) ≡ []
attended_none settings s events x body id method params runs = go (is_patient method) refl
  where
    all_off : (a b c : Bool) → (a && (b && (c && false))) ≡ false
    all_off true true true = refl
    all_off true true false = refl
    all_off true false c = refl
    all_off false b c = refl

    go : (b : Bool) → is_patient method ≡ b → kept_if (is_patient method && (is_ready (life_of s events).stage && (not (is_taken (Some id) x) && not (has_running settings events s)))) id body ≡ []
    go false is = ap (λ b. kept_if (b && (is_ready (life_of s events).stage && (not (is_taken (Some id) x) && not (has_running settings events s)))) id body) is
    go true is = ap (λ c. kept_if (is_patient method && (is_ready (life_of s events).stage && (not (is_taken (Some id) x) && not c))) id body) (runs is)
        ∙ ap (λ c. kept_if c id body) (all_off (is_patient method) (is_ready (life_of s events).stage) (not (is_taken (Some id) x)))

module _ (settings : Settings) where
  -- a message of a start
  from_start : (events : List Event) (n : ℕ) (body : List ℕ) → Asks settings events → Asks settings (with_cause events (FromServer n body))
  from_start events n body h s = go (nat_eq n s) refl
    where
      event : Event
      event = heard (FromServer n body)

      x : Asking
      x = asking_of settings s events

      f : (a : Ask) → IsAsked s events a → IsAsked s (events ++ event ∷ []) a
      f a k = asked_more s events event a (hears_open (nat_eq n s) (message_of body) (asked_by s events) a.id k.waits) k.unanswered k

      g : (p : Parked) → IsParked s events p → IsParked s (events ++ event ∷ []) p
      g p k = parked_more s events event p (hears_open (nat_eq n s) (message_of body) (asked_by s events) p.id k.waits) k

      more : nat_eq n s ≡ true → Waits settings s events x body (message_of body) → AreAsks settings s (events ++ event ∷ [])
      more same (waits_none is) = stay settings s events event (h s) f g (rw same refl) (rw same (ap (λ ps. x.parked ++ ps) is ∙ append-nil x.parked))
      more same (waits_one id method params says patient fresh is) = wait_more settings s events event (h s) (record { id = id; body = body }) f g
          (record {
            method = method;
            params = params;
            says = says;
            patient = patient;
            waits = ap (is_open id) (asked_by_more s events event ∙ (ap (λ b. if b then with_request (message_of body) (asked_by s events) else asked_by s events) same ∙ ap (λ m. with_request m (asked_by s events)) says)) ∙ open_last id (asked_by s events);
          })
          fresh (rw same refl) (rw same (ap (λ ps. x.parked ++ ps) is))

      go : (b : Bool) → nat_eq n s ≡ b → AreAsks settings s (events ++ event ∷ [])
      go true same = more same (waits_of settings s events x body (message_of body))
      go false other = stay settings s events event (h s) f g (rw other refl) (rw other refl)

  -- a cause
  pub asks_took : (events : List Event) (cause : Cause) → Asks settings events → Asks settings (with_cause events cause)
  asks_took events (FromServer n body) h s = from_start events n body h s
  asks_took events (FromEditor e body) h s = answered settings s events (heard (FromEditor e body)) (h s) (λ a. not (is_seated e (answered_id (message_of body)) a))
      (λ a away k. asked_more s events (heard (FromEditor e body)) a k.waits (unseated_open e (answered_id (message_of body)) a (asked_of a.editor events) (unless_not (is_seated e (answered_id (message_of body)) a) away) k.unanswered) k)
      (λ p k. parked_more s events (heard (FromEditor e body)) p k.waits k) refl refl
  asks_took events (StartFailed n) h s = over settings s events (heard (StartFailed n)) (h s) (nat_eq n s) refl (λ a k. asked_more s events (heard (StartFailed n)) a k.waits k.unanswered k) (λ p k. parked_more s events (heard (StartFailed n)) p k.waits k)
  asks_took events (ServerGone n) h s = over settings s events (heard (ServerGone n)) (h s) (nat_eq n s) refl (λ a k. asked_more s events (heard (ServerGone n)) a k.waits k.unanswered k) (λ p k. parked_more s events (heard (ServerGone n)) p k.waits k)
  asks_took events (Joined e) h s = rests settings s events (heard (Joined e)) (h s) (λ ids. refl) (λ e ids. refl) refl refl
  asks_took events (EditorGone e why) h s = rests settings s events (heard (EditorGone e why)) (h s) (λ ids. refl) (λ e ids. refl) refl refl
  asks_took events (Started n) h s = rests settings s events (heard (Started n)) (h s) (λ ids. refl) (λ e ids. refl) refl refl
  asks_took events (Drained e n) h s = rests settings s events (heard (Drained e n)) (h s) (λ ids. refl) (λ e ids. refl) refl refl
  asks_took events (Tick t) h s = rests settings s events (heard (Tick t)) (h s) (λ ids. refl) (λ e ids. refl) refl refl

  -- a body to a start
  pub asks_sent : (events : List Event) (n : ℕ) (body : List ℕ) → Asks settings events → Asks settings (events ++ said (ToServer n body) ∷ [])
  asks_sent events n body h s = go (nat_eq n s) refl
    where
      event : Event
      event = said (ToServer n body)

      go : (b : Bool) → nat_eq n s ≡ b → AreAsks settings s (events ++ said (ToServer n body) ∷ [])
      go true same = fewer settings s events (said (ToServer n body)) (h s) (λ a. not (is_under (answered_id (message_of body)) a)) (λ p. not (waits_under (answered_id (message_of body)) p))
          (λ a away k. asked_more s events (said (ToServer n body)) a (pick_open (nat_eq n s) (answered_id (message_of body)) a.id (asked_by s events) (other_open (answered_id (message_of body)) a (asked_by s events) (unless_not (is_under (answered_id (message_of body)) a) away) k.waits) k.waits) k.unanswered k)
          (λ p away k. parked_more s events (said (ToServer n body)) p (pick_open (nat_eq n s) (answered_id (message_of body)) p.id (asked_by s events) (still_waits (answered_id (message_of body)) p (asked_by s events) (unless_not (waits_under (answered_id (message_of body)) p) away) k.waits) k.waits) k)
          (rw same refl) (rw same refl)
      go false other = stay settings s events (said (ToServer n body)) (h s) (λ a k. asked_more s events (said (ToServer n body)) a (rw other k.waits) k.unanswered k) (λ p k. parked_more s events (said (ToServer n body)) p (rw other k.waits) k) (rw other refl) (rw other refl)

  -- an out that is no body
  pub asks_spawned : (events : List Event) (n g : ℕ) → Asks settings events → Asks settings (events ++ said (Spawn n g) ∷ [])
  asks_spawned events n g h s = rests settings s events (said (Spawn n g)) (h s) (λ ids. refl) (λ e ids. refl) refl refl

  pub asks_closed : (events : List Event) (e : ℕ) → Asks settings events → Asks settings (events ++ said (CloseEditor e) ∷ [])
  asks_closed events e h s = rests settings s events (said (CloseEditor e)) (h s) (λ ids. refl) (λ e ids. refl) refl refl

  pub asks_ended : (events : List Event) (n : ℕ) → Asks settings events → Asks settings (events ++ said (EndServer n) ∷ [])
  asks_ended events n h s = rests settings s events (said (EndServer n)) (h s) (λ ids. refl) (λ e ids. refl) refl refl

-- A body to an editor

abbrev pub is_question : Message → Bool
is_question (request id method ps) = true
is_question _ = false

pub unasked : (settings : Settings) (s e : ℕ) (events : List Event) (x : Asking) (body : List ℕ) (m : Message) → is_question m ≡ false → asking_next settings s events x (did (ToEditor e body) m) ≡ x
unasked settings s e events x body (request id method ps) h = never h
unasked settings s e events x body (notification method ps) h = refl
unasked settings s e events x body (result id r) h = refl
unasked settings s e events x body (error id r) h = refl
unasked settings s e events x body not_json h = refl
unasked settings s e events x body not_message h = refl

pub response_asks_none : (m : Message) → is_response m ≡ true → is_question m ≡ false
response_asks_none (request id method ps) h = never (sym h)
response_asks_none (notification method ps) h = refl
response_asks_none (result id r) h = refl
response_asks_none (error id r) h = refl
response_asks_none not_json h = refl
response_asks_none not_message h = refl

-- a start of another number doesn't serve the editor
pub serves_one : (o : Option ℕ) (s t : ℕ) → option_map_or (nat_eq s) o false ≡ true → nat_eq s t ≡ false → option_map_or (nat_eq t) o false ≡ false
serves_one None s t h other = never (sym h)
serves_one (Some n) s t h other = go (nat_eq t n) refl
  where
    go : (b : Bool) → nat_eq t n ≡ b → b ≡ false
    go false e = refl
    go true e = never (sym (ap (nat_eq s) (number_same t n e) ∙ h) ∙ other)

-- the daemon's own request waits for no editor
changing_hurried : (c : Class) → (changes_live c || names_create c) ≡ true → may_wait c ≡ false
changing_hurried Register h = refl
changing_hurried Unregister h = refl
changing_hurried Create h = refl
changing_hurried _ h = never (sym h)

pub call_hurried : (method : List ℕ) → is_call method ≡ true → is_patient method ≡ false
call_hurried method h = changing_hurried (class_of method Server false) h

module _ (settings : Settings) (events : List Event) (e : ℕ) (body : List ℕ) where
  abbrev told : List Event
  told = events ++ said (ToEditor e body) ∷ []

  abbrev event : Event
  event = said (ToEditor e body)

  told_one : (s : ℕ) (a : Ask) → IsAsked s events a → IsAsked s told a
  told_one s a k = asked_more s events event a k.waits (hears_open (nat_eq e a.editor) (message_of body) (asked_of a.editor events) (integer (decimal a.number)) k.unanswered) k

  told_waits : (s : ℕ) (p : Parked) → IsParked s events p → IsParked s told p
  told_waits s p k = parked_more s events event p k.waits k

  no_question : (m : Message) → message_of body ≡ m → is_question m ≡ false → Asks settings events → Asks settings told
  no_question m says none h s = let same : asking_next settings s events (asking_of settings s events) event ≡ asking_of settings s events = unasked settings s e events (asking_of settings s events) body (message_of body) (ap is_question says ∙ none) in
      stay settings s events event (h s) (told_one s) (told_waits s) (ap (λ (x : Asking). x.asks) same) (ap (λ (x : Asking). x.parked) same)

  -- under the next number to the editor
  abbrev number : ℕ
  number = next_ask e events

  -- what the event makes of what the start asks
  abbrev made : ℕ → Asking
  made s = asking_next settings s events (asking_of settings s events) event

  made_by : (s : ℕ) (id : Id) (method : List ℕ) (params : Option Json) (o : Option Asker) → message_of body ≡ request id method params → (asking_of settings s events).asker ≡ o
      → made s ≡ asked_next (is_own_work e (asking_of settings s events).runs && (is_patient method && serves settings events s e)) e number (asking_of settings s events) o
  made_by s id method params o says is = ap (λ m. asking_next settings s events (asking_of settings s events) (did (ToEditor e body) m)) says
      ∙ ap (asked_next (is_own_work e (asking_of settings s events).runs && (is_patient method && serves settings events s e)) e number (asking_of settings s events)) is

  -- one that is new
  open_here : (id : Id) (method : List ℕ) (params : Option Json) → message_of body ≡ request (integer (decimal number)) method params → is_open (integer (decimal number)) (asked_of e told) ≡ true
  open_here id method params says = ap (is_open (integer (decimal number))) (asked_of_more e events event ∙ asked_here ∙ ap (λ m. with_request m (asked_of e events)) says) ∙ open_last (integer (decimal number)) (asked_of e events)
    where
      asked_here : editor_behind e (asked_of e events) event ≡ with_request (message_of body) (asked_of e events)
      asked_here = ap (λ b. if b then with_request (message_of body) (asked_of e events) else asked_of e events) (same_number e)

  module _ (before : List Event) (cause : Cause) (k : IsAsk settings before cause events e body) where
    abbrev put_here : ℕ → List Ask
    put_here s = put (if nat_eq k.start s then asker_of k.asked (message_of k.asked) else None) e number

    idle_made : (s : ℕ) → (o : Option Asker) → (asking_of settings s events).asker ≡ o → ((made s).asks ≡ asks_of settings s events ++ put o e number) × ((made s).parked ≡ parked_of settings s events)
    idle_made s (Some a) is = let same = made_by s (integer (decimal number)) k.method k.params (Some a) k.says is in (ap (λ (x : Asking). x.asks) same, ap (λ (x : Asking). x.parked) same)
    idle_made s None is =
        let same = made_by s (integer (decimal number)) k.method k.params None k.says is ∙ ap (λ o. asked_next (is_own_work e o && (is_patient k.method && serves settings events s e)) e number (asking_of settings s events) None) (k.quiet s) in
        (ap (λ (x : Asking). x.asks) same ∙ sym (append-nil (asks_of settings s events)), ap (λ (x : Asking). x.parked) same)

    pub listed : (s : ℕ) → (made s).asks ≡ asks_of settings s events ++ put_here s
    listed s = (idle_made s (if nat_eq k.start s then asker_of k.asked (message_of k.asked) else None) (k.asker s)).0

    still_parked : (s : ℕ) → (made s).parked ≡ parked_of settings s events
    still_parked s = (idle_made s (if nat_eq k.start s then asker_of k.asked (message_of k.asked) else None) (k.asker s)).1

    -- no new ask
    same_asks : (s : ℕ) → put_here s ≡ [] → AreAsks settings s events → AreAsks settings s told
    same_asks s none h = stay settings s events event h (told_one s) (told_waits s) (listed s ∙ ap (λ xs. asks_of settings s events ++ xs) none ∙ append-nil (asks_of settings s events)) (still_parked s)

    asker_is : asker_of k.asked (message_of k.asked) ≡ (if is_single k.method then Some (record { id = k.id; bytes = id_bytes k.asked }) else None)
    asker_is = ap (asker_of k.asked) k.asks

    module _ (single : is_single k.method ≡ true) where
      abbrev new : Ask
      new = record { id = k.id; bytes = id_bytes k.asked; editor = e; number = number }

      here : events ≡ with_cause before (FromServer k.start k.asked)
      here = k.first single ∙ ap (with_cause before) (k.source).from

      abbrev was : Asking
      was = asking_of settings k.start before

      heard_here : asking_of settings k.start events ≡ record { asker = asker_of k.asked (message_of k.asked); runs = None; asks = was.asks; parked = was.parked ++ [] }
      heard_here = ap (asking_of settings k.start) here ∙ (asking_more settings k.start before (heard (FromServer k.start k.asked))
          ∙ (ap (λ b. if b then record { asker = asker_of k.asked (message_of k.asked); runs = None; asks = was.asks; parked = was.parked ++ parks settings k.start before was k.asked (message_of k.asked) } else idle_asking was) (same_number k.start)
          ∙ ap (λ ps. record { asker = asker_of k.asked (message_of k.asked); runs = None; asks = was.asks; parked = was.parked ++ ps }) (ap (parks settings k.start before was k.asked) k.asks ∙ attended_none settings k.start before was k.asked k.id k.method k.given k.attended)))

      free : (list_any (is_under (Some k.id)) was.asks ≡ false) × (list_any (waits_under (Some k.id)) was.parked ≡ false)
      free = none_of (list_any (is_under (Some k.id)) was.asks) (list_any (waits_under (Some k.id)) was.parked) k.fresh

      fresh : list_any (is_under (Some k.id)) (asks_of settings k.start events) ≡ false
      fresh = ap (λ (x : Asking). list_any (is_under (Some k.id)) x.asks) heard_here ∙ free.0

      unawaited : list_any (waits_under (Some k.id)) (parked_of settings k.start events) ≡ false
      unawaited = ap (λ (x : Asking). list_any (waits_under (Some k.id)) x.parked) heard_here ∙ (ap (list_any (waits_under (Some k.id))) (append-nil was.parked) ∙ free.1)

      open_there : is_open k.id (asked_by k.start events) ≡ true
      open_there = ap (λ z. is_open k.id (asked_by k.start z)) here ∙ ap (is_open k.id) (asked_by_more k.start before (heard (FromServer k.start k.asked)) ∙ asked_here ∙ ap (λ m. with_request m (asked_by k.start before)) k.asks) ∙ open_last k.id (asked_by k.start before)
        where
          asked_here : server_behind k.start (asked_by k.start before) (heard (FromServer k.start k.asked)) ≡ with_request (message_of k.asked) (asked_by k.start before)
          asked_here = ap (λ b. if b then with_request (message_of k.asked) (asked_by k.start before) else asked_by k.start before) (same_number k.start)

      new_asked : IsAsked k.start told new
      new_asked = record {
        text = request_id_bytes k.asked k.id k.method k.given k.asks;
        small = ltb-true number (2 ^ 64) k.room;
        waits = ap (is_open k.id) (asked_by_more k.start events event) ∙ open_there;
        unanswered = open_here k.id k.method k.params k.says;
      }

      more_asks : AreAsks settings k.start events → AreAsks settings k.start told
      more_asks h = are_asks settings k.start events event (asks_of settings k.start events ++ new ∷ []) (parked_of settings k.start events)
          (listed k.start ∙ ap (λ b. asks_of settings k.start events ++ put (if b then asker_of k.asked (message_of k.asked) else None) e number) (same_number k.start)
          ∙ ap (λ o. asks_of settings k.start events ++ put o e number) (asker_is ∙ ap (λ b. if b then Some (record { id = k.id; bytes = id_bytes k.asked }) else None) single))
          (still_parked k.start)
          (all_join (IsAsked k.start told) (asks_of settings k.start events) (new ∷ []) (all_of (IsAsked k.start events) (IsAsked k.start told) (told_one k.start) (asks_of settings k.start events) h.asked) (new_asked, tt))
          (differ_last (asks_of settings k.start events) new fresh h.differ)
          (all_of (IsParked k.start events) (IsParked k.start told) (told_waits k.start) (parked_of settings k.start events) h.parked)
          (apart_asked (asks_of settings k.start events) (parked_of settings k.start events) new unawaited h.apart)

    question : Asks settings events → Asks settings told
    question h s = go (nat_eq k.start s) refl (is_single k.method) refl
      where
        go : (b : Bool) → nat_eq k.start s ≡ b → (c : Bool) → is_single k.method ≡ c → AreAsks settings s told
        go false other c single = same_asks s (ap (λ b. put (if b then asker_of k.asked (message_of k.asked) else None) e number) other) (h s)
        go true same false many = same_asks s (ap (λ b. put (if b then asker_of k.asked (message_of k.asked) else None) e number) same
            ∙ ap (λ o. put o e number) (asker_is ∙ ap (λ b. if b then Some (record { id = k.id; bytes = id_bytes k.asked }) else None) many)) (h s)
        go true same true single = subst (λ z. AreAsks settings z told) (number_same k.start s same) (more_asks single (h k.start))

  -- L2
  module _ (before : List Event) (cause : Cause) (k : IsResumed settings before cause events e body) where
    abbrev pub taken : Ask
    taken = record { id = (k.first).id; bytes = id_bytes (k.first).body; editor = e; number = number }

    pub resumed_made : (s : ℕ) → (b : Bool) → serves settings events s e ≡ b → made s ≡ (if b then unparked e number (asking_of settings s events) (parked_of settings s events) else asking_of settings s events)
    resumed_made s b is = made_by s (integer (decimal number)) k.method k.params None k.says (k.idle s)
        ∙ ap (λ o. asked_next (is_own_work e o && (is_patient k.method && serves settings events s e)) e number (asking_of settings s events) None) (k.own s)
        ∙ ap (λ c. asked_next (c && (is_patient k.method && serves settings events s e)) e number (asking_of settings s events) None) (same_number e)
        ∙ ap (λ c. asked_next (c && serves settings events s e) e number (asking_of settings s events) None) k.patient
        ∙ ap (λ c. asked_next c e number (asking_of settings s events) None) is

    pub resumed_here : made k.start ≡ record { asker = (asking_of settings k.start events).asker; runs = (asking_of settings k.start events).runs; asks = asks_of settings k.start events ++ taken ∷ []; parked = k.rest }
    resumed_here = resumed_made k.start true k.served ∙ ap (unparked e number (asking_of settings k.start events)) k.waits

    pub resumed_off : (s : ℕ) → nat_eq k.start s ≡ false → made s ≡ asking_of settings s events
    resumed_off s other = resumed_made s false (serves_one (option_and_then (λ g. start_of g events) (home_of settings e events)) k.start s k.served other)

    first_parked : AreAsks settings k.start events → AllByRecursion (IsParked k.start events) (k.first ∷ k.rest)
    first_parked h = subst (AllByRecursion (IsParked k.start events)) k.waits h.parked

    first_apart : AreAsks settings k.start events → AllApart (asks_of settings k.start events) (k.first ∷ k.rest)
    first_apart h = subst (AllApart (asks_of settings k.start events)) k.waits h.apart

    taken_asked : AreAsks settings k.start events → IsAsked k.start told taken
    taken_asked h = record {
      text = request_id_bytes (k.first).body (k.first).id k.method k.params k.asks;
      small = ltb-true number (2 ^ 64) k.room;
      waits = ap (is_open (k.first).id) (asked_by_more k.start events event) ∙ ((first_parked h).0).waits;
      unanswered = open_here (k.first).id k.method k.params k.says;
    }

    taken_asks : AreAsks settings k.start events → AreAsks settings k.start told
    taken_asks h = are_asks settings k.start events event (asks_of settings k.start events ++ taken ∷ []) k.rest (ap (λ (x : Asking). x.asks) resumed_here) (ap (λ (x : Asking). x.parked) resumed_here)
        (all_join (IsAsked k.start told) (asks_of settings k.start events) (taken ∷ []) (all_of (IsAsked k.start events) (IsAsked k.start told) (told_one k.start) (asks_of settings k.start events) h.asked) (taken_asked h, tt))
        (differ_last (asks_of settings k.start events) taken (first_apart h).0 h.differ)
        (all_of (IsParked k.start events) (IsParked k.start told) (told_waits k.start) k.rest (first_parked h).1)
        (apart_asked (asks_of settings k.start events) k.rest taken (first_apart h).1.0 (first_apart h).1.1)

    resumed : Asks settings events → Asks settings told
    resumed h s = go (nat_eq k.start s) refl
      where
        go : (b : Bool) → nat_eq k.start s ≡ b → AreAsks settings s told
        go true same = subst (λ z. AreAsks settings z told) (number_same k.start s same) (taken_asks (h k.start))
        go false other =
            let same : made s ≡ asking_of settings s events = resumed_off s other in
            stay settings s events event (h s) (told_one s) (told_waits s) (ap (λ (x : Asking). x.asks) same) (ap (λ (x : Asking). x.parked) same)

  -- the daemon's own request
  module _ (before : List Event) (cause : Cause) (k : IsCall settings before cause events e body) where
    and_off : (a : Bool) → (a && false) ≡ false
    and_off true = refl
    and_off false = refl

    pub registering_made : (s : ℕ) → made s ≡ asking_of settings s events
    registering_made s = made_by s (integer (decimal number)) k.method k.params None k.says (k.idle s)
        ∙ ap (λ b. asked_next (is_own_work e (asking_of settings s events).runs && (b && serves settings events s e)) e number (asking_of settings s events) None) (call_hurried k.method k.named)
        ∙ ap (λ c. asked_next c e number (asking_of settings s events) None) (and_off (is_own_work e (asking_of settings s events).runs))

    registering : Asks settings events → Asks settings told
    registering h s = stay settings s events event (h s) (told_one s) (told_waits s) (ap (λ (x : Asking). x.asks) (registering_made s)) (ap (λ (x : Asking). x.parked) (registering_made s))

  -- what the editor is owed
  module _ (before : List Event) (cause : Cause) (k : IsPaid settings before cause events e body) where
    none_of_both : (a : Bool) → (a && false) ≡ false
    none_of_both true = refl
    none_of_both false = refl

    pub paid_made : (s : ℕ) → made s ≡ asking_of settings s events
    paid_made s = made_by s (integer (decimal number)) (k.debt).method k.params None k.says (k.idle s)
        ∙ ap (λ b. asked_next (is_own_work e (asking_of settings s events).runs && (b && serves settings events s e)) e number (asking_of settings s events) None) (refresh_unhurried (k.debt).method k.wants)
        ∙ ap (λ c. asked_next c e number (asking_of settings s events) None) (none_of_both (is_own_work e (asking_of settings s events).runs))

    paid : Asks settings events → Asks settings told
    paid h s = stay settings s events event (h s) (told_one s) (told_waits s) (ap (λ (x : Asking). x.asks) (paid_made s)) (ap (λ (x : Asking). x.parked) (paid_made s))

  pub asks_told : (before : List Event) (cause : Cause) → WhyToEditor settings before cause events e body → Asks settings events → Asks settings told
  asks_told before cause (rejects k) h = no_question (error None k.x) k.says refl h
  asks_told before cause (refuses k) h = no_question (error (Some k.id) k.x) k.says refl h
  asks_told before cause (answers k) h = no_question (result (Some k.id) k.r) k.says refl h
  asks_told before cause (turns_away k) h = no_question (error (Some k.id) k.x) k.says refl h
  asks_told before cause (loses k) h = no_question (error (Some k.id) k.x) k.says refl h
  asks_told before cause (welcomes k) h = no_question (result (Some k.id) k.r) k.says refl h
  asks_told before cause (passes k) h = no_question (message_of body) refl (response_asks_none (message_of body) k.response) h
  asks_told before cause (asks k) h = question before cause k h
  asks_told before cause (resumes k) h = resumed before cause k h
  asks_told before cause (pays k) h = paid before cause k h
  asks_told before cause (calls k) h = registering before cause k h
  asks_told before cause (spreads k) h = no_question (notification k.method k.params) k.says refl h
  asks_told before cause (recalls k) h = no_question (notification (codes "$/cancelRequest") (Some k.params)) k.says refl h
  asks_told before cause (progresses k) h = no_question (notification k.method k.params) k.says refl h
  asks_told before cause (shows k) h = no_question (notification k.method k.params) k.says refl h
  asks_told before cause (winds_up k) h = no_question (notification k.method (Some k.params)) k.says refl h

pub no_asks : (settings : Settings) → Asks settings []
no_asks settings s = record { asked = tt; differ = tt; parked = tt; apart = tt }
